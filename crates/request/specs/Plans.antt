-- How a request is laid out in its frame: its head, the marks of its reads and writes, and where its tag begins.
use Rattle.std.specs.Prelude.{ℕ, ◌+◌, List, map, length, None, Ok, Err, Result, nat_le}
use Rattle.fault.specs.declared.Fault.{Fault}
use Rattle.fault.specs.declared.Layer.TheVariants.{Frame}
use Rattle.fault.specs.declared.Cause.TheVariants.{Malformed}
use Rattle.fault.specs.Codes.{fault}
use Rattle.inline_vec.specs.Lists.{items}
use Rattle.octets.specs.Parts.{part_at}
use Rattle.record.specs.Chains.{unless, and_then, after, tested}
use Rattle.record.specs.Formats.{Format, number, done, is, up_to, within, any, walk}
use Rattle.record.specs.Rules.{rising, covered}
use Rattle.record.specs.Runs.{run, spotted}
use Rattle.request.specs.declared.mark.ReadAt.{ReadAt}
use Rattle.request.specs.declared.mark.WriteAt.{WriteAt}
use Rattle.request.specs.declared.plan.Head.{Head}
use Rattle.request.specs.declared.plan.Plan.{Plan}
use Rattle.request.specs.Bodies.{RequestBody, reads_at}
use Rattle.request.specs.Marks.{read_number, read_place, read_ends, read_stands, read_body, write_number, write_place, write_ends, write_stands, write_body}

-- 01, client, sequence number, counts
abbrev pub head_format : ℕ → Format Head
head_format w =
    number 1 (is 1) (λ kind.
    number 1 (up_to 15) (λ client.
    number w any (λ sequence.
    number 1 (up_to 16) (λ reads.
    number 1 (within 1 8) (λ writes.
    done (record { client = client; sequence = sequence; reads = reads; writes = writes }))))))

abbrev pub head_of : ℕ → List ℕ → Result Head Fault
head_of w bs = walk Frame (head_format w) (λ h e. Ok h) bs 0

-- where the parts of a request stand
pub record Marks : Type 0 where
  pub top : Head
  pub reads : List ReadAt
  pub writes : List WriteAt
  pub writes_at : ℕ
  pub tag_at : ℕ

-- the tag ends the frame
abbrev pub with_tag : List ℕ → Head → List ReadAt × ℕ → List WriteAt × ℕ → Result Marks Fault
with_tag bs h p q =
    unless (nat_le (q.1 + 16) (length bs)) (fault Malformed Frame (length bs))
    (unless (nat_le (length bs) (q.1 + 16)) (fault Malformed Frame (q.1 + 16))
    (Ok (record { top = h; reads = p.0; writes = q.0; writes_at = p.1; tag_at = q.1 })))

-- the writes stand behind the reads
abbrev pub with_writes : List ℕ → Head → List ReadAt × ℕ → Result Marks Fault
with_writes bs h p = and_then (run write_stands write_ends bs h.writes p.1) (with_tag bs h p)

-- the reads stand behind the head
abbrev pub with_reads : ℕ → List ℕ → Head → Result Marks Fault
with_reads w bs h = and_then (run (read_stands w) (read_ends w) bs h.reads (reads_at w)) (with_writes bs h)

-- where the parts of a frame in range stand
abbrev pub laid : ℕ → List ℕ → Result Marks Fault
laid w bs = and_then (head_of w bs) (with_reads w bs)

-- the rules behind rule 1, on marks
abbrev pub ordered : Marks → Result (Unit {0}) Fault
ordered m =
    after (tested (rising Frame None (spotted read_number read_place m.reads)))
    (after (tested (rising Frame None (spotted write_number write_place m.writes)))
    (tested (covered Frame (map read_number m.reads) (spotted write_number write_place m.writes))))

-- what a frame whose parts are marked holds
abbrev pub body_of : ℕ → List ℕ → Marks → RequestBody
body_of w bs m = record {
  client = m.top.client;
  sequence = m.top.sequence;
  reads = map (read_body w bs) m.reads;
  writes = map (write_body bs) m.writes;
  tag = part_at bs m.tag_at 16;
}

-- the marks in a plan
abbrev pub planned : Plan → Marks
planned p = record { top = p.top; reads = items p.reads; writes = items p.writes; writes_at = p.writes_at; tag_at = p.tag_at }

abbrev pub plan_seen : Result Plan Fault → Result Marks Fault
plan_seen (Ok p) = Ok (planned p)
plan_seen (Err f) = Err f
