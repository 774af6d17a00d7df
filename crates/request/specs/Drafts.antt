-- Requests that are to be written.
use Rattle.std.specs.Prelude.{ℕ, ◌≤◌, List, [], ◌∷◌, ◌++◌, map, length, Ok, Result}
use Rattle.std.specs.List.{flat_map}
use Rattle.fault.specs.declared.Fault.{Fault}
use Rattle.fault.specs.declared.Layer.TheVariants.{Frame}
use Rattle.octets.specs.Numbers.{be, limit}
use Rattle.record.specs.Chains.{and_then}
use Rattle.record.specs.Formats.{Field, num}
use Rattle.record.specs.Runs.{planned_run}
use Rattle.record.specs.Writing.{judge}
use Rattle.request.specs.declared.mark.ReadAt.{ReadAt}
use Rattle.request.specs.declared.mark.WriteAt.{WriteAt}
use Rattle.request.specs.declared.item.ReadItem.{ReadItem}
use Rattle.request.specs.declared.item.WriteItem.{WriteItem}
use Rattle.request.specs.declared.plan.Head.{Head}
use Rattle.request.specs.declared.draft.Draft.{Draft}
use Rattle.request.specs.Bodies.{ReadBody, WriteBody, RequestBody, read_format, write_format, read_fields, write_fields, reads_at}
use Rattle.request.specs.Marks.{read_mark, read_ends, write_mark, write_ends}
use Rattle.request.specs.Plans.{Marks, head_format}

abbrev pub read_drafted : ReadItem → ReadBody
read_drafted r = record { item = r.item; version = r.version; digest = r.digest }

abbrev pub write_drafted : WriteItem → WriteBody
write_drafted r = record { item = r.item; value = r.value.now }

-- what a draft holds
abbrev pub drafted : Draft → RequestBody
drafted d = record {
  client = d.client;
  sequence = d.sequence;
  reads = map read_drafted d.reads.now;
  writes = map write_drafted d.writes.now;
  tag = d.tag;
}

-- the bytes of a read and of a write
abbrev pub read_bytes : ReadItem → List ℕ
read_bytes r = be 1 r.item ++ (be 2 r.version ++ r.digest)

abbrev pub write_bytes : WriteItem → List ℕ
write_bytes r = be 1 r.item ++ (be 1 (length r.value.now) ++ r.value.now)

-- what can be written: numbers that fit their bytes
abbrev pub read_ready : ReadItem → Type 0
read_ready r = r.version ≤ limit 2

abbrev pub write_ready : WriteItem → Type 0
write_ready r = length r.value.now ≤ 32

-- where a reader finds a read and a write that are written at a place, or what it refuses
abbrev pub read_judged : ReadItem → ℕ → Result ReadAt Fault
read_judged r at = judge Frame (read_format 2) (λ b gs e. Ok (read_mark b at e)) (read_fields 2 (read_drafted r)) at

abbrev pub write_judged : WriteItem → ℕ → Result WriteAt Fault
write_judged r at = judge Frame write_format (λ b gs e. Ok (write_mark b at e)) (write_fields (write_drafted r)) at

-- the fields before the reads
abbrev pub head_fields : ℕ → ℕ → ℕ → ℕ → ℕ → List Field
head_fields w client sequence reads writes = num 1 1 ∷ num 1 client ∷ num w sequence ∷ num 1 reads ∷ num 1 writes ∷ []

abbrev pub head_judged : ℕ → ℕ → ℕ → ℕ → Result Head Fault
head_judged client sequence reads writes = judge Frame (head_format 2) (λ h gs e. Ok h) (head_fields 2 client sequence reads writes) 0

abbrev pub head_bytes : ℕ → ℕ → ℕ → ℕ → List ℕ
head_bytes client sequence reads writes = be 1 1 ++ (be 1 client ++ (be 2 sequence ++ (be 1 reads ++ be 1 writes)))

-- where the parts of a draft will stand
abbrev pub plan_writes : Draft → Head → List ReadAt × ℕ → Result Marks Fault
plan_writes d h p = and_then (planned_run write_judged write_ends d.writes.now p.1) (λ q. Ok (record { top = h; reads = p.0; writes = q.0; writes_at = p.1; tag_at = q.1 }))

abbrev pub plan_reads : Draft → Head → Result Marks Fault
plan_reads d h = and_then (planned_run read_judged (read_ends 2) d.reads.now (reads_at 2)) (plan_writes d h)

abbrev pub plan_draft : Draft → Result Marks Fault
plan_draft d = and_then (head_judged d.client d.sequence (length d.reads.now) (length d.writes.now)) (plan_reads d)

-- the bytes of a draft, piece by piece
abbrev pub draft_bytes : Draft → List ℕ
draft_bytes d =
    ((head_bytes d.client d.sequence (length d.reads.now) (length d.writes.now)
    ++ flat_map read_bytes d.reads.now)
    ++ flat_map write_bytes d.writes.now)
    ++ d.tag
