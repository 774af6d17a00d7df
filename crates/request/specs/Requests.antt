-- What a request that is read in place holds, and its parts one by one.
use Rattle.std.specs.Prelude.{◌≡◌, ℕ, ◌+◌, ◌-◌, ◌≤◌, cond, ◌&&◌, List, map, length, take, Some, None, Ok, Err, Option, Result, nat_le}
use Rattle.std.specs.Option.{option_and_then}
use Rattle.std.specs.List.{slice_get, AllByRecursion}
use Rattle.fault.specs.declared.Fault.{Fault}
use Rattle.inline_vec.specs.Lists.{items}
use Rattle.octets.specs.Parts.{part_at}
use Rattle.record.specs.Shown.{shown}
use Rattle.record.specs.declared.records.Records.{Records}
use Rattle.request.specs.declared.mark.ReadAt.{ReadAt}
use Rattle.request.specs.declared.mark.WriteAt.{WriteAt}
use Rattle.request.specs.declared.Request.{Request}
use Rattle.request.specs.declared.Read.{Read}
use Rattle.request.specs.declared.Write.{Write}
use Rattle.request.specs.Bodies.{ReadBody, WriteBody, RequestBody}
use Rattle.request.specs.Marks.{read_body, write_body}
use Rattle.request.specs.Sizes.{covered_part}
use Rattle.request.specs.Plans.{planned}

-- the request that a decoded frame holds
abbrev pub held : Request → RequestBody
held q = record {
  client = q.plan.top.client;
  sequence = q.plan.top.sequence;
  reads = map (read_body 2 q.frame.now) (planned q.plan).reads;
  writes = map (write_body q.frame.now) (planned q.plan).writes;
  tag = q.tag.now;
}

abbrev pub seen : Result Request Fault → Result RequestBody Fault
seen (Ok q) = Ok (held q)
seen (Err f) = Err f

-- a record of the frame, with its offset
abbrev pub read_shown : Read → ReadBody × ℕ
read_shown r = (record { item = r.item; version = r.version; digest = r.digest.now }, r.place)

abbrev pub write_shown : Write → WriteBody × ℕ
write_shown r = (record { item = r.item; value = r.value.now }, r.place)

abbrev pub read_seen : Option Read → Option (ReadBody × ℕ)
read_seen (Some r) = Some (read_shown r)
read_seen None = None

abbrev pub write_seen : Option Write → Option (WriteBody × ℕ)
write_seen (Some r) = Some (write_shown r)
write_seen None = None

-- read i of the frame, a part of it
abbrev pub read_view : List ℕ → ReadAt → ReadBody × ℕ
read_view bs m = (read_body 2 bs m, m.place)

abbrev pub write_view : List ℕ → WriteAt → WriteBody × ℕ
write_view bs m = (write_body bs m, m.place)

-- the record that a mark stands for, if it lies in the frame
abbrev pub read_in : List ℕ → ReadAt → Option (ReadBody × ℕ)
read_in bs m = cond (nat_le (m.place + 35) (length bs)) (Some (read_view bs m)) None

abbrev pub write_in : List ℕ → WriteAt → Option (WriteBody × ℕ)
write_in bs m = cond (nat_le (m.place + 2) m.after && nat_le m.after (length bs)) (Some (write_view bs m)) None

-- what an iterator over records has left
abbrev pub reads_left : Records ReadAt → List (ReadBody × ℕ)
reads_left s = shown read_in s.frame.now s.marks.now

abbrev pub writes_left : Records WriteAt → List (WriteBody × ℕ)
writes_left s = shown write_in s.frame.now s.marks.now

-- record i, if the plan has it and it lies in the frame
abbrev pub read_of : Request → ℕ → Option (ReadBody × ℕ)
read_of q i = option_and_then (read_in q.frame.now) (slice_get (planned q.plan).reads i)

abbrev pub write_of : Request → ℕ → Option (WriteBody × ℕ)
write_of q i = option_and_then (write_in q.frame.now) (slice_get (planned q.plan).writes i)

-- the records of a decoded frame, each with its offset
abbrev pub read_views : Request → List (ReadBody × ℕ)
read_views q = map (read_view q.frame.now) (planned q.plan).reads

abbrev pub write_views : Request → List (WriteBody × ℕ)
write_views q = map (write_view q.frame.now) (planned q.plan).writes

-- each record that the plan has lies in the frame
abbrev pub ReadsFound : Request → Type 0
ReadsFound q = (i : ℕ) → read_of q i ≡ slice_get (read_views q) i

abbrev pub WritesFound : Request → Type 0
WritesFound q = (i : ℕ) → write_of q i ≡ slice_get (write_views q) i

-- each record lies in the frame, the lists and the tag are parts of it, and the tag ends it
pub record Found (bs : List ℕ) (q : Request) : Type 0 where
  pub frame : q.frame.now ≡ bs
  pub reads : q.plan.top.reads ≤ 16
  pub writes : q.plan.top.writes ≤ 8
  -- the lists have as many records as the head counts
  pub counted : (length (items q.plan.reads) ≡ q.plan.top.reads) × (length (items q.plan.writes) ≡ q.plan.top.writes)
  pub reads_in : AllByRecursion (λ m. m.place + 35 ≤ length bs) (planned q.plan).reads
  pub writes_in : AllByRecursion (λ m. (m.place + 2 ≤ m.after) × (m.after ≤ length bs)) (planned q.plan).writes
  pub tag : q.tag.now ≡ part_at bs q.plan.tag_at 16
  pub tag-long : length q.tag.now ≡ 16
  pub read-list : q.reads.now ≡ part_at bs 6 (q.plan.writes_at - 6)
  pub write-list : q.writes.now ≡ part_at bs q.plan.writes_at (q.plan.tag_at - q.plan.writes_at)
  pub end : length bs ≡ q.plan.tag_at + 16
  pub each_read : ReadsFound q
  pub each_write : WritesFound q
  -- what stands before the tag is what the tag covers
  pub covered : take q.plan.tag_at bs ≡ covered_part 2 (held q)
