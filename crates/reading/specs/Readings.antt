-- What a reading that is read in place holds, and its items one by one.
use Rattle.std.specs.Prelude.{◌≡◌, ℕ, ◌+◌, ◌-◌, ◌≤◌, cond, ◌&&◌, List, map, length, Some, None, Ok, Err, Option, Result, nat_le}
use Rattle.std.specs.List.{slice_get}
use Rattle.std.specs.Option.{option_and_then}
use Rattle.fault.specs.declared.Fault.{Fault}
use Rattle.octets.specs.Parts.{part_at}
use Rattle.record.specs.Runs.{spotted}
use Rattle.record.specs.Shown.{shown}
use Rattle.record.specs.declared.records.Records.{Records}
use Rattle.reading.specs.declared.mark.ItemAt.{ItemAt}
use Rattle.reading.specs.declared.Reading.{Reading}
use Rattle.reading.specs.declared.ReadingItem.{ReadingItem}
use Rattle.reading.specs.Bodies.{ReadingItemBody, ReadingBody}
use Rattle.reading.specs.Orders.{item_spots}
use Rattle.reading.specs.Marks.{read_item_body, read_item_number, read_item_place}
use Rattle.reading.specs.Plans.{planned}

-- the reading that a decoded frame holds
abbrev pub held : Reading → ReadingBody
held q = record { items = map (read_item_body 2 q.frame.now) (planned q.plan).items }

abbrev pub seen : Result Reading Fault → Result ReadingBody Fault
seen (Ok q) = Ok (held q)
seen (Err f) = Err f

-- an item of the frame, with its offset
abbrev pub item_shown : ReadingItem → ReadingItemBody × ℕ
item_shown r = (record { item = r.item; version = r.version; value = r.value.now }, r.place)

abbrev pub item_seen : Option ReadingItem → Option (ReadingItemBody × ℕ)
item_seen (Some r) = Some (item_shown r)
item_seen None = None

abbrev pub item_view : List ℕ → ItemAt → ReadingItemBody × ℕ
item_view bs m = (read_item_body 2 bs m, m.place)

-- the item that a mark stands for, if it lies in the frame
abbrev pub item_in : List ℕ → ItemAt → Option (ReadingItemBody × ℕ)
item_in bs m = cond (nat_le (m.place + 4) m.after && nat_le m.after (length bs)) (Some (item_view bs m)) None

-- what an iterator over items has left
abbrev pub items_left : Records ItemAt → List (ReadingItemBody × ℕ)
items_left s = shown item_in s.frame.now s.marks.now

-- item i, if the plan has it and it lies in the frame
abbrev pub item_of : Reading → ℕ → Option (ReadingItemBody × ℕ)
item_of q i = option_and_then (item_in q.frame.now) (slice_get (planned q.plan).items i)

-- the items of a decoded frame, each with its offset
abbrev pub item_views : Reading → List (ReadingItemBody × ℕ)
item_views q = map (item_view q.frame.now) (planned q.plan).items

-- each item that the plan has lies in the frame
abbrev pub ItemsFound : Reading → Type 0
ItemsFound q = (i : ℕ) → item_of q i ≡ slice_get (item_views q) i

-- there are 1 to 16 items, each is the one that the frame holds at its offset, and the last ends the frame
pub record Found (bs : List ℕ) (q : Reading) : Type 0 where
  pub frame : q.frame.now ≡ bs
  pub some : 1 ≤ (planned q.plan).count
  pub few : (planned q.plan).count ≤ 16
  pub counted : length (held q).items ≡ (planned q.plan).count
  pub places : spotted read_item_number read_item_place (planned q.plan).items ≡ item_spots 2 (held q)
  pub each_item : ItemsFound q
  pub list : q.items.now ≡ part_at bs 2 (q.plan.end - 2)
  pub end : length bs ≡ q.plan.end
