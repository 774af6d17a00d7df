-- Readings that are to be written.
use Rattle.std.specs.Prelude.{ℕ, ◌≤◌, List, [], ◌∷◌, ◌++◌, map, length, Ok, Result}
use Rattle.std.specs.List.{flat_map}
use Rattle.fault.specs.declared.Fault.{Fault}
use Rattle.fault.specs.declared.Layer.TheVariants.{Frame}
use Rattle.octets.specs.Numbers.{be, limit}
use Rattle.record.specs.Chains.{and_then}
use Rattle.record.specs.Formats.{Field, num}
use Rattle.record.specs.Runs.{planned_run}
use Rattle.record.specs.Writing.{judge}
use Rattle.reading.specs.declared.mark.ItemAt.{ItemAt}
use Rattle.reading.specs.declared.part.ReadingDraft.{ReadingDraft}
use Rattle.reading.specs.Bodies.{ReadingItemBody, ReadingBody, reading_item_format, reading_item_fields}
use Rattle.reading.specs.Marks.{read_item_mark, read_item_ends}
use Rattle.reading.specs.Plans.{Marks, count_format}

-- what an item and a whole draft hold
abbrev pub read_item_drafted : ReadingDraft → ReadingItemBody
read_item_drafted d = record { item = d.item; version = d.version; value = d.value.now }

abbrev pub drafted : List ReadingDraft → ReadingBody
drafted ds = record { items = map read_item_drafted ds }

-- the bytes of an item
abbrev pub read_item_bytes : ReadingDraft → List ℕ
read_item_bytes d = be 1 d.item ++ (be 2 d.version ++ (be 1 (length d.value.now) ++ d.value.now))

-- what can be written: numbers that fit their bytes
abbrev pub read_item_ready : ReadingDraft → Type 0
read_item_ready d = (d.version ≤ limit 2) × (length d.value.now ≤ 32)

-- where a reader finds an item that is written at a place, or what it refuses
abbrev pub read_item_judged : ReadingDraft → ℕ → Result ItemAt Fault
read_item_judged d at = judge Frame (reading_item_format 2) (λ b gs e. Ok (read_item_mark b at e)) (reading_item_fields 2 (read_item_drafted d)) at

-- the fields before the items
abbrev pub count_fields : ℕ → List Field
count_fields n = num 1 5 ∷ num 1 n ∷ []

abbrev pub count_judged : ℕ → Result ℕ Fault
count_judged n = judge Frame count_format (λ c gs e. Ok c) (count_fields n) 0

abbrev pub count_bytes : ℕ → List ℕ
count_bytes n = be 1 5 ++ be 1 n

-- where the items of a draft will stand
abbrev pub plan_items : List ReadingDraft → ℕ → Result Marks Fault
plan_items ds n = and_then (planned_run read_item_judged read_item_ends ds 2) (λ q. Ok (record { count = n; items = q.0; end = q.1 }))

abbrev pub plan_draft : List ReadingDraft → Result Marks Fault
plan_draft ds = and_then (count_judged (length ds)) (plan_items ds)

-- the bytes of a draft, piece by piece
abbrev pub draft_bytes : List ReadingDraft → List ℕ
draft_bytes ds = count_bytes (length ds) ++ flat_map read_item_bytes ds
