-- Items as they stand in a frame.
use Rattle.std.specs.Prelude.{ℕ, ◌+◌, ◌-◌, List, Ok, Result}
use Rattle.fault.specs.declared.Fault.{Fault}
use Rattle.fault.specs.declared.Layer.TheVariants.{Frame}
use Rattle.octets.specs.Parts.{part_at}
use Rattle.record.specs.Formats.{walk}
use Rattle.reading.specs.declared.mark.ItemAt.{ItemAt}
use Rattle.reading.specs.Bodies.{ReadingItemBody, reading_item_format}

abbrev pub read_item_number : ItemAt → ℕ
read_item_number r = r.item

abbrev pub read_item_place : ItemAt → ℕ
read_item_place r = r.place

abbrev pub read_item_ends : ItemAt → ℕ
read_item_ends r = r.after

-- the mark of an item that begins at a place, and the place behind it
abbrev pub read_item_mark : ReadingItemBody → ℕ → ℕ → ItemAt
read_item_mark b at e = record { item = b.item; version = b.version; place = at; after = e }

abbrev pub read_item_stands : ℕ → List ℕ → ℕ → Result ItemAt Fault
read_item_stands w bs at = walk Frame (reading_item_format w) (λ b e. Ok (read_item_mark b at e)) bs at

-- what a marked item holds
abbrev pub read_item_body : ℕ → List ℕ → ItemAt → ReadingItemBody
read_item_body w bs r = record { item = r.item; version = r.version; value = part_at bs (r.place + (w + 2)) (r.after - (r.place + (w + 2))) }
