-- What the rule behind rule 1 says of a reading in range, in plain words.
use Rattle.std.specs.Prelude.{◌≡◌, ℕ, List, Ok, Err, Result}
use Rattle.fault.specs.declared.Fault.{Fault}
use Rattle.fault.specs.declared.Layer.TheVariants.{Frame}
use Rattle.fault.specs.declared.Cause.TheVariants.{NotRising}
use Rattle.record.specs.Rules.{Spot, spots}
use Rattle.record.specs.Orders.{Rises, FirstFall}
use Rattle.reading.specs.Bodies.{ReadingBody, reading_item_fields, read_item_item}

-- the items of a reading, and where they begin in its frame
abbrev pub item_spots : ℕ → ReadingBody → List Spot
item_spots w b = spots read_item_item (reading_item_fields w) 2 b.items

-- accepted: the items rise; refused: at the first item that is not above the one before
abbrev pub Orderly : ℕ → ReadingBody → Result ReadingBody Fault → Type 0
Orderly w b (Ok a) = (a ≡ b) × Rises (item_spots w b)
Orderly w b (Err e) = (e.cause ≡ NotRising) × (e.layer ≡ Frame) × FirstFall (item_spots w b) e.place
