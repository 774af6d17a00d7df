-- What the rules behind rule 1 say of a request in range, in plain words.
use Rattle.std.specs.Prelude.{◌≡◌, ℕ, ◌⊎◌, List, map, Ok, Err, Result}
use Rattle.fault.specs.declared.Fault.{Fault}
use Rattle.fault.specs.declared.Layer.TheVariants.{Frame}
use Rattle.fault.specs.declared.Cause.TheVariants.{NotRising, Unread}
use Rattle.record.specs.Orders.{Rises, FirstFall, Covers, FirstUnread}
use Rattle.request.specs.Bodies.{RequestBody, read_item, read_spots, write_spots}

-- the items that a request reads
abbrev pub items_read : RequestBody → List ℕ
items_read b = map read_item b.reads

-- accepted: the reads rise, the writes rise, each write's item was read; refused: at the first record that breaks the first of these that is broken
abbrev pub Orderly : ℕ → RequestBody → Result RequestBody Fault → Type 0
Orderly w b (Ok a) = (a ≡ b) × Rises (read_spots w b) × Rises (write_spots w b) × Covers (items_read b) (write_spots w b)
Orderly w b (Err e) =
    (e.layer ≡ Frame)
    × (((e.cause ≡ NotRising) × FirstFall (read_spots w b) e.place)
    ⊎ (((e.cause ≡ NotRising) × Rises (read_spots w b) × FirstFall (write_spots w b) e.place)
    ⊎ ((e.cause ≡ Unread) × Rises (read_spots w b) × Rises (write_spots w b) × FirstUnread (items_read b) (write_spots w b) e.place)))
