-- What a table means.
use Rattle.std.specs.Prelude.{ℕ, replicate, slice_index_or, refl}
use Rattle.std.proofs.Common.{zero-le}
use Rattle.store.specs.Slot.{Slot, slot}
use Rattle.store.specs.declared.record.Record.{Record}
use Rattle.store.specs.declared.table.Table.{Table}

-- stands where a list of rows has no row
abbrev pub no_row : Record
no_row = record { version = 0; value = record { bytes = record { places = replicate 32 0; len = 0; within = zero-le; whole = refl } }; digest = replicate 32 0; whole = refl }

-- an item's slot is what its row says
abbrev pub rows : Table → ℕ → Slot
rows t k = slot (slice_index_or t.rows k no_row)
