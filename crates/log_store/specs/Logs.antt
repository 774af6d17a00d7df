-- What a log means.
use Rattle.std.specs.Prelude.{ℕ, List}
use Rattle.inline_vec.specs.Lists.{items}
use Rattle.store.specs.Slot.{Slot}
use Rattle.log_store.specs.Records.{latest}
use Rattle.log_store.specs.declared.Log.{Log}
use Rattle.log_store.specs.declared.records.LogRecord.{LogRecord}

module _ {n : ℕ} where
  -- the records in use
  abbrev pub in_use : Log n → List LogRecord
  in_use g = items g.records

  -- an item holds what its latest record says
  abbrev pub logged : Log n → ℕ → Slot
  logged g x = latest (in_use g) x
