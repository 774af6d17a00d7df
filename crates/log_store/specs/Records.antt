-- What a row of records means, in the order in which they were installed.
use Rattle.std.specs.Prelude.{ℕ, zero, suc, ◌+◌, Bool, true, false, cond, ◌||◌, List, [], ◌∷◌, ◌++◌, length, ◌==◌}
use Rattle.store.specs.Slot.{Slot, slot, blank}
use Rattle.store.specs.declared.item.Item.{Item}
use Rattle.store.specs.declared.record.Record.{Record}
use Rattle.log_store.specs.declared.records.LogRecord.{LogRecord}

-- the record of one install
abbrev pub recorded : Item → Record → LogRecord
recorded i r = record { item = i; row = r }

-- the number of a record's item
abbrev pub item_of : LogRecord → ℕ
item_of r = r.item.number

-- whether one of the records is item x's
abbrev pub has : List LogRecord → ℕ → Bool
has [] x = false
has (r ∷ rs) x = item_of r == x || has rs x

-- what the last record of item x says, or s where there is none
abbrev pub last_or : Slot → List LogRecord → ℕ → Slot
last_or s [] x = s
last_or s (r ∷ rs) x = last_or (cond (item_of r == x) (slot r.row) s) rs x

-- an item's latest record counts; an item without a record is blank
abbrev pub latest : List LogRecord → ℕ → Slot
latest rs x = last_or blank rs x

-- the latest record of each item, in order: a record is dropped when a later one has its item
abbrev pub latest_only : List LogRecord → List LogRecord
latest_only [] = []
latest_only (r ∷ rs) = cond (has rs (item_of r)) (latest_only rs) (r ∷ latest_only rs)

-- 1 where a test holds, else 0
abbrev pub counted : Bool → ℕ
counted true = 1
counted false = 0

-- how many of the items below n have a record
unfoldable pub different_below : ℕ → List LogRecord → ℕ
different_below zero rs = 0
different_below (suc n) rs = different_below n rs + counted (has rs n)

-- the number of different items among the records
abbrev pub different : List LogRecord → ℕ
different rs = different_below 64 rs

-- a log in memory for n records drops all but the latest records when it is full
abbrev pub roomy : ℕ → List LogRecord → List LogRecord
roomy n rs = cond (length rs == n) (latest_only rs) rs

-- and then appends the new one
abbrev pub installed : ℕ → List LogRecord → LogRecord → List LogRecord
installed n rs r = roomy n rs ++ r ∷ []
