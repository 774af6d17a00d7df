-- What holds of every row of records.
use Rattle.std.specs.Prelude.{◌≡◌, ℕ, ◌+◌, ◌<◌, ◌≤◌, Bool, false, cond, not, List, [], ◌∷◌, ◌++◌, length, drop, ◌==◌, slice_index_or}
use Rattle.store.specs.Slot.{slot, blank}
use Rattle.log_store.specs.Records.{item_of, has, latest, latest_only, counted, different, installed}
use Rattle.log_store.specs.declared.records.LogRecord.{LogRecord}

-- an item holds what the last of its records says, and is blank where it has none
abbrev pub Latest_counts : Type 0
Latest_counts =
    ((before after : List LogRecord) (r : LogRecord) → has after (item_of r) ≡ false → latest (before ++ r ∷ after) (item_of r) ≡ slot r.row)
    × ((rs : List LogRecord) (x : ℕ) → has rs x ≡ false → latest rs x ≡ blank)

-- the records whose mark is true, in order
abbrev pub marked : List Bool → List LogRecord → List LogRecord
marked [] rs = []
marked (m ∷ ms) [] = []
marked (m ∷ ms) (r ∷ rs) = cond m (r ∷ marked ms rs) (marked ms rs)

-- a mark for each record: true exactly where no later record has its item
pub record MarksLatest (ms : List Bool) (rs : List LogRecord) : Type 0 where
  pub each : length ms ≡ length rs
  pub says : (i : ℕ) (r : LogRecord) → i < length rs → r ≡ slice_index_or rs i r → slice_index_or ms i false ≡ not (has (drop (i + 1) rs) (item_of r))

-- tidying leaves the records that no later one of their item follows, in order: one for each different item, with the same meaning
abbrev pub Tidying : Type 0
Tidying =
    (rs : List LogRecord)
    → ((ms : List Bool) × (MarksLatest ms rs × (latest_only rs ≡ marked ms rs)))
    × (length (latest_only rs) ≡ different rs)
    × (different rs ≤ 64)
    × ((x : ℕ) → latest (latest_only rs) x ≡ latest rs x)

-- how many records item x has
abbrev pub count_of : ℕ → List LogRecord → ℕ
count_of x [] = 0
count_of x (r ∷ rs) = counted (item_of r == x) + count_of x rs

-- the records of a log of 65 that has every item, and item 0 twice
pub record EveryItemAndFirstTwice (rs : List LogRecord) : Type 0 where
  pub fits : length rs ≤ 65
  pub every : (x : ℕ) → x < 64 → 1 ≤ count_of x rs
  pub twice : 2 ≤ count_of 0 rs

-- such a log is full, and the next install leaves 65 records
abbrev pub Full_at_65 : Type 0
Full_at_65 = (rs : List LogRecord) → EveryItemAndFirstTwice rs → (length rs ≡ 65) × ((r : LogRecord) → length (installed 65 rs r) ≡ 65)
