-- The latest records are those that no later one of their item follows.
use Rattle.std.proofs.Common.{◌≡◌, ℕ, zero, suc, ◌<◌, Bool, true, false, cond, not, List, [], ◌∷◌, length, get_or, drop, sym, refl, ap, add-one, arith}
use Rattle.store.specs.Slot.{blank}
use Rattle.log_store.specs.Records.{item_of, has, latest_only}
use Rattle.log_store.specs.Laws.{Latest_counts, Tidying, marked}
use Rattle.log_store.specs.declared.records.LogRecord.{LogRecord}
use Rattle.log_store.proofs.Rows.{last_none, last_split}
use Rattle.log_store.proofs.Latest.{latest_tidied, length-latest, different-few}

pub latest_counts : Latest_counts
latest_counts = (last_split blank, last_none blank)

marks : List LogRecord → List Bool
marks [] = []
marks (r ∷ rs) = not (has rs (item_of r)) ∷ marks rs

length-marks : (rs : List LogRecord) → length (marks rs) ≡ length rs
unfolding marks
length-marks [] = refl
length-marks (r ∷ rs) = ap suc (length-marks rs)

marks_say : (rs : List LogRecord) (i : ℕ) (r : LogRecord) → i < length rs → r ≡ get_or rs i r → get_or (marks rs) i false ≡ not (has (drop (suc i) rs) (item_of r))
unfolding marks
marks_say [] i r lt e = absurd (omega arith)
marks_say (q ∷ rs) zero r lt e = ap (λ (p : LogRecord). not (has rs (item_of p))) (sym e)
marks_say (q ∷ rs) (suc i) r lt e = marks_say rs i r (omega arith) e

latest-marked : (rs : List LogRecord) → latest_only rs ≡ marked (marks rs) rs
unfolding marks
latest-marked [] = refl
latest-marked (r ∷ rs) = go (has rs (item_of r)) (latest-marked rs)
  where
    go : (b : Bool) → latest_only rs ≡ marked (marks rs) rs → cond b (latest_only rs) (r ∷ latest_only rs) ≡ cond (not b) (r ∷ marked (marks rs) rs) (marked (marks rs) rs)
    go true ih = ih
    go false ih = ap (λ (ls : List LogRecord). r ∷ ls) ih

pub tidying : Tidying
tidying rs = (
  (marks rs, (record { each = length-marks rs; says = λ i r lt e. rw add-one (marks_say rs i r lt e) }, latest-marked rs)),
  length-latest rs,
  different-few rs,
  latest_tidied rs,
)
