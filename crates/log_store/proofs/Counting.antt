-- How many records the items have.
use Rattle.std.proofs.Common.{◌≡◌, ℕ, zero, suc, ◌+◌, ◌<◌, ◌≤◌, Bool, true, false, cond, ◌||◌, eqb, List, [], ◌∷◌, ◌++◌, length, sym, refl, ap, ◌∙◌, arith, length-append}
use Rattle.std.proofs.lemmas.Bool.{eqb-true, eqb-false, eq-eqb, ne_eqb}
use Rattle.log_store.specs.Records.{item_of, has, latest_only, counted, different_below}
use Rattle.log_store.specs.Laws.{count_of, Full_at_65}
use Rattle.log_store.specs.declared.records.LogRecord.{LogRecord}
use Rattle.log_store.proofs.Latest.{length-latest}

-- the records of the items below n
count_below : ℕ → List LogRecord → ℕ
count_below zero rs = 0
count_below (suc n) rs = count_below n rs + count_of n rs

below_high : (n : ℕ) (r : LogRecord) (rs : List LogRecord) → n ≤ item_of r → count_below n (r ∷ rs) ≡ count_below n rs
unfolding count_below
below_high zero r rs h = refl
below_high (suc n) r rs h =
    let ih = below_high n r rs (omega arith) in
    let e : counted (eqb (item_of r) n) ≡ 0 = ap counted (ne_eqb (item_of r) n (λ q. omega arith)) in
    omega arith

below_low : (n : ℕ) (r : LogRecord) (rs : List LogRecord) → item_of r < n → count_below n (r ∷ rs) ≡ count_below n rs + 1
unfolding count_below
below_low zero r rs h = absurd (omega arith)
below_low (suc n) r rs h = go (eqb (item_of r) n) refl (below_low n r rs)
  where
    go : (b : Bool) → eqb (item_of r) n ≡ b → (item_of r < n → count_below n (r ∷ rs) ≡ count_below n rs + 1) → count_below n (r ∷ rs) + (counted b + count_of n rs) ≡ count_below n rs + count_of n rs + 1
    go true e ih = let q : item_of r ≡ n = eqb-true _ _ e in let high = below_high n r rs (omega arith) in omega arith
    go false e ih = let ne : item_of r ≡ n → ⊥ = eqb-false _ _ e in let low = ih (omega arith) in omega arith

none_below : (n : ℕ) → count_below n [] ≡ 0
unfolding count_below
none_below zero = refl
none_below (suc n) = let ih = none_below n in omega arith

-- each record is counted for its item
length_counts : (rs : List LogRecord) → length rs ≡ count_below 64 rs
length_counts [] = sym (none_below 64)
length_counts (r ∷ rs) = let ih = length_counts rs in let low = below_low 64 r rs r.item.below in omega arith

at_least : (rs : List LogRecord) (n : ℕ) → 1 ≤ n → ((x : ℕ) → x < n → 1 ≤ count_of x rs) → 2 ≤ count_of 0 rs → n + 1 ≤ count_below n rs
unfolding count_below
at_least rs zero h every twice = absurd (omega arith)
at_least rs (suc zero) h every twice = omega arith
at_least rs (suc (suc n)) h every twice =
    let ih = at_least rs (suc n) (omega arith) (λ x lt. every x (omega arith)) twice in
    let one = every (suc n) (omega arith) in
    omega arith

counted_has : (x : ℕ) (rs : List LogRecord) → 1 ≤ count_of x rs → has rs x ≡ true
counted_has x [] h = absurd (omega arith)
counted_has x (r ∷ rs) h = go (eqb (item_of r) x) h (counted_has x rs)
  where
    go : (b : Bool) → 1 ≤ counted b + count_of x rs → (1 ≤ count_of x rs → has rs x ≡ true) → (b || has rs x) ≡ true
    go true h' ih = refl
    go false h' ih = ih (omega arith)

all_different : (rs : List LogRecord) (n : ℕ) → ((x : ℕ) → x < n → 1 ≤ count_of x rs) → different_below n rs ≡ n
unfolding different_below
all_different rs zero every = refl
all_different rs (suc n) every =
    let ih = all_different rs n (λ x lt. every x (omega arith)) in
    let here : counted (has rs n) ≡ 1 = ap counted (counted_has n rs (every n (omega arith))) in
    omega arith

pub full_at_65 : Full_at_65
full_at_65 rs shape =
    let fits = shape.fits in
    let most = at_least rs 64 (omega arith) shape.every shape.twice in
    let all = length_counts rs in
    let full : length rs ≡ 65 = omega arith in
    let left : length (latest_only rs) ≡ 64 = length-latest rs ∙ all_different rs 64 shape.every in (
      full,
      λ r.
          ap (λ (b : Bool). length (cond b (latest_only rs) rs ++ r ∷ [])) (eq-eqb (length rs) 65 full)
          ∙ length-append (latest_only rs) (r ∷ []) ∙ ap (λ n. n + 1) left,
    )
