-- The latest records alone mean what all of them mean, and there is one for each item that has a record.
use Rattle.std.proofs.Common.{◌≡◌, ℕ, zero, suc, ◌+◌, ◌<◌, ◌≤◌, Bool, true, false, cond, not, ◌||◌, eqb, List, [], ◌∷◌, length, refl, ap, ◌∙◌, subst, arith}
use Rattle.std.proofs.lemmas.Bool.{both_ways, eqb-true, eqb-false, ne_eqb}
use Rattle.inline_vec.specs.Lists.{KeepsByRest}
use Rattle.store.specs.Slot.{Slot, slot, blank}
use Rattle.log_store.specs.Records.{item_of, has, last_or, latest, latest_only, counted, different_below, different, roomy}
use Rattle.log_store.specs.declared.records.LogRecord.{LogRecord}

-- where an item has a record, what stood before counts for nothing
last_has : (s t : Slot) (rs : List LogRecord) (x : ℕ) → has rs x ≡ true → last_or s rs x ≡ last_or t rs x
last_has s t [] x e = absurd (both_ways false refl e)
last_has s t (r ∷ rs) x e = go (eqb (item_of r) x) e (last_has s t rs x)
  where
    go : (b : Bool) → (b || has rs x) ≡ true → (has rs x ≡ true → last_or s rs x ≡ last_or t rs x) → last_or (cond b (slot r.row) s) rs x ≡ last_or (cond b (slot r.row) t) rs x
    go true e' ih = refl
    go false e' ih = ih e'

last_tidied : (s : Slot) (rs : List LogRecord) (x : ℕ) → last_or s (latest_only rs) x ≡ last_or s rs x
last_tidied s [] x = refl
last_tidied s (r ∷ rs) x = go (has rs (item_of r)) refl (λ u. last_tidied u rs x)
  where
    void : (b : Bool) → eqb (item_of r) x ≡ b → has rs (item_of r) ≡ true → last_or s rs x ≡ last_or (cond b (slot r.row) s) rs x
    void true e h = last_has _ _ rs x (subst (λ y. has rs y ≡ true) (eqb-true _ _ e) h)
    void false e h = refl

    go : (b : Bool) → has rs (item_of r) ≡ b → ((u : Slot) → last_or u (latest_only rs) x ≡ last_or u rs x) → last_or s (cond b (latest_only rs) (r ∷ latest_only rs)) x ≡ last_or (cond (eqb (item_of r) x) (slot r.row) s) rs x
    go true e ih = ih s ∙ void (eqb (item_of r) x) refl e
    go false e ih = ih (cond (eqb (item_of r) x) (slot r.row) s)

pub latest_tidied : (rs : List LogRecord) (x : ℕ) → latest (latest_only rs) x ≡ latest rs x
latest_tidied rs x = last_tidied blank rs x

pub latest-roomy : (n : ℕ) (rs : List LogRecord) (x : ℕ) → latest (roomy n rs) x ≡ latest rs x
latest-roomy n rs x = go (eqb (length rs) n)
  where
    go : (b : Bool) → latest (cond b (latest_only rs) rs) x ≡ latest rs x
    go true = latest_tidied rs x
    go false = refl

-- one record in front: one item more, unless a later record has it
different-high : (n : ℕ) (r : LogRecord) (rs : List LogRecord) → n ≤ item_of r → different_below n (r ∷ rs) ≡ different_below n rs
unfolding different_below
different-high zero r rs h = refl
different-high (suc n) r rs h =
    let ih = different-high n r rs (omega arith) in
    let e : counted (eqb (item_of r) n || has rs n) ≡ counted (has rs n) = ap (λ b. counted (b || has rs n)) (ne_eqb (item_of r) n (λ q. omega arith)) in
    omega arith

different-low : (n : ℕ) (r : LogRecord) (rs : List LogRecord) → item_of r < n → different_below n (r ∷ rs) + counted (has rs (item_of r)) ≡ different_below n rs + 1
unfolding different_below
different-low zero r rs h = absurd (omega arith)
different-low (suc n) r rs h = go (eqb (item_of r) n) refl (different-low n r rs)
  where
    go : (b : Bool) → eqb (item_of r) n ≡ b → (item_of r < n → different_below n (r ∷ rs) + counted (has rs (item_of r)) ≡ different_below n rs + 1) → different_below n (r ∷ rs) + counted (b || has rs n) + counted (has rs (item_of r)) ≡ different_below n rs + counted (has rs n) + 1
    go true e ih =
        let q : item_of r ≡ n = eqb-true _ _ e in
        let high = different-high n r rs (omega arith) in
        let same : counted (has rs (item_of r)) ≡ counted (has rs n) = ap (λ y. counted (has rs y)) q in
        omega arith
    go false e ih =
        let ne : item_of r ≡ n → ⊥ = eqb-false _ _ e in
        let low = ih (omega arith) in
        omega arith

none-different : (n : ℕ) → 0 ≡ different_below n []
unfolding different_below
none-different zero = refl
none-different (suc n) = let ih = none-different n in omega arith

pub length-latest : (rs : List LogRecord) → length (latest_only rs) ≡ different rs
length-latest [] = none-different 64
length-latest (r ∷ rs) = go (has rs (item_of r)) (length-latest rs) (different-low 64 r rs r.item.below)
  where
    go : (b : Bool) → length (latest_only rs) ≡ different_below 64 rs → different_below 64 (r ∷ rs) + counted b ≡ different_below 64 rs + 1 → length (cond b (latest_only rs) (r ∷ latest_only rs)) ≡ different_below 64 (r ∷ rs)
    go true ih low = omega arith
    go false ih low = omega arith

at_most : (n : ℕ) (rs : List LogRecord) → different_below n rs ≤ n
unfolding different_below
at_most zero rs = omega arith
at_most (suc n) rs = go (has rs n) (at_most n rs)
  where
    go : (b : Bool) → different_below n rs ≤ n → different_below n rs + counted b ≤ suc n
    go true ih = omega arith
    go false ih = omega arith

pub different-few : (rs : List LogRecord) → different rs ≤ 64
different-few rs = at_most 64 rs

-- keeping the records that no later one of their item follows leaves the latest alone
pub kept_latest : (xs ys : List LogRecord) → KeepsByRest (λ r later is. is ≡ not (has later (item_of r))) xs ys → ys ≡ latest_only xs
kept_latest [] ys e = e
kept_latest (x ∷ xs) ys (b, told, (zs, rest, e)) = e ∙ go (has xs (item_of x)) b told (kept_latest xs zs rest)
  where
    go : (h c : Bool) → c ≡ not h → zs ≡ latest_only xs → cond c (x ∷ zs) zs ≡ cond h (latest_only xs) (x ∷ latest_only xs)
    go true c n k = ap (λ d. cond d (x ∷ zs) zs) n ∙ k
    go false c n k = ap (λ d. cond d (x ∷ zs) zs) n ∙ ap (λ (ls : List LogRecord). x ∷ ls) k
