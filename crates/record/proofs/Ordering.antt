-- The tables of rules 2 and 4 say what the rules say.
use Rattle.std.proofs.Common.{◌≡◌, ℕ, zero, suc, ◌<◌, Bool, true, false, eqb, ltb, List, [], ◌∷◌, Some, None, Ok, Err, Result, refl, inl, inr, arith}
use Rattle.std.proofs.lemmas.Bool.{ltb-true, ltb-false, eqb-true, eqb-false, or_cases, or_parts}
use Rattle.fault.specs.declared.Fault.{Fault}
use Rattle.fault.specs.declared.Layer.{Layer}
use Rattle.fault.specs.declared.Cause.TheVariants.{NotRising, Unread}
use Rattle.fault.specs.Codes.{fault}
use Rattle.record.specs.Chains.{unless, tested}
use Rattle.record.specs.Rules.{Spot, rising, among, covered}
use Rattle.record.specs.Orders.{spot_at, Rises, RisingSays, Known, Covers, CoveredSays}

module _ (l : Layer) where
  -- one record more in front, below the next
  rise-more : (s t : Spot) (ts : List Spot) (r : Result (Unit {0}) Fault) → s.number < t.number → RisingSays l (t ∷ ts) r → RisingSays l (s ∷ t ∷ ts) r
  rise-more s t ts (Ok u) h rec = rises
    where
      rises : Rises (s ∷ t ∷ ts)
      rises zero k = h
      rises (suc i) k = rec i (omega arith)
  rise-more s t ts (Err e) h rec =
      let f = rec.2 in
      (rec.0, rec.1, record { before = suc f.before; inside = omega (arith, f.inside); place = f.place; falls = f.falls; first = all })
    where
      all : (i : ℕ) → i < suc rec.2.before → (spot_at (s ∷ t ∷ ts) i).number < (spot_at (s ∷ t ∷ ts) (suc i)).number
      all zero k = h
      all (suc i) k = rec.2.first i (omega arith)

  rise_test : (s t : Spot) (ts : List Spot) (b : Bool) → ltb s.number t.number ≡ b → RisingSays l (t ∷ ts) (tested (rising l (Some t.number) ts)) → RisingSays l (s ∷ t ∷ ts) (unless b (fault NotRising l t.place) (tested (rising l (Some t.number) ts)))
  rise_test s t ts true e rec = rise-more s t ts (tested (rising l (Some t.number) ts)) (ltb-true s.number t.number e) rec
  rise_test s t ts false e rec = (refl, refl, record { before = 0; inside = omega arith; place = refl; falls = ltb-false s.number t.number e; first = λ i k. absurd (omega arith) })

  rise-from : (s : Spot) (ss : List Spot) → RisingSays l (s ∷ ss) (tested (rising l (Some s.number) ss))
  rise-from s [] = λ i k. absurd (omega arith)
  rise-from s (t ∷ ts) = rise_test s t ts (ltb s.number t.number) refl (rise-from t ts)

  pub rising-says : (ss : List Spot) → RisingSays l ss (tested (rising l None ss))
  rising-says [] = λ i k. absurd (omega arith)
  rising-says (s ∷ ss) = rise-from s ss

pub among-known : (n : ℕ) (known : List ℕ) → among n known ≡ true → Known known n
among-known n [] e = absurd (true_false e)
  where
    true_false : false ≡ true → ⊥
    true_false h = let z : ◌≡◌ {A = ℕ} 0 1 = cc in omega arith
among-known n (m ∷ ms) e =
    elim (or_cases (eqb m n) (among n ms) e) [
      | inl h ↦ (0, omega arith, eqb-true m n h)
      | inr h ↦ let r = among-known n ms h in (suc r.0, omega (arith, r.1), r.2)
    ]

pub not_among : (n : ℕ) (known : List ℕ) → among n known ≡ false → Known known n → ⊥
not_among n [] e k = omega (arith, k.1)
not_among n (m ∷ ms) e (zero, h, q) = eqb-false m n (or_parts (eqb m n) (among n ms) e).0 q
not_among n (m ∷ ms) e (suc i, h, q) = not_among n ms (or_parts (eqb m n) (among n ms) e).1 (i, omega arith, q)

module _ (l : Layer) (known : List ℕ) where
  cover_more : (s : Spot) (ss : List Spot) (r : Result (Unit {0}) Fault) → Known known s.number → CoveredSays l known ss r → CoveredSays l known (s ∷ ss) r
  cover_more s ss (Ok u) h rec = covers
    where
      covers : Covers known (s ∷ ss)
      covers zero k = h
      covers (suc i) k = rec i (omega arith)
  cover_more s ss (Err e) h rec =
      let f = rec.2 in
      (rec.0, rec.1, record { index = suc f.index; inside = omega (arith, f.inside); place = f.place; unread = f.unread; first = all })
    where
      all : (i : ℕ) → i < suc rec.2.index → Known known (spot_at (s ∷ ss) i).number
      all zero k = h
      all (suc i) k = rec.2.first i (omega arith)

  cover_test : (s : Spot) (ss : List Spot) (b : Bool) → among s.number known ≡ b → CoveredSays l known ss (tested (covered l known ss)) → CoveredSays l known (s ∷ ss) (unless b (fault Unread l s.place) (tested (covered l known ss)))
  cover_test s ss true e rec = cover_more s ss (tested (covered l known ss)) (among-known s.number known e) rec
  cover_test s ss false e rec = (refl, refl, record { index = 0; inside = omega arith; place = refl; unread = not_among s.number known e; first = λ i k. absurd (omega arith) })

  pub covered-says : (ss : List Spot) → CoveredSays l known ss (tested (covered l known ss))
  covered-says [] = λ i k. absurd (omega arith)
  covered-says (s ∷ ss) = cover_test s ss (among s.number known) refl (covered-says ss)
