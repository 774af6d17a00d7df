-- The versions of a reading and of a proof.
use Rattle.std.proofs.Common.{◌≡◌, ℕ, zero, suc, ◌+◌, ◌-◌, ◌<◌, ◌≤◌, List, [], ◌∷◌, map, sym, ap, subst, inl, inr, arith}
use Rattle.std.specs.List.{range_with_len, ContainsAt as Has}
use Rattle.std.proofs.lemmas.Bool.{cases_eq}
use Rattle.entry.specs.Bodies.{SealedBody}
use Rattle.reading.specs.Bodies.{ReadingItemBody}
use Rattle.history.specs.Entries.{versions}
use Rattle.reader.specs.Checks.{highest, lowest}
use Rattle.reader.specs.Accepted.{version_of}
use Rattle.reader.proofs.Members.{has_cases, has_here, has-map, has-none, has_there, has_unmap}

pub at_most-highest : (ps : List ReadingItemBody) (p : ReadingItemBody) → Has ps p → p.version ≤ highest ps
at_most-highest [] p m = absurd (has-none p m)
at_most-highest (q ∷ ps) p m = elim (has_cases q p ps m) [
  | inl e ↦ let same : q.version ≡ p.version = ap (λ (r : ReadingItemBody). r.version) e in omega arith
  | inr n ↦ let ih = at_most-highest ps p n in omega arith
]

pub at_least_lowest : (ps : List ReadingItemBody) (p : ReadingItemBody) → Has ps p → lowest ps ≤ p.version
at_least_lowest [] p m = absurd (has-none p m)
at_least_lowest (q ∷ []) p m = elim (has_cases q p [] m) [
  | inl e ↦ let same : q.version ≡ p.version = ap (λ (r : ReadingItemBody). r.version) e in omega arith
  | inr n ↦ absurd (has-none p n)
]
at_least_lowest (q ∷ (r ∷ ps)) p m = elim (has_cases q p (r ∷ ps) m) [
  | inl e ↦ let same : q.version ≡ p.version = ap (λ (r : ReadingItemBody). r.version) e in omega arith
  | inr n ↦ let ih = at_least_lowest (r ∷ ps) p n in omega arith
]

pub lowest-highest : (ps : List ReadingItemBody) → lowest ps ≤ highest ps
lowest-highest [] = omega arith
lowest-highest (p ∷ ps) =
    let low = at_least_lowest (p ∷ ps) p (has_here p ps) in
    let high = at_most-highest (p ∷ ps) p (has_here p ps) in
    omega arith

counting_has : (a n k : ℕ) → a ≤ k → k < a + n → Has (range_with_len a n) k
counting_has a zero k low high = absurd (omega arith)
counting_has a (suc n) k low high = elim (cases_eq a k) [
  | inl e ↦ subst (λ j. Has (a ∷ range_with_len (a + 1) n) j) e (has_here a (range_with_len (a + 1) n))
  | inr ne ↦ has_there a k (range_with_len (a + 1) n) (counting_has (a + 1) n k (omega arith) (omega arith))
]

counting_within : (a n k : ℕ) → Has (range_with_len a n) k → (a ≤ k) × (k < a + n)
counting_within a zero k m = absurd (has-none k m)
counting_within a (suc n) k m = elim (has_cases a k (range_with_len (a + 1) n) m) [
  | inl e ↦ (omega arith, omega arith)
  | inr r ↦ let ih = counting_within (a + 1) n k r in let l = ih.0 in let h = ih.1 in (omega arith, omega arith)
]

module _ (low high : ℕ) (es : List SealedBody) (each : map version_of es ≡ versions low high) where
  -- the entry of a version in the range
  pub entry-of : (k : ℕ) → low ≤ k → k ≤ high → (s : SealedBody) × (Has es s × (s.entry.version ≡ k))
  entry-of k l h = has_unmap version_of es k (subst (λ (vs : List ℕ). Has vs k) (sym each) (counting_has low (high + 1 - low) k l (omega arith)))

  pub in_range : (s : SealedBody) → Has es s → (low ≤ s.entry.version) × (s.entry.version ≤ high)
  in_range s m =
      let w = counting_within low (high + 1 - low) s.entry.version (subst (λ (vs : List ℕ). Has vs s.entry.version) each (has-map version_of es s m)) in
      let l = w.0 in let h = w.1 in (l, omega arith)
