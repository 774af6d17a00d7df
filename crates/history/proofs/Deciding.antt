-- What can be decided: that lists are equal, that a list has an element, that a number is open.
use Rattle.std.proofs.Common.{◌≡◌, ℕ, zero, suc, ◌+◌, ◌≤◌, min, ◌⊎◌, List, [], ◌∷◌, length, subst, inl, inr, le_of_suc-le-suc, not-suc-le-zero, arith}
use Rattle.std.specs.List.{ContainsAt as Has}
use Rattle.std.specs.Str.{bytes_eq}
use Rattle.std.proofs.ByRecursion.{has_append_left, has_append_right, has_push}
use Rattle.std.proofs.lemmas.Slice.Eq.{bytes_eq-Decides}
use Rattle.std.proofs.lemmas.Bool.{both_ways, cases_Bool, cases_eq, cases_lt}
use Rattle.octets.specs.Numbers.{limit}
use Rattle.numbers.specs.Sequence.{Open}

-- it holds or it does not
abbrev pub Either : Type 0 → Type 0
Either P = P ⊎ (P → ⊥)

pub either_not : {P : Type 0} → Either P → Either (P → ⊥)
either_not (inl p) = inr (λ n. n p)
either_not (inr n) = inl n

pub either_and : {P Q : Type 0} → Either P → Either Q → Either (P × Q)
either_and (inl p) (inl q) = inl (p, q)
either_and (inl p) (inr n) = inr (λ a. n a.1)
either_and (inr n) q = inr (λ a. n a.0)

pub either_le : (a b : ℕ) → Either (a ≤ b)
either_le a b = elim (cases_lt b a) [ inl lt ↦ inr (λ le. omega arith) | inr le ↦ inl le ]

pub either_same : (s t : List ℕ) → Either (s ≡ t)
either_same s t = elim (cases_Bool (bytes_eq s t)) [
  | inl same ↦ inl ((bytes_eq-Decides s t).0 same)
  | inr apart ↦ inr (λ e. both_ways (bytes_eq s t) apart ((bytes_eq-Decides s t).1 e))
]

pub has_head : {X : Type 0} (x : X) (xs : List X) → Has (x ∷ xs) x
has_head x xs = has_append_left (x ∷ []) xs x (has_push [] x)

has_not : (u s : ℕ) (us : List ℕ) → (u ≡ s → ⊥) → (Has us s → ⊥) → Has (u ∷ us) s → ⊥
has_not u s us ne no' (zero, lt, at) = ne (at 0)
has_not u s us ne no' (suc k, lt, at) = no' (k, le_of_suc-le-suc lt, at)

pub either_has : (us : List ℕ) (s : ℕ) → Either (Has us s)
either_has [] s = inr (λ h. not-suc-le-zero h.1)
either_has (u ∷ us) s = elim (cases_eq u s) [
  | inl e ↦ inl (subst (λ n. Has (u ∷ us) n) e (has_head u us))
  | inr ne ↦ elim (either_has us s) [ inl h ↦ inl (has_append_right (u ∷ []) us s h) | inr no' ↦ inr (has_not u s us ne no') ]
]

pub either_open : (w : ℕ) (us : List ℕ) (s : ℕ) → Either (Open w us s)
either_open w us s =
    either_and (either_and (either_le 1 s) (either_le s (min (4 + length us) (limit w)))) (either_not (either_has us s))
