-- Of f + 1 different boards one is not among f faulty ones.
use Rattle.std.proofs.Common.{◌≡◌, ℕ, suc, ◌+◌, ◌<◌, ◌≤◌, Bool, true, false, cond, eqb, ◌⊎◌, List, [], ◌∷◌, length, get_or, sym, refl, ◌∙◌, subst, inl, inr, arith}
use Rattle.std.specs.List.Sorted.{IsStrictlyIncreasing}
use Rattle.std.specs.List.{ContainsAt as Has, AllByRecursion as All}
use Rattle.std.proofs.ByRecursion.{all-has, All-weaker}
use Rattle.std.proofs.lemmas.Bool.{eqb-true, eqb-false}
use Rattle.reader.proofs.Members.{all_from-has, has_cases, has_here, has-none, has_or_not, has_there}

-- rising numbers: the first is below the others, and these rise
pub climbs_rest : (x : ℕ) (xs : List ℕ) → IsStrictlyIncreasing (x ∷ xs) → IsStrictlyIncreasing xs
climbs_rest x xs c k lt =
    let e : suc k + 1 ≡ suc (k + 1) = omega arith in
    subst (λ (n : ℕ). get_or (x ∷ xs) (suc k) 0 < get_or (x ∷ xs) n 0) e (c (suc k) (omega arith))

pub climbs_first : (x : ℕ) (xs : List ℕ) → IsStrictlyIncreasing (x ∷ xs) → All (λ y. x < y) xs
climbs_first x [] c = tt
climbs_first x (y ∷ ys) c =
    let up : x < y = c 0 (omega arith) in
    (up, All-weaker (λ z. y < z) (λ z. x < z) (λ z h. omega arith) ys (climbs_first y ys (climbs_rest x (y ∷ ys) c)))

-- a list without one number, where it first stands
without : ℕ → List ℕ → List ℕ
without x [] = []
without x (y ∷ ys) = cond (eqb y x) ys (y ∷ without x ys)

length_without : (x : ℕ) (ys : List ℕ) → Has ys x → length (without x ys) + 1 ≡ length ys
unfolding without
length_without x [] m = absurd (has-none x m)
length_without x (y ∷ ys) m = go (eqb y x) refl (length_without x ys)
  where
    go : (b : Bool) → eqb y x ≡ b → (Has ys x → length (without x ys) + 1 ≡ length ys) → length (cond b ys (y ∷ without x ys)) + 1 ≡ suc (length ys)
    go true e ih = omega arith
    go false e ih = elim (has_cases y x ys m) [ inl same ↦ absurd (eqb-false y x e same) | inr n ↦ let h = ih n in omega arith ]

keeps_without : (x z : ℕ) (ys : List ℕ) → (x ≡ z → ⊥) → Has ys z → Has (without x ys) z
unfolding without
keeps_without x z [] ne m = absurd (has-none z m)
keeps_without x z (y ∷ ys) ne m = go (eqb y x) refl (keeps_without x z ys ne)
  where
    go : (b : Bool) → eqb y x ≡ b → (Has ys z → Has (without x ys) z) → Has (cond b ys (y ∷ without x ys)) z
    go true e ih = elim (has_cases y z ys m) [ inl same ↦ absurd (ne (sym (eqb-true y x e) ∙ same)) | inr n ↦ n ]
    go false e ih = elim (has_cases y z ys m) [ inl same ↦ subst (λ u. Has (y ∷ without x ys) u) same (has_here y (without x ys)) | inr n ↦ has_there y z (without x ys) (ih n) ]

-- different numbers that are all in a list are no more than the list has
no_more : (xs ys : List ℕ) → IsStrictlyIncreasing xs → All (Has ys) xs → length xs ≤ length ys
no_more [] ys c h = omega arith
no_more (x ∷ xs) ys c (m, ms) =
    let rest : All (Has (without x ys)) xs = all_from-has (Has (without x ys)) xs (λ z in'.
    let up : x < z = all-has (λ y. x < y) xs z (climbs_first x xs c) in' in
    keeps_without x z ys (λ e. omega arith) (all-has (Has ys) xs z ms in')) in
    let ih = no_more xs (without x ys) (climbs_rest x xs c) rest in
    let n = length_without x ys m in
    omega arith

-- some number is not in the list, or all are
outside : (xs ys : List ℕ) → ((x : ℕ) × (Has xs x × (Has ys x → ⊥))) ⊎ All (Has ys) xs
outside [] ys = inr tt
outside (x ∷ xs) ys = elim (has_or_not ys x) [
  | inl m ↦ elim (outside xs ys) [ inl u ↦ inl (u.0, (has_there x u.0 xs u.1.0, u.1.1)) | inr ms ↦ inr (m, ms) ]
  | inr out ↦ inl (x, (has_here x xs, out))
]

-- of more different numbers than the list has, one is not in it
pub one_outside : (xs ys : List ℕ) → IsStrictlyIncreasing xs → length ys < length xs → (x : ℕ) × (Has xs x × (Has ys x → ⊥))
one_outside xs ys c lt = elim (outside xs ys) [ inl u ↦ u | inr ms ↦ let le = no_more xs ys c ms in absurd (omega arith) ]
