-- Elements of lists, one by one.
use Rattle.std.proofs.Common.{◌≡◌, ℕ, zero, suc, ◌⊎◌, List, [], ◌∷◌, map, refl, subst, inl, inr, arith}
use Rattle.std.specs.List.{ContainsAt as Has, AllByRecursion as All}
use Rattle.std.proofs.lemmas.Bool.{cases_eq}

module _ {X : Type 0} where
  pub has-none : (x : X) → Has [] x → ⊥
  has-none x (k, lt, is) = omega arith

  pub has_here : (y : X) (ys : List X) → Has (y ∷ ys) y
  has_here y ys = (0, omega arith, λ d. refl)

  pub has_there : (y x : X) (ys : List X) → Has ys x → Has (y ∷ ys) x
  has_there y x ys (k, lt, is) = (suc k, omega arith, is)

  pub has_cases : (y x : X) (ys : List X) → Has (y ∷ ys) x → (y ≡ x) ⊎ Has ys x
  has_cases y x ys (zero, lt, is) = inl (is x)
  has_cases y x ys (suc k, lt, is) = inr (k, omega arith, is)

  -- from each element to all, and back
  pub all_from-has : (P : X → Type 0) (xs : List X) → ((x : X) → Has xs x → P x) → All P xs
  all_from-has P [] h = tt
  all_from-has P (x ∷ xs) h = (h x (has_here x xs), all_from-has P xs (λ y m. h y (has_there x y xs m)))

module _ {X Y : Type 0} (f : X → Y) where
  pub has-map : (xs : List X) (x : X) → Has xs x → Has (map f xs) (f x)
  has-map [] x m = absurd (has-none x m)
  has-map (y ∷ ys) x m = elim (has_cases y x ys m) [
    | inl e ↦ subst (λ z. Has (f y ∷ map f ys) (f z)) e (has_here (f y) (map f ys))
    | inr n ↦ has_there (f y) (f x) (map f ys) (has-map ys x n)
  ]

  pub has_unmap : (xs : List X) (y : Y) → Has (map f xs) y → (x : X) × (Has xs x × (f x ≡ y))
  has_unmap [] y m = absurd (has-none y m)
  has_unmap (x ∷ xs) y m = elim (has_cases (f x) y (map f xs) m) [
    | inl e ↦ (x, (has_here x xs, e))
    | inr n ↦ let u = has_unmap xs y n in (u.0, (has_there x u.0 xs u.1.0, u.1.1))
  ]

pub has_or_not : (xs : List ℕ) (x : ℕ) → Has xs x ⊎ (Has xs x → ⊥)
has_or_not [] x = inr (has-none x)
has_or_not (y ∷ ys) x = elim (cases_eq y x) [
  | inl e ↦ inl (subst (λ z. Has (y ∷ ys) z) e (has_here y ys))
  | inr ne ↦ elim (has_or_not ys x) [
    | inl m ↦ inl (has_there y x ys m)
    | inr out ↦ inr (λ m. elim (has_cases y x ys m) [ inl e ↦ ne e | inr n ↦ out n ])
  ]
]
