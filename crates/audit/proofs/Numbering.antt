-- Numbers of reports, as one more comes in.
use Rattle.std.proofs.Common.{◌≡◌, ℕ, zero, suc, ◌+◌, ◌-◌, ◌<◌, ◌≤◌, ◌⊎◌, List, [], ◌∷◌, ◌++◌, length, Some, None, Option, sym, refl, ap, ◌∙◌, subst, inl, inr, arith}
use Rattle.std.specs.List.{slice_get, AllByRecursion as All}
use Rattle.audit.specs.Reports.{Numbered, OfBoard, Report}

pub none-some : {X : Type 0} (x : X) → ◌≡◌ {A = Option X} None (Some x) → ⊥
none-some x e = let z : ◌≡◌ {A = ℕ} 0 1 = cc in omega arith

module _ {X : Type 0} (y x : X) where
  nth_left : (xs : List X) (i : ℕ) → slice_get xs i ≡ Some x → slice_get (xs ++ y ∷ []) i ≡ Some x
  nth_left [] i e = absurd (none-some x e)
  nth_left (z ∷ xs) zero e = e
  nth_left (z ∷ xs) (suc i) e = nth_left xs i e

  nth_cases : (xs : List X) (i : ℕ) → slice_get (xs ++ y ∷ []) i ≡ Some x → (slice_get xs i ≡ Some x) ⊎ ((i ≡ length xs) × (y ≡ x))
  nth_cases [] zero e = inr (refl, cc)
  nth_cases [] (suc i) e = absurd (none-some x e)
  nth_cases (z ∷ xs) zero e = inl e
  nth_cases (z ∷ xs) (suc i) e = elim (nth_cases xs i e) [ inl old ↦ inl old | inr (n, same) ↦ inr (ap suc n, same) ]

nth_last : {X : Type 0} (xs : List X) (y : X) → slice_get (xs ++ y ∷ []) (length xs) ≡ Some y
nth_last [] y = refl
nth_last (z ∷ xs) y = nth_last xs y

nth_within : {X : Type 0} (xs : List X) (x : X) (i : ℕ) → slice_get xs i ≡ Some x → i < length xs
nth_within [] x i e = absurd (none-some x e)
nth_within (z ∷ xs) x zero e = omega arith
nth_within (z ∷ xs) x (suc i) e = omega (arith, nth_within xs x i e)

nth_all : {X : Type 0} (Q : X → Type 0) (xs : List X) (x : X) (i : ℕ) → All Q xs → slice_get xs i ≡ Some x → Q x
nth_all Q [] x i all e = absurd (none-some x e)
nth_all Q (z ∷ xs) x zero all e = let same : z ≡ x = cc in subst Q same all.0
nth_all Q (z ∷ xs) x (suc i) all e = nth_all Q xs x i all.1 e

-- what holds of all reports holds of a board's
pub of_all : (P Q : Report → Type 0) (reports : List Report) (b n : ℕ) → All Q reports → OfBoard P reports b n → (r : Report) × ((r.board ≡ b) × Q r)
of_all P Q reports b n all (r, ((low, at), whose, such)) = (r, (whose, nth_all Q reports r (n - 1) all at))

-- one number, one report
pub same_report : (reports : List Report) (n : ℕ) (r s : Report) → Numbered reports n r → Numbered reports n s → r ≡ s
same_report reports n r s (low, one) (low', two) = cc

module _ (P : Report → Type 0) (reports : List Report) (b n : ℕ) where
  pub of-within : OfBoard P reports b n → (1 ≤ n) × (n ≤ length reports)
  of-within (r, ((low, at), whose, such)) = (low, omega (arith, nth_within reports r (n - 1) at))

  -- an older report stays what it was
  pub of-old : (last : Report) → OfBoard P reports b n → OfBoard P (reports ++ last ∷ []) b n
  of-old last (r, ((low, at), whose, such)) = (r, ((low, nth_left last r reports (n - 1) at), whose, such))

  -- a report is an older one or the last
  pub of_cases : (last : Report) → OfBoard P (reports ++ last ∷ []) b n → OfBoard P reports b n ⊎ ((n ≡ length reports + 1) × (last.board ≡ b) × P last)
  of_cases last (r, ((low, at), whose, such)) = elim (nth_cases last r reports (n - 1) at) [
    | inl old ↦ inl (r, ((low, old), whose, such))
    | inr (is, same) ↦ inr (omega arith, ap (λ (x : Report). x.board) same ∙ whose, subst P (sym same) such)
  ]

  pub of_last : (last : Report) → n ≡ length reports + 1 → last.board ≡ b → P last → OfBoard P (reports ++ last ∷ []) b n
  of_last last is whose such =
      let place : n - 1 ≡ length reports = omega arith in
      (last, ((omega arith, ap (slice_get (reports ++ last ∷ [])) place ∙ nth_last reports last), whose, such))
