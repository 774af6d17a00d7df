-- Answers under a table: there is one, and tables that say the same have the same.
use Rattle.std.proofs.Common.{◌≡◌, List, [], ◌∷◌, Ok, Err, Result, sym, ap, ◌∙◌, inl, inr}
use Rattle.fault.specs.declared.Fault.{Fault}
use Rattle.history.specs.Tables.{Case, Succeeds, Under}
use Rattle.history.proofs.Deciding.{Either}

-- every condition of a table holds or does not
abbrev pub Decided : List Case → Type 0
Decided [] = Unit {0}
Decided (c ∷ cs) = Either c.condition × Decided cs

-- tables with the same faults under conditions that imply each other
abbrev pub Alike : List Case → List Case → Type 0
Alike [] [] = Unit {0}
Alike [] (d ∷ ds) = ⊥
Alike (c ∷ cs) [] = ⊥
Alike (c ∷ cs) (d ∷ ds) = (c.condition → d.condition) × (d.condition → c.condition) × (c.refusal ≡ d.refusal) × Alike cs ds

succeeds_once : {A : Type 0} (P : A → Type 0) → ((a b : A) → P a → P b → a ≡ b) → (r s : Result A Fault) → Succeeds P r → Succeeds P s → r ≡ s
succeeds_once P one (Ok a) (Ok b) p q = ap Ok (one a b p q)
succeeds_once P one (Ok a) (Err e) p q = absurd q
succeeds_once P one (Err e) s p q = absurd p

pub under-once : {A : Type 0} (t : List Case) (P : A → Type 0) → Decided t → ((a b : A) → P a → P b → a ≡ b)
    → (r s : Result A Fault) → Under t P r → Under t P s → r ≡ s
under-once [] P tell one r s u v = succeeds_once P one r s u v
under-once (c ∷ cs) P tell one r s u v = elim tell.0 [
  | inl holds ↦ u.0 holds ∙ sym (v.0 holds)
  | inr fails ↦ under-once cs P tell.1 one r s (u.1 fails) (v.1 fails)
]

succeeds_weaker : {A : Type 0} (P Q : A → Type 0) → ((a : A) → P a → Q a) → (r : Result A Fault) → Succeeds P r → Succeeds Q r
succeeds_weaker P Q more (Ok a) p = more a p
succeeds_weaker P Q more (Err e) p = absurd p

pub under_alike : {A : Type 0} (t u : List Case) (P Q : A → Type 0) → Alike t u → ((a : A) → P a → Q a) → (r : Result A Fault) → Under t P r → Under u Q r
under_alike [] [] P Q like more r a = succeeds_weaker P Q more r a
under_alike [] (d ∷ ds) P Q like more r a = absurd like
under_alike (c ∷ cs) [] P Q like more r a = absurd like
under_alike (c ∷ cs) (d ∷ ds) P Q (there, back, same, rest) more r a =
    (λ holds. a.0 (back holds) ∙ ap Err same, λ fails. under_alike cs ds P Q rest more r (a.1 (λ holds. fails (there holds))))
