-- From tests in code to a table of conditions.
use Rattle.std.proofs.Common.{◌≡◌, Bool, true, false, cond, List, [], ◌∷◌, Ok, Err, Decides, Result, sym, refl, ◌∙◌, subst}
use Rattle.std.proofs.lemmas.Bool.{cond-false, cond-true}
use Rattle.fault.specs.declared.Fault.{Fault}
use Rattle.history.specs.Tables.{Case, Succeeds, Under, when}

-- a test that fails where its condition does not hold
not_held : (b : Bool) (P : Type 0) → Decides b P → (P → ⊥) → b ≡ false
not_held true P d none = absurd (none (d.0 refl))
not_held false P d none = refl

-- one row: the test decides its condition, and behind it stands the rest of the table
pub under_test : {A : Type 0} (b : Bool) (P : Type 0) (f : Fault) (cs : List Case) (Q : A → Type 0) (r rest : Result A Fault) → Decides b P
    → r ≡ cond b (Err f) rest → ((P → ⊥) → r ≡ rest → Under cs Q r) → Under (when P f ∷ cs) Q r
under_test b P f cs Q r rest d is more =
    ((λ p. is ∙ cond-true b (Err f) rest (d.1 p)), λ none. more none (is ∙ cond-false b (Err f) rest (not_held b P d none)))

-- behind the last row: the success
pub under-done : {A : Type 0} (Q : A → Type 0) (r : Result A Fault) (a : A) → Q a → r ≡ Ok a → Under [] Q r
under-done Q r a q is = (let P : Result _ Fault → Type 0 = λ x. Succeeds Q x in subst P (sym is) q)
