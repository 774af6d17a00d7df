-- What the store means now is what the commits left.
use Rattle.std.proofs.Common.{◌≡◌, ℕ, ◌<◌, ◌≤◌, ltb, List, Ok, Err, Result, sym, ◌∙◌, subst, inl, inr, arith, le-ltb, lt-ltb}
use Rattle.std.proofs.lemmas.Bool.{cases_lt, cond-false, cond-true}
use Rattle.fault.specs.declared.Fault.{Fault}
use Rattle.fault.specs.declared.Cause.TheVariants.{Malformed}
use Rattle.fault.specs.declared.Layer.TheVariants.{Frame}
use Rattle.fault.specs.Codes.{fault}
use Rattle.store.specs.Slot.{Slot}
use Rattle.history.specs.Answers.{ItemAnswers}
use Rattle.history.specs.Events.{Effect}
use Rattle.history.specs.Commits.{commits, kept, left, shown}
use Rattle.history.specs.Tables.{Succeeds}
use Rattle.history.proofs.ReadLaws.{shown-kept}
use Rattle.answer.specs.Answers.{item_answer, shown_slot}

pub item-answered : (digest : List ℕ → List ℕ) (tag : ℕ → List ℕ → List ℕ) (f own : ℕ) (es : List Effect) (holds : ℕ → Slot) (x : ℕ) (r : Result Slot Fault)
    → r ≡ item_answer digest holds x → ((y : ℕ) → y < 64 → holds y ≡ kept digest (left (commits es) y)) → ItemAnswers digest tag f own es x r
item-answered digest tag f own es holds x r is items =
    elim (cases_lt 63 x) [
      | inl above ↦ ((λ _. is ∙ cond-true (ltb 63 x) (Err (fault Malformed Frame 1)) (Ok (shown_slot digest (holds x))) (lt-ltb 63 x above)), λ within. absurd (within above))
      | inr within ↦ (
        (λ above. absurd (both above within)),
        λ _. (let P : Result Slot Fault → Type 0 = λ a. Succeeds (λ s. s ≡ shown digest (left (commits es) x)) a in
            subst P (sym (is ∙ cond-false (ltb 63 x) (Err (fault Malformed Frame 1)) (Ok (shown_slot digest (holds x))) (le-ltb 63 x within)))
            (shown-kept digest (commits es) x (holds x) (items x (below within)))),
      )
    ]
  where
    both : 63 < x → x ≤ 63 → ⊥
    both above within = omega arith

    below : x ≤ 63 → x < 64
    below within = omega arith
