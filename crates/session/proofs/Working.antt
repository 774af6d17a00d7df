-- Two boards of four that agree, and a board that replies twice.
use Rattle.std.proofs.Common.{◌≡◌, ℕ, false, ◌||◌, List, [], ◌∷◌, length, Some, None, Ok, Err, sym, refl, ap, ◌∙◌, inl, inr, not-suc-le-zero, arith, lit<}
use Rattle.std.proofs.ByRecursion.{All-weaker, has_append_left, has_push, has_push_cases}
use Rattle.std.proofs.lemmas.Bool.{cases_Bool, cond-false, cond-true, or_from, or_right}
use Rattle.std.specs.List.{ContainsAt as Has, AllByRecursion as All}
use Rattle.fault.specs.Codes.{fault}
use Rattle.fault.specs.declared.Cause.TheVariants.{Settled}
use Rattle.fault.specs.declared.Layer.TheVariants.{Session as ofSession}
use Rattle.fault.specs.declared.Verdict.{Verdict}
use Rattle.session.specs.Answers.{Agree, Different, answer, reply}
use Rattle.session.specs.Replies.{agreed, decided, decision, malformed, replied}
use Rattle.session.specs.declared.replies.Reply.{Reply}
use Rattle.session.proofs.Agreeing.{agree_from, agree_to}
use Rattle.session.proofs.Deciding.{answer-settled, answer_taken}

two-apart : (bs : List ℕ) → length bs ≡ 2 → Different bs → All (λ b. b ≡ 0) bs → ⊥
two-apart [] long different all = omega arith
two-apart (b ∷ []) long different all = omega arith
two-apart (b ∷ c ∷ bs) long ((ne, apart), different) (first, (second, all)) = ne (second ∙ sym first)

module _ (v : Verdict) (k : ℕ) where
  only_zero : (u : Verdict) (j b : ℕ) → Has (reply 0 v k ∷ []) (reply b u j) → b ≡ 0
  only_zero u j b has = elim (has_push_cases {X = Reply} [] (reply 0 v k) (reply b u j) has) [
    | inl none ↦ absurd (not-suc-le-zero none.1)
    | inr e ↦ sym (ap (λ (r : Reply). r.board) e)
  ]

  -- one board alone decides nothing
  alone : (u : Verdict) (j : ℕ) → agreed 1 (reply 0 v k ∷ []) u j ≡ false
  alone u j = elim (cases_Bool (agreed 1 (reply 0 v k ∷ []) u j)) [
    | inl e ↦ let agree = agree_from 1 (reply 0 v k ∷ []) u j e in
        absurd (two-apart agree.0 agree.1.0 agree.1.1 (All-weaker (λ b. Has (reply 0 v k ∷ []) (reply b u j)) (λ b. b ≡ 0) (only_zero u j) agree.0 agree.1.2))
    | inr e ↦ e
  ]

  module _ (ok : malformed v k ≡ false) where
    pub first_waits : answer 1 [] (reply 0 v k) ≡ Ok None
    first_waits = answer_taken 1 [] (reply 0 v k) ok (lit< tt) refl ∙ ap Ok (cond-false (agreed 1 (reply 0 v k ∷ []) v k) _ _ (alone v k))

    both_agree : Agree 1 (reply 0 v k ∷ reply 3 v k ∷ []) v k
    both_agree = (0 ∷ 3 ∷ [], (refl, ((omega arith, tt), (tt, tt)), (has_append_left (reply 0 v k ∷ []) (reply 3 v k ∷ []) (reply 0 v k) (has_push [] (reply 0 v k)), (has_push (reply 0 v k ∷ []) (reply 3 v k), tt))))

    pub three_decides : answer 1 (reply 0 v k ∷ []) (reply 3 v k) ≡ Ok (Some (decision v k))
    three_decides =
        let free : (decided 1 (reply 0 v k ∷ []) || replied (reply 0 v k ∷ []) 3) ≡ false
        = or_from (decided 1 (reply 0 v k ∷ [])) (replied (reply 0 v k ∷ []) 3) (or_from (agreed 1 (reply 0 v k ∷ []) v k) false (alone v k) refl) refl in
        let both = agree_to 1 (reply 0 v k ∷ reply 3 v k ∷ []) v k ((ok, lit< tt), ((ok, lit< tt), tt)) both_agree in
        answer_taken 1 (reply 0 v k ∷ []) (reply 3 v k) ok (lit< tt) free ∙ ap Ok (cond-true (agreed 1 (reply 0 v k ∷ reply 3 v k ∷ []) v k) _ _ both)

-- a second reply is refused
pub twice-refused : (u v : Verdict) (j k : ℕ) → malformed v k ≡ false → answer 1 (reply 0 u j ∷ []) (reply 0 v k) ≡ Err (fault Settled ofSession 0)
twice-refused u v j k ok = answer-settled 1 (reply 0 u j ∷ []) (reply 0 v k) ok (lit< tt) (or_right (decided 1 (reply 0 u j ∷ [])) (replied (reply 0 u j ∷ []) 0) refl)
