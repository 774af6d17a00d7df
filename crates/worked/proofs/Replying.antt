-- Two boards of four that agree, and a board that replies twice, whatever was accepted before.
use Rattle.std.proofs.Common.{◌≡◌, ℕ, true, false, List, [], ◌∷◌, ◌++◌, Some, None, Option, Ok, Err, Result, refl, ap, ◌∙◌, arith, lit<}
use Rattle.std.specs.List.{ContainsAt as Has, AllByRecursion as All}
use Rattle.std.proofs.ByRecursion.{All-push, has_append_left, has_push}
use Rattle.std.proofs.lemmas.Bool.{cond-true, or_from, or_right}
use Rattle.fault.specs.Codes.{fault}
use Rattle.fault.specs.declared.Cause.TheVariants.{Settled}
use Rattle.fault.specs.declared.Fault.{Fault}
use Rattle.fault.specs.declared.Layer.TheVariants.{Session}
use Rattle.fault.specs.declared.Verdict.{Verdict}
use Rattle.decision.specs.declared.Decision.{Decision}
use Rattle.session.specs.Answers.{Agree, accepted, answer, reply}
use Rattle.session.specs.Replies.{agreed, decided, decision, malformed, replied}
use Rattle.session.specs.Runs.{played}
use Rattle.session.specs.Standing.{Formed}
use Rattle.session.specs.declared.replies.Reply.{Reply}
use Rattle.session.proofs.Agreeing.{agree_to}
use Rattle.session.proofs.Deciding.{answer-settled, answer_taken}
use Rattle.session.proofs.Working.{first_waits, three_decides}
use Rattle.worked.specs.Sessions.{SessionCases}

two_agree : (rs : List Reply) (v : Verdict) (k : ℕ) → All (Formed 1) rs → malformed v k ≡ false
    → Has rs (reply 0 v k) → replied rs 3 ≡ false → decided 1 rs ≡ false → answer 1 rs (reply 3 v k) ≡ Ok (Some (decision v k))
two_agree rs v k formed ok has fresh waits =
    let more = rs ++ reply 3 v k ∷ [] in
    let agree : Agree 1 more v k = (0 ∷ 3 ∷ [], (refl, ((omega arith, tt), (tt, tt)), (has_append_left rs (reply 3 v k ∷ []) (reply 0 v k) has, (has_push rs (reply 3 v k), tt)))) in
    let both = agree_to 1 more v k (All-push (Formed 1) rs (reply 3 v k) formed (ok, lit< tt)) agree in
    answer_taken 1 rs (reply 3 v k) ok (lit< tt) (or_from (decided 1 rs) (replied rs 3) waits fresh) ∙ ap Ok (cond-true (agreed 1 more v k) _ _ both)

replies_twice : (rs : List Reply) (v : Verdict) (k : ℕ) → malformed v k ≡ false → replied rs 0 ≡ true → answer 1 rs (reply 0 v k) ≡ Err (fault Settled Session 0)
replies_twice rs v k ok before = answer-settled 1 rs (reply 0 v k) ok (lit< tt) (or_right (decided 1 rs) (replied rs 0) before)

-- one reply of a run
played-more : (rs : List Reply) (r : Reply) (more : List Reply) (a : Result (Option Decision) Fault) → answer 1 rs r ≡ a → played 1 rs (r ∷ more) ≡ a ∷ played 1 (accepted rs r a) more
played-more rs r more a is = ap (λ x. x ∷ played 1 (accepted rs r x) more) is

pub session_cases : SessionCases
session_cases = record {
  two_agree = two_agree;
  replies_twice = replies_twice;
  runs = λ v u k j ok fine.
      played-more [] (reply 0 v k) (reply 3 v k ∷ reply 0 u j ∷ []) (Ok None) (first_waits v k ok)
      ∙ ap (λ l. Ok None ∷ l) (played-more (reply 0 v k ∷ []) (reply 3 v k) (reply 0 u j ∷ []) (Ok (Some (decision v k))) (three_decides v k ok)
      ∙ ap (λ l. Ok (Some (decision v k)) ∷ l) (played-more (reply 0 v k ∷ reply 3 v k ∷ []) (reply 0 u j) [] (Err (fault Settled Session 0))
      (replies_twice (reply 0 v k ∷ reply 3 v k ∷ []) u j fine refl)));
}
