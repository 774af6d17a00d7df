-- Worked cases of a session where one board may be faulty.
use Rattle.std.specs.Prelude.{◌≡◌, ℕ, true, false, List, [], ◌∷◌, Some, None, Ok, Err}
use Rattle.std.specs.List.{ContainsAt as Has, AllByRecursion}
use Rattle.fault.specs.Codes.{fault}
use Rattle.fault.specs.declared.Cause.TheVariants.{Settled}
use Rattle.fault.specs.declared.Layer.TheVariants.{Session}
use Rattle.fault.specs.declared.Verdict.{Verdict}
use Rattle.session.specs.Answers.{answer, reply}
use Rattle.session.specs.Replies.{decided, decision, malformed, replied}
use Rattle.session.specs.Runs.{played}
use Rattle.session.specs.Standing.{Formed}
use Rattle.session.specs.declared.replies.Reply.{Reply}

pub record SessionCases : Type 0 where
  -- Equal replies of boards 0 and 3 decide, whatever other replies were accepted before the decision.
  pub two_agree : (rs : List Reply) (v : Verdict) (k : ℕ) → AllByRecursion (Formed 1) rs → malformed v k ≡ false
      → Has rs (reply 0 v k) → replied rs 3 ≡ false → decided 1 rs ≡ false → answer 1 rs (reply 3 v k) ≡ Ok (Some (decision v k))
  -- A second reply of board 0 is refused, before the decision and after it.
  pub replies_twice : (rs : List Reply) (v : Verdict) (k : ℕ) → malformed v k ≡ false → replied rs 0 ≡ true
      → answer 1 rs (reply 0 v k) ≡ Err (fault Settled Session 0)
  -- Both occur, on a new session.
  pub runs : (v u : Verdict) (k j : ℕ) → malformed v k ≡ false → malformed u j ≡ false
      → played 1 [] (reply 0 v k ∷ reply 3 v k ∷ reply 0 u j ∷ []) ≡ Ok None ∷ Ok (Some (decision v k)) ∷ Err (fault Settled Session 0) ∷ []
