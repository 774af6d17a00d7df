-- What a bank that has committed nothing answers.
use Rattle.std.specs.Prelude.{ℕ, cond, List, [], ◌∷◌, ◌++◌, drop, Ok, Err, Result, ◌==◌, nat_lt}
pub use Rattle.answer.specs.Answers.{item_answer, said, shown_slot}
use Rattle.fault.specs.declared.Fault.{Fault}
use Rattle.fault.specs.declared.Cause.TheVariants.{Malformed, NoRoom, NotCommitted}
use Rattle.fault.specs.declared.Layer.TheVariants.{Board, Frame}
use Rattle.fault.specs.Codes.{fault}
use Rattle.fault.specs.Tables.{under, when}

-- Share out: version 0 is out of range, and every other is above the last commit.
abbrev pub share_refusal : ℕ → Fault
share_refusal version = cond (version == 0) (fault Malformed Frame 1) (fault NotCommitted Board 0)

-- the empty proof: kind 04, low 1, high 0
abbrev pub empty_proof : List ℕ
empty_proof = 4 ∷ 0 ∷ 1 ∷ 0 ∷ 0 ∷ []

-- The proof call, for a lowest and a highest version and a buffer of some length; the answer is the proof's length.
abbrev pub proof_answer : ℕ → ℕ → ℕ → Result ℕ Fault
proof_answer low high room =
    under
    (when (nat_lt high low) (fault Malformed Frame 3)
    ∷ when (nat_lt 0 high) (fault NotCommitted Board 0)
    ∷ when (nat_lt room 5) (fault NoRoom Board 0)
    ∷ [])
    5

-- What a buffer holds after a call: the answer in front and the old bytes behind, or all as it was.
abbrev pub filled : Result ℕ Fault → List ℕ → List ℕ → List ℕ
filled (Ok n) answer old = answer ++ drop n old
filled (Err f) answer old = old
