-- What an answer line holds.
use Rattle.std.specs.Prelude.{◌≡◌, ℕ, ◌≤◌, List, length, take, Some, None, Ok, Err, Option, Result}
use Rattle.lines.specs.declared.answer_line.AnswerLine.{AnswerLine}
use Rattle.lines.specs.Shown.{digits_of}
use Rattle.line.specs.declared.reply.NotServed.{NotServed}

-- the digits that were answered, if any
abbrev pub answered : Result (AnswerLine 136) NotServed → Option (List ℕ)
answered (Ok a) = Some (digits_of a)
answered (Err e) = None

-- a buffer has the answer in front, where there is one
abbrev pub Front : Result ℕ NotServed → List ℕ → Option (List ℕ) → Type 0
Front (Ok n) out answer = (n ≤ length out) × (answer ≡ Some (take n out))
Front (Err e) out answer = answer ≡ None
