-- What an answer line holds.
use Rattle.std.specs.Prelude.{ℕ, List, take}
use Rattle.lines.specs.declared.answer_line.AnswerLine.{AnswerLine}

-- the digits of an answer line
abbrev pub digits_of : {n : _} → AnswerLine n → List ℕ
digits_of a = take a.len a.digits
