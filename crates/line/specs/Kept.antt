-- What is kept of a line is answered as the line is.
use Rattle.std.specs.Prelude.{◌≡◌, ℕ, List, Option}
use Rattle.std.proofs.Common.{ap, ◌∙◌}
use Rattle.store.specs.Slot.{Slot}
use Rattle.lines.specs.Lines.{kept_of}
use Rattle.lines.proofs.Calls.{kept-call}
use Rattle.line.specs.Lines.{may_name}
use Rattle.line.specs.Replies.{digits, line_answer, reply_to}

pub answer_as_kept : (digest : List ℕ → List ℕ) (holds : ℕ → Slot) (count : ℕ) (chain line : List ℕ) (o : Option (List ℕ))
    → o ≡ line_answer digest holds count chain (kept_of line) → o ≡ line_answer digest holds count chain line
answer_as_kept digest holds count chain line o told = told ∙ ap (λ call. digits (reply_to digest holds count chain (may_name call))) (kept-call line)
