-- The call of a line, by the bytes that it holds.
use Rattle.std.proofs.Common.{◌≡◌, ℕ, ◌+◌, ◌<◌, ◌≤◌, leb, List, length, None, Option, sym, ap, ◌∙◌, inl, inr, arith, length-take, le-leb}
use borrow.Author.Tests.{lt-leb}
use Rattle.std.proofs.lemmas.List.{take_all}
use Rattle.std.proofs.lemmas.Bool.{cases_lt, cond-false, cond-true}
use Rattle.lines.specs.Hex.{unhex}
use Rattle.lines.specs.Lines.{call_of_bytes, kept_of, line_call, line_limit}

pub too_long : (line : List ℕ) → line_limit < length line → line_call line ≡ None
too_long line long = cond-false (leb (length line) line_limit) (call_of_bytes (unhex line)) None (lt-leb (length line) line_limit long)

pub called : (line : List ℕ) (o : Option (List ℕ)) → length line ≤ line_limit → unhex line ≡ o → line_call line ≡ call_of_bytes o
called line o short is =
    cond-true (leb (length line) line_limit) (call_of_bytes (unhex line)) None (le-leb (length line) line_limit short) ∙ ap call_of_bytes is

-- what is kept of a line asks for the call that the line asks for
pub kept-call : (line : List ℕ) → line_call (kept_of line) ≡ line_call line
kept-call line =
    elim (cases_lt line_limit (length line)) [
      | inl long ↦ too_long (kept_of line) (simp length-take (omega arith)) ∙ sym (too_long line long)
      | inr short ↦ ap line_call (take_all (line_limit + 1) line (omega arith))
    ]
