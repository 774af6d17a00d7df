-- What a session holds of the replies: for each board what it said, if it replied.
use Rattle.std.specs.Prelude.{◌≡◌, ℕ, ◌<◌, Bool, true, false, is_some, Some, None, Option, ◌==◌, ◌≢◌, slice_index_or}
use Rattle.decision.specs.declared.Decision.{Decision}
use Rattle.decision.specs.declared.Decision.TheVariants.{Abort, Commit}
use Rattle.session.specs.Replies.{count_below}
use Rattle.session.specs.declared.heard.Heard.{Heard}

abbrev pub heard_of : Heard → ℕ → Option Decision
heard_of h b = slice_index_or h.said b None

-- whether two decisions are one
abbrev pub same : Decision → Decision → Bool
same Abort Abort = true
same Abort (Commit k) = false
same (Commit j) Abort = false
same (Commit j) (Commit k) = j == k

-- whether a board said this
abbrev pub is_said : Option Decision → Decision → Bool
is_said (Some e) d = same e d
is_said None d = false

-- how many boards said this
abbrev pub hearers : Heard → Decision → ℕ
hearers h d = count_below (λ b. is_said (heard_of h b) d) 16

-- A reply was taken, and the answer is how many boards agree with it; or the board is none or has replied, and nothing changed.
abbrev pub Took : Heard → Heard → ℕ → Decision → Option ℕ → Type 0
Took before after board d (Some count) =
    (heard_of before board ≡ None) × (heard_of after board ≡ Some d) × ((b : ℕ) → (b ≢ board) → heard_of after b ≡ heard_of before b) × (count ≡ hearers after d)
Took before after board d None = (board < 16 → is_some (heard_of before board) ≡ true) × (after ≡ before)
