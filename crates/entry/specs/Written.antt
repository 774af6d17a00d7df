-- A buffer behind the writer of an entry's body.
use Rattle.std.specs.Prelude.{◌≡◌, ℕ, ◌<◌, ◌≤◌, List, length, Some, None, Option}
use Rattle.octets.specs.Parts.{over}

-- where there is room the body is in front, the old bytes are behind and its length is answered; else nothing changed
abbrev pub BodyWritten : List ℕ → List ℕ → List ℕ → Option ℕ → Type 0
BodyWritten body before after (Some n) = (n ≡ length body) × (n ≤ 267) × (n ≤ length before) × (after ≡ over body before)
BodyWritten body before after None = (length before < length body) × (after ≡ before)
