-- An entry's body in front of a buffer.
use Rattle.std.proofs.Common.{◌≡◌, ℕ, ◌<◌, ◌≤◌, List, length, take, drop, Some, None, Option, sym, ap, ◌∙◌, arith}
use Rattle.std.proofs.lemmas.List.{take_at}
use Rattle.entry.specs.Written.{BodyWritten}

pub body_front : (body before after : List ℕ) (o : Option ℕ) (n : ℕ) → n ≡ length body → n ≤ length before → BodyWritten body before after o
    → take n after ≡ body
body_front body before after (Some k) n size room w = ap (take n) w.3 ∙ take_at body (drop (length body) before) n (sym size)
body_front body before after None n size room w = absurd (short w.0)
  where
    short : length before < length body → ⊥
    short lt = omega arith
