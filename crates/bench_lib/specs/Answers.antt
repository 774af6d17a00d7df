-- What the benchmark's functions leave where their result goes.
use Rattle.std.specs.Prelude.{◌≡◌, Bool, true, false, List, ℕ, ◌≤◌, ◌<◌, length}

-- the result d for the string m, and nothing for a string above 65,535 bytes
abbrev pub Wrote : List ℕ → List ℕ → List ℕ → List ℕ → Bool → Type 0
Wrote m d old new true = (length m ≤ 65535) × (new ≡ d)
Wrote m d old new false = (65535 < length m) × (new ≡ old)
