-- Which sequence numbers a client may use. `used` lists the numbers that got a verdict, oldest first; w is the width of a number in bytes.
use Rattle.std.specs.Prelude.{◌≡◌, ℕ, ◌+◌, ◌≤◌, min, cond, ◌⊎◌, List, [], ◌∷◌, ◌++◌, length, Some, None, Option, ◌≢◌, nat_le}
use Rattle.std.specs.List.{ContainsAt as Has}
use Rattle.octets.specs.Numbers.{limit}

-- the numbers ever opened: 1 to 4 at the start, and with each verdict the next, up to the largest number
abbrev pub EverOpened : ℕ → List ℕ → ℕ → Type 0
EverOpened w used s = (1 ≤ s) × (s ≤ min (4 + length used) (limit w))

-- the numbers open: opened and not used
abbrev pub Open : ℕ → List ℕ → ℕ → Type 0
Open w used s = EverOpened w used s × (Has used s → ⊥)

-- the number that the next verdict opens, the lowest never opened; none where all are
abbrev pub opens : ℕ → List ℕ → Option ℕ
opens w used = cond (nat_le (5 + length used) (limit w)) (Some (5 + length used)) None

-- Only numbers that were opened were used.
abbrev pub Rightly : ℕ → List ℕ → Type 0
Rightly w used = (s : ℕ) → Has used s → EverOpened w used s

-- The same rule, verdict by verdict: a verdict closes the number that it used and opens one more.
abbrev pub Steps : ℕ → List ℕ → ℕ → Type 0
Steps w used s = (t : ℕ)
    → (Open w (used ++ s ∷ []) t → (Open w used t × (t ≢ s)) ⊎ (opens w used ≡ Some t))
    × ((Open w used t × (t ≢ s)) ⊎ (opens w used ≡ Some t) → Open w (used ++ s ∷ []) t)
