-- The numbers of sixteen clients; `used` gives for each client the numbers that it used.
use Rattle.std.specs.Prelude.{◌≡◌, ℕ, ◌<◌, List, [], ◌∷◌, ◌++◌, None, Option, Ok, Err, Result, ◌≢◌, slice_index_or}
use Rattle.numbers.specs.Sequence.{Open, opens}
use Rattle.numbers.specs.Tracking.{Tracks}
use Rattle.numbers.specs.declared.client.NotOpen.{NotOpen}
use Rattle.numbers.specs.declared.client.Numbers.{Numbers}
use Rattle.numbers.specs.declared.clients.Clients.{Clients}

-- stands where there is no client
abbrev pub no_numbers : Numbers
no_numbers = record { next = None; held = [] }

-- what is held of a client
abbrev pub numbers_of : Clients → ℕ → Numbers
numbers_of c k = slice_index_or c.numbers k no_numbers

abbrev pub TracksAll : ℕ → Clients → (ℕ → List ℕ) → Type 0
TracksAll w c used = (k : ℕ) → k < 16 → Tracks w (numbers_of c k) (used k)

-- One client used one number more, and no other client did.
abbrev pub UsedMore : (ℕ → List ℕ) → ℕ → ℕ → (ℕ → List ℕ) → Type 0
UsedMore used client s after = (after client ≡ used client ++ s ∷ []) × ((k : ℕ) → (k ≢ client) → after k ≡ used k)

-- What using a client's number does; a client that there is not has none.
abbrev pub UsesUpOf : ℕ → Clients → Clients → (ℕ → List ℕ) → ℕ → ℕ → Result (Option ℕ) NotOpen → Type 0
UsesUpOf w before after used client s (Ok opened) =
    (client < 16) × Open w (used client) s × (opened ≡ opens w (used client))
    × ((more : ℕ → List ℕ) → UsedMore used client s more → TracksAll w after more)
UsesUpOf w before after used client s (Err e) = (client < 16 → Open w (used client) s → ⊥) × (after ≡ before)
