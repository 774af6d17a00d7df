-- How what is held of clients stands to the numbers that they used.
use Rattle.std.specs.Prelude.{◌≡◌, ℕ, ◌+◌, ◌<◌, ◌≤◌, List, [], ◌∷◌, ◌++◌, length, Some, None, Option, Ok, Err, Result, slice_index_or}
use Rattle.octets.specs.Numbers.{limit}
use Rattle.numbers.specs.Sequence.{Open, Rightly, opens}
use Rattle.numbers.specs.declared.client.NotOpen.{NotOpen}
use Rattle.numbers.specs.declared.client.Numbers.{Numbers}

-- what is held at a place
abbrev pub held_at : Numbers → ℕ → Option ℕ
held_at n i = slice_index_or n.held i None

-- One client's numbers are those that its verdicts left: what is held is open, what is open is held, and in one place.
pub record Tracks (w : ℕ) (n : Numbers) (used : List ℕ) : Type 0 where
  pub rightly : Rightly w used
  pub next : n.next ≡ opens w used
  pub four : length n.held ≡ 4
  pub sound : (i s : ℕ) → i < 4 → held_at n i ≡ Some s → Open w used s
  pub complete : (s : ℕ) → Open w used s → (i : ℕ) × (i < 4) × (held_at n i ≡ Some s)
  pub apart : (i j s : ℕ) → i < 4 → j < 4 → held_at n i ≡ Some s → held_at n j ≡ Some s → i ≡ j

-- the number behind another, or none where that is the largest, or there is none
abbrev pub Behind : ℕ → Option ℕ → Option ℕ → Type 0
Behind w None next = next ≡ None
Behind w (Some n) next = (limit w ≤ n → next ≡ None) × (n < limit w → next ≡ Some (n + 1))

-- Where no number was used up, nothing changed.
abbrev pub Untouched : {A : Type 0} → A → A → Result (Option ℕ) NotOpen → Type 0
Untouched before after (Ok opened) = Unit {0}
Untouched before after (Err e) = after ≡ before

-- What using a number does: an open one is used up, and the answer is the number opened in its place; any other is refused, and nothing changes.
abbrev pub UsesUp : ℕ → Numbers → Numbers → List ℕ → ℕ → Result (Option ℕ) NotOpen → Type 0
UsesUp w before after used s (Ok opened) = Open w used s × (opened ≡ opens w used) × Tracks w after (used ++ s ∷ [])
UsesUp w before after used s (Err e) = (Open w used s → ⊥) × (after ≡ before)
