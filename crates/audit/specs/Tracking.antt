-- How what is kept of a board stands to the reports judged.
use Rattle.std.specs.Prelude.{◌≡◌, ℕ, ◌+◌, List, length, Some, None}
use Rattle.audit.specs.declared.track.Track.{Track}
use Rattle.audit.specs.Reports.{FirstWrong, LastRight, OfBoard, Report, WrongMark}

-- While board b gave no wrong report its last right one is kept; after that its first wrong one, and the last right one before it.
pub record Tracks (digest : List ℕ → List ℕ) (t : Track) (reports : List Report) (b : ℕ) : Type 0 where
  pub never : t.wrong ≡ None → (k : ℕ) → OfBoard (WrongMark digest) reports b k → ⊥
  pub so_far : t.wrong ≡ None → LastRight digest reports b (length reports + 1) t.right
  pub first : (n : ℕ) → t.wrong ≡ Some n → FirstWrong digest reports b n
  pub before : (n : ℕ) → t.wrong ≡ Some n → LastRight digest reports b n t.right
