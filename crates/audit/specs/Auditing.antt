-- How an audit stands to the history of its replay and to the reports judged, and what a report does.
use Rattle.std.specs.Prelude.{◌≡◌, ℕ, ◌<◌, ◌≤◌, ◌⊎◌, List, [], ◌∷◌, ◌++◌, length, Some, None, Option, slice_index_or}
use Rattle.std.specs.List.{AllByRecursion}
use Rattle.store.specs.Slot.{Slot}
use Rattle.history.specs.Events.{Event, effects}
use Rattle.history.specs.Commits.{commits}
use Rattle.board.specs.Standing as standing
use Rattle.audit.specs.declared.answers.Judgement.{Judgement}
use Rattle.audit.specs.declared.state.Audit.{Audit}
use Rattle.audit.specs.declared.track.Track.{Track}
use Rattle.audit.specs.Reports.{Judges, Report, TellsAll}
use Rattle.audit.specs.Tracking.{Tracks}

-- stands where there is no board
abbrev pub no_track : Track
no_track = record { right = None; wrong = None }

-- what is kept of a board
abbrev pub track_of : {S D L : Type 0} → Audit S D L → ℕ → Track
track_of a b = slice_index_or a.tracks b no_track

-- the most reports that have a number
abbrev pub most_reports : ℕ
most_reports = 4294967295

-- a report of a mark, after a history of the replay
abbrev pub report_of : List Event → ℕ → ℕ → List ℕ → Report
report_of h b count chain = record { board = b; count = count; chain = chain; replayed = commits (effects h) }

-- Where there is no judgement, nothing changed.
abbrev pub KeptOnNone : {A B : Type 0} → A → A → Option B → Type 0
KeptOnNone before after (Some j) = Unit {0}
KeptOnNone before after None = after ≡ before

module _ {S D L : Type 0} (holds : S → ℕ → Slot) (digest : List ℕ → List ℕ) (tag_of : L → ℕ → List ℕ → List ℕ) (tag : ℕ → List ℕ → List ℕ) (f own : ℕ) where
  -- An audit represents a history and reports: its board has that history, and it keeps track of those reports of each board.
  pub record Represents (a : Audit S D L) (h : List Event) (reports : List Report) : Type 0 where
    pub replay : standing.Represents holds digest tag_of tag f own a.board h
    pub count : a.reports ≡ length reports
    pub members : AllByRecursion (λ r. r.board < 16) reports
    pub tracks : (b : ℕ) → b < 16 → Tracks digest (track_of a b) reports b

  -- What a report does: it is judged, the judgement tells what it tells, and it is the last of the reports; the replay stays.
  -- None exactly where there is no such board, or no number left.
  abbrev pub Reported : Audit S D L → List Event → List Report → ℕ → ℕ → List ℕ → Option Judgement → Type 0
  Reported after h reports b count chain (Some j) =
      (b < 16) × (length reports < most_reports) × Judges digest j (report_of h b count chain) × TellsAll digest j (report_of h b count chain)
      × Represents after h (reports ++ report_of h b count chain ∷ [])
  Reported after h reports b count chain None = (16 ≤ b) ⊎ (length reports ≡ most_reports)
