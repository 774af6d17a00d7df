-- What proof calls wrote reads back.
use Rattle.std.specs.Prelude.{ℕ, List, [], ◌∷◌, ◌++◌}
use Rattle.history.specs.Answers.{ProofReadsBack}
use Rattle.history.specs.Events.{Effect, Event, asked, delivered, effect, marked, proved, shared_in, shared_out}

module _ (digest : List ℕ → List ℕ) (tag : ℕ → List ℕ → List ℕ) (f own : ℕ) where
  -- What a proof call wrote reads back as the proof that the effects before it give; of other calls nothing is said.
  abbrev pub EventReadsBack : List Effect → Event → Type 0
  EventReadsBack es (delivered frame r) = Unit {0}
  EventReadsBack es (asked item r) = Unit {0}
  EventReadsBack es (marked count chain) = Unit {0}
  EventReadsBack es (shared_out version before after r) = Unit {0}
  EventReadsBack es (shared_in frame r) = Unit {0}
  EventReadsBack es (proved low high before after r) = ProofReadsBack digest tag f own es low high after r

  -- A history in which every proof reads back, after some effects.
  unfoldable pub AllReadBack : List Effect → List Event → Type 0
  AllReadBack es [] = Unit {0}
  AllReadBack es (e ∷ h) = EventReadsBack es e × AllReadBack (es ++ effect e ∷ []) h
