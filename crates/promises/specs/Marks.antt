-- Equal marks mean equal commits: two boards, whatever their stores, seals and numbers, with one digest.
use Rattle.std.specs.Prelude.{◌≡◌, ℕ, Bool, true, ◌⊎◌, List, [], ◌∷◌, ◌++◌, Decides, Result}
use Rattle.fault.specs.declared.Fault.{Fault}
use Rattle.store.specs.Slot.{Slot}
use Rattle.request.specs.Bodies.{WriteBody}
use Rattle.history.specs.declared.Delivery.{Delivery}
use Rattle.history.specs.Events.{Event, delivered, effects}
use Rattle.history.specs.Answers.{Answered}
use Rattle.history.specs.Commits.{commits}
use Rattle.history.specs.Marks.{Clash, Extends, FirstPart, Same, SameMark, digested, frames}
use Rattle.board.specs.declared.state.Board.{Board}
use Rattle.board.specs.Standing.{Represents}
use Rattle.promises.specs.declared.calls.Call.{Call}
use Rattle.promises.specs.declared.calls.Answer.{Answer}
use Rattle.promises.specs.Runs.{Runs}

-- What it tells of the commits of two boards whether their marks are equal. Equal marks mean equal commits,
-- or a string that the one's commits digested and another that the other's digested have the same digest; equal commits mean equal marks.
pub record Compared (digest : List ℕ → List ℕ) (r : Bool) (cs ds : List (List WriteBody)) : Type 0 where
  pub marks : Decides r (SameMark digest cs ds)
  pub equal : r ≡ true → (cs ≡ ds) ⊎ Clash digest (digested digest cs) (digested digest ds)
  pub same : cs ≡ ds → r ≡ true

module _ {S D L : Type 0} (holds : S → ℕ → Slot) (digest : List ℕ → List ℕ) (tag_of : L → ℕ → List ℕ → List ℕ) where
  -- A delivery's answer is the board's own: the one that its history gives, and the board then stands for the history with this delivery behind it.
  abbrev pub OwnAnswer : List ℕ → Board S D L → Board S D L → Result Delivery Fault → Type 0
  OwnAnswer frame before after r =
      (tag : ℕ → List ℕ → List ℕ) (f own : ℕ) (h : List Event) → Represents holds digest tag_of tag f own before h
      → Answered digest tag f own (effects h) (delivered frame r) × Represents holds digest tag_of tag f own after (h ++ delivered frame r ∷ [])

module _ {S T D K L : Type 0} (holds : S → ℕ → Slot) (keeps : T → ℕ → Slot) (digest : List ℕ → List ℕ) (tag_of : K → ℕ → List ℕ → List ℕ) (sealOf : L → ℕ → List ℕ → List ℕ) where
  -- over all histories that the boards represent
  abbrev pub EqualMarks : Board S D K → Board T D L → Bool → Type 0
  EqualMarks a b r =
      (tag seal : ℕ → List ℕ → List ℕ) (f g own other : ℕ) (h k : List Event)
      → Represents holds digest tag_of tag f own a h → Represents keeps digest sealOf seal g other b k → Compared digest r (commits (effects h)) (commits (effects k))

  -- A delivery's answer is unique: boards with one seal that have the same commits, and whose clients have used the same numbers, answer a frame the same.
  abbrev pub OneAnswer : Board S D K → Board T D L → Result Delivery Fault → Result Delivery Fault → Type 0
  OneAnswer a b r s =
      (tag : ℕ → List ℕ → List ℕ) (f g own other : ℕ) (h k : List Event)
      → Represents holds digest tag_of tag f own a h → Represents keeps digest sealOf tag g other b k → Same (effects h) (effects k) → r ≡ s

  module _ (tag seal : ℕ → List ℕ → List ℕ) (f g own other : ℕ) where
    -- Runs on two new boards, and whether their marks are equal then.
    pub record Agreed (calls others : List Call) (before after told said : List Answer) (room out space left : List ℕ) (a : Board S D K) (b : Board T D L) (r : Bool) : Type 0 where
      pub made : ℕ
      pub more : ℕ
      pub one : Runs holds digest tag_of tag f own [] calls before after room out a made
      pub two : Runs keeps digest sealOf seal g other [] others told said space left b more
      pub compared : Compared digest r (commits (effects one.run.events)) (commits (effects two.run.events))
      -- with one seal, a board that was delivered a first part of the other's frames has a first part of its commits
      pub order : ((s : ℕ) (m : List ℕ) → tag s m ≡ seal s m) → FirstPart (frames one.run.events) (frames two.run.events)
          → Extends (effects one.run.events) (effects two.run.events)
      -- and boards that were delivered the same frames have equal marks
      pub replicas : ((s : ℕ) (m : List ℕ) → tag s m ≡ seal s m) → frames one.run.events ≡ frames two.run.events → r ≡ true
