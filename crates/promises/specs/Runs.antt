-- Items and verdicts follow the commits: what holds of every run.
use Rattle.std.specs.Prelude.{◌≡◌, ℕ, ◌<◌, min, List, [], ◌∷◌, ◌++◌, length, take, drop, Ok}
use Rattle.std.specs.List.{AllByRecursion}
use Rattle.fault.specs.declared.Verdict.TheVariants.{Abort, Commit}
use Rattle.decision.specs.Decisions.{verdict_of}
use Rattle.store.specs.Slot.{Slot}
use Rattle.request.specs.Bodies.{RequestBody, WriteBody, read_request}
use Rattle.history.specs.declared.Delivery.{Delivery}
use Rattle.history.specs.Events.{Event, delivered, effects, width}
use Rattle.history.specs.Commits.{HadRead, commits, kept, left, shown}
use Rattle.history.specs.Answers.{Answered, Lawful}
use Rattle.board.specs.declared.state.Board.{Board}
use Rattle.answer.specs.Answers.{item_answer}
use Rattle.board.specs.Standing.{Represents}
use Rattle.board.specs.WriteSets.{WriteSets}
use Rattle.promises.specs.declared.calls.Call.{Call}
use Rattle.promises.specs.declared.calls.Answer.{Answer}
use Rattle.history.specs.Backs.{AllReadBack, EventReadsBack}
use Rattle.promises.specs.Events.{Of, Ran}

-- A verdict after commits cs: the frame holds a request, and the verdict is commit where every read had what those commits left,
-- and abort where one had not.
pub record RightVerdict (digest : List ℕ → List ℕ) (cs : List (List WriteBody)) (frame : List ℕ) (d : Delivery) : Type 0 where
  pub request : RequestBody
  pub read : read_request width frame ≡ Ok request
  pub commit : verdict_of d.decision ≡ Commit → AllByRecursion (HadRead digest cs) request.reads
  pub commits : AllByRecursion (HadRead digest cs) request.reads → verdict_of d.decision ≡ Commit
  pub abort : verdict_of d.decision ≡ Abort → AllByRecursion (HadRead digest cs) request.reads → ⊥
  pub aborts : (AllByRecursion (HadRead digest cs) request.reads → ⊥) → verdict_of d.decision ≡ Abort

-- each verdict in a history is right by the commits before it
abbrev pub RightVerdicts : (List ℕ → List ℕ) → List Event → Type 0
RightVerdicts digest h =
    (before after : List Event) (frame : List ℕ) (d : Delivery)
    → h ≡ before ++ delivered frame (Ok d) ∷ after → RightVerdict digest (commits (effects before)) frame d

module _ {S D L : Type 0} (holds : S → ℕ → Slot) (digest : List ℕ → List ℕ) (tag_of : L → ℕ → List ℕ → List ℕ) where
  -- Items and verdicts follow the commits of a history: each item of the store is what they left, and so is what the item call answers of it.
  pub record Follows (b : Board S D L) (h : List Event) : Type 0 where
    pub items : (x : ℕ) → x < 64 → holds b.store x ≡ kept digest (left (commits (effects h)) x)
    pub asked : (x : ℕ) → x < 64 → item_answer digest (holds b.store) x ≡ Ok (shown digest (left (commits (effects h)) x))
    pub verdicts : RightVerdicts digest h

  module _ (tag : ℕ → List ℕ → List ℕ) (f own : ℕ) where
    -- One call behind a history: it is an event with the answer that the history gives, what a proof call wrote reads back,
    -- every commit is still a write set, and the board is where the event brought it.
    pub record Called (h : List Event) (c : Call) (a : Answer) (room out : List ℕ) (b : Board S D L) : Type 0 where
      pub event : Event
      pub of : Of room out c a event
      pub answered : Answered digest tag f own (effects h) event
      pub back : EventReadsBack digest tag f own (effects h) event
      pub sets : WriteSets (h ++ event ∷ [])
      pub represents : Represents holds digest tag_of tag f own b (h ++ event ∷ [])

    -- A run behind a history: its calls with their answers are events, every event has the answer that those before it give,
    -- every proof reads back, every commit is a write set, and the board is where all of them brought it. `room` is what the buffer held, `out` what is left there.
    pub record Run (h : List Event) (calls : List Call) (answers : List Answer) (room out : List ℕ) (b : Board S D L) : Type 0 where
      pub events : List Event
      pub ran : Ran room calls answers events out
      pub lawful : Lawful digest tag f own [] (h ++ events)
      pub back : AllReadBack digest tag f own [] (h ++ events)
      pub sets : WriteSets (h ++ events)
      pub represents : Represents holds digest tag_of tag f own b (h ++ events)
      pub follows : Follows b (h ++ events)

    -- A run goes as far as there is room for answers: these stand in front, what the buffer of answers held stands behind.
    pub record Runs (h : List Event) (calls : List Call) (before after : List Answer) (room out : List ℕ) (b : Board S D L) (n : ℕ) : Type 0 where
      pub count : n ≡ min (length calls) (length before)
      pub run : Run h (take n calls) (take n after) room out b
      pub behind : drop n after ≡ drop n before
