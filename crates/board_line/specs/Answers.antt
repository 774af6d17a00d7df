-- What comes of a line: its answer, and the board behind it.
use Rattle.std.specs.Prelude.{◌≡◌, ℕ, ◌+◌, ◌*◌, List, [], ◌∷◌, ◌++◌, length, Some, None, Ok, Err, Option}
use Rattle.std.proofs.Common.{refl, subst}
use Rattle.store.specs.Slot.{Slot}
use Rattle.history.specs.Answers.{Answered}
use Rattle.history.specs.Backs.{EventReadsBack}
use Rattle.history.specs.Events.{Event, asked, delivered, effects, marked, proved, shared_in, shared_out, width}
use Rattle.board.specs.declared.state.Board.{Board}
use Rattle.board.specs.Standing.{Represents}
use Rattle.board.specs.WriteSets.{WriteSets}
use Rattle.lines.specs.Hex.{hex}
use Rattle.lines.specs.Lines.{LineCall, deliver, item, kept_of, line_call, mark, proof, share_in, share_out}
use Rattle.lines.specs.Lines as lines
use Rattle.lines.specs.Replies.{no_call_bytes}
use Rattle.lines.proofs.Calls.{kept-call}
use Rattle.board_line.specs.Replies.{event_bytes}

-- the versions of lines are as wide as those of the board's history
pub line_width : lines.width ≡ width
line_width = refl

-- the longest proof, f = 5: 32 entries of 8 writes, each with 6 pairs of signer and tag
abbrev pub longest_proof : ℕ
longest_proof = 1 + 2 * width + 32 * (width + 1 + 8 * (1 + 32) + 6 * (1 + 16))

-- the call whose event this is
abbrev pub call_in : Event → LineCall
call_in (delivered frame r) = deliver frame
call_in (asked number r) = item number
call_in (marked count chain) = mark
call_in (shared_out version before after r) = share_out version
call_in (shared_in frame r) = share_in frame
call_in (proved low high before after r) = proof low high

-- a call that writes has a buffer with room for the longest proof
abbrev pub Roomy : Event → Type 0
Roomy (delivered frame r) = Unit {0}
Roomy (asked number r) = Unit {0}
Roomy (marked count chain) = Unit {0}
Roomy (shared_out version before after r) = length before ≡ longest_proof
Roomy (shared_in frame r) = Unit {0}
Roomy (proved low high before after r) = length before ≡ longest_proof

-- only a verdict and a share that was taken change a board
abbrev pub Changes : {B : Type 0} → B → B → Event → Type 0
Changes before after (delivered frame (Ok d)) = Unit {0}
Changes before after (delivered frame (Err f)) = after ≡ before
Changes before after (asked number r) = after ≡ before
Changes before after (marked count chain) = after ≡ before
Changes before after (shared_out version old new r) = after ≡ before
Changes before after (shared_in frame (Ok n)) = Unit {0}
Changes before after (shared_in frame (Err f)) = after ≡ before
Changes before after (proved low high old new r) = after ≡ before

-- what the board's store, digest and seal mean
module _ {S D L : Type 0} (holds : S → ℕ → Slot) (digest : List ℕ → List ℕ) (tag_of : L → ℕ → List ℕ → List ℕ) where
  -- A call was served: its event has these bytes for its answer, and goes behind every history of write sets that the board represented.
  pub record Served (call : LineCall) (before after : Board S D L) (bytes : List ℕ) : Type 0 where
    pub event : Event
    pub asks : call_in event ≡ call
    pub roomy : Roomy event
    pub says : bytes ≡ event_bytes event
    pub history : (tag : ℕ → List ℕ → List ℕ) (f own : ℕ) (h : List Event) → Represents holds digest tag_of tag f own before h → WriteSets h → Answered digest tag f own (effects h) event × EventReadsBack digest tag f own (effects h) event × Represents holds digest tag_of tag f own after (h ++ event ∷ []) × WriteSets (h ++ event ∷ [])
    pub changes : Changes before after event

  -- A call that a line may ask for: where it asks for none it is refused, and the board is the same.
  abbrev pub ServedBytes : Option LineCall → Board S D L → Board S D L → List ℕ → Type 0
  ServedBytes (Some call) before after bytes = Served call before after bytes
  ServedBytes None before after bytes = (bytes ≡ no_call_bytes) × (after ≡ before)

  -- A line is answered by the digits of its answer's bytes.
  pub record LineAnswers (line : List ℕ) (before after : Board S D L) (digits : List ℕ) : Type 0 where
    pub bytes : List ℕ
    pub written : digits ≡ hex bytes
    pub served : ServedBytes (line_call line) before after bytes

  -- What is kept of a line is answered as the line is.
  pub answer_as_kept : (before after : Board S D L) (line digits : List ℕ) → LineAnswers (kept_of line) before after digits → LineAnswers line before after digits
  answer_as_kept before after line digits told = record {
    bytes = told.bytes;
    written = told.written;
    served = (let P : Option LineCall → Type 0 = λ call. ServedBytes call before after told.bytes in subst P (kept-call line) told.served);
  }
