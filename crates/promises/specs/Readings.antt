-- An accepted reading is the state after its highest version.
use Rattle.std.specs.Prelude.{◌≡◌, ℕ, ◌<◌, ◌≤◌, List, [], ◌∷◌, ◌++◌, length, take, Ok, Err, Result}
use Rattle.std.specs.List.{ContainsAt as Has}
use Rattle.fault.specs.declared.Fault.{Fault}
use Rattle.record.specs.Rules.{boards}
use Rattle.seal.specs.Seals.{passes}
use Rattle.store.specs.Slot.{Slot}
use Rattle.request.specs.Bodies.{WriteBody}
use Rattle.reading.specs.Bodies.{ReadingBody, reading_of}
use Rattle.proof.specs.Bodies.{ProofBody}
use Rattle.proof.specs.Rules.{proof_of}
use Rattle.history.specs.Events.{Event, effects, proved, width}
use Rattle.history.specs.Commits.{commits}
use Rattle.history.specs.Answers.{Answered, Lawful, ProofReadsBack}
use Rattle.history.specs.Marks.{FirstPart, frames}
use Rattle.board.specs.declared.state.Board.{Board}
use Rattle.board.specs.Standing.{Represents}
use Rattle.board.specs.WriteSets.{WriteSets}
use Rattle.promises.specs.declared.calls.Call.{Call}
use Rattle.promises.specs.declared.calls.Answer.{Answer}
use Rattle.history.specs.Backs.{AllReadBack}
use Rattle.promises.specs.Runs.{Runs}
use Rattle.reader.specs.Checks.{highest, lowest}
use Rattle.reader.specs.Accepted.{Holds, NoClash, NoForgery}

-- a board's number that is not among the faulty ones
abbrev pub Honest : ℕ → List ℕ → ℕ → Type 0
Honest f faulty a = (a < boards f) × (Has faulty a → ⊥)

-- Of 3 f + 1 boards some are faulty. Each honest one has a lawful history in which every proof reads back, as every run on a new board has,
-- and was delivered a first part of the frames on the bus; refused frames count too.
pub record Boards (digest : List ℕ → List ℕ) (tag : ℕ → List ℕ → List ℕ) (f : ℕ) (faulty : List ℕ) (bus : List (List ℕ)) (of : ℕ → List Event) : Type 0 where
  pub lawful : (a : ℕ) → Honest f faulty a → Lawful digest tag f a [] (of a)
  pub back : (a : ℕ) → Honest f faulty a → AllReadBack digest tag f a [] (of a)
  pub order : (a : ℕ) → Honest f faulty a → FirstPart (frames (of a)) bus

-- an honest board that was delivered the most
pub record Furthest (f : ℕ) (faulty : List ℕ) (of : ℕ → List Event) (a : ℕ) : Type 0 where
  pub honest : Honest f faulty a
  pub most : (b : ℕ) → Honest f faulty b → length (frames (of b)) ≤ length (frames (of a))

-- the commits of each board
abbrev pub commits_of : (ℕ → List Event) → ℕ → List (List WriteBody)
commits_of of a = commits (effects (of a))

module _ (digest : List ℕ → List ℕ) (tag : ℕ → List ℕ → List ℕ) (f : ℕ) (reading proof : List ℕ) (r : Result ℕ Fault) where
  -- An accepted reading: both frames are well formed, and the answer is the highest version read. Whatever boards there are and
  -- whichever of them are faulty, at most f: the reading is what the commits left after that version, if of the tags in this proof none was forged
  -- as an honest board's, and no value read has the digest of another value that the commit of its version wrote to the item.
  pub record Accepted (m : ℕ) : Type 0 where
    pub read : ReadingBody
    pub proven : ProofBody
    pub reads : reading_of width reading ≡ Ok read
    pub proves : proof_of width f proof ≡ Ok proven
    pub answer : m ≡ highest read.items
    pub state : (faulty : List ℕ) (bus : List (List ℕ)) (of : ℕ → List Event) (furthest : ℕ) → length faulty ≤ f → Boards digest tag f faulty bus of → Furthest f faulty of furthest
        → NoForgery digest (passes tag) faulty (commits_of of) proven.entries → NoClash digest (commits_of of furthest) read.items
        → Holds (commits_of of furthest) read.items

  -- with any bytes as proof
  abbrev pub AcceptedIsState : Type 0
  AcceptedIsState = (m : ℕ) → r ≡ Ok m → Accepted m

  -- With what an honest board's proof call left in its buffer, asked for the lowest and the highest version read: a reading that holds is accepted,
  -- and one that is accepted holds if no digests clash. Of tags nothing is asked, nor of how many boards are faulty.
  abbrev pub HonestProofSettles : Type 0
  HonestProofSettles =
      (faulty : List ℕ) (bus : List (List ℕ)) (of : ℕ → List Event) (furthest : ℕ) → Boards digest tag f faulty bus of → Furthest f faulty of furthest
      → (q : ReadingBody) → reading_of width reading ≡ Ok q
      → (a : ℕ) → Honest f faulty a → (earlier later : List Event) (before after : List ℕ) (n : ℕ)
      → of a ≡ earlier ++ proved (lowest q.items) (highest q.items) before after (Ok n) ∷ later → proof ≡ take n after
      → (Holds (commits_of of furthest) q.items → r ≡ Ok (highest q.items))
      × (NoClash digest (commits_of of furthest) q.items → r ≡ Ok (highest q.items) → Holds (commits_of of furthest) q.items)

  -- both
  pub record Judged : Type 0 where
    pub accepted : AcceptedIsState
    pub settled : HonestProofSettles

-- A board's own proof call behind a history h, and the check of a reading with what the call left in the buffer; a refused call is the answer.
module _ {S D L : Type 0} (holds : S → ℕ → Slot) (digest : List ℕ → List ℕ) (tag_of : L → ℕ → List ℕ → List ℕ) (tag : ℕ → List ℕ → List ℕ) (f own : ℕ) where
  pub record OwnProof (b : Board S D L) (h : List Event) (low high : ℕ) (reading room out : List ℕ) (r : Result ℕ Fault) : Type 0 where
    pub call : Result ℕ Fault
    pub answered : Answered digest tag f own (effects h) (proved low high room out call)
    pub back : ProofReadsBack digest tag f own (effects h) low high out call
    pub represents : Represents holds digest tag_of tag f own b (h ++ proved low high room out call ∷ [])
    pub sets : WriteSets (h ++ proved low high room out call ∷ [])
    pub refused : (e : Fault) → call ≡ Err e → r ≡ Err e
    pub judged : (n : ℕ) → call ≡ Ok n → Judged digest tag f reading (take n out) r
    -- where this board is honest, and was asked for the lowest and the highest version read, whatever it was asked later
    pub settled : (n : ℕ) → call ≡ Ok n → (q : ReadingBody) → reading_of width reading ≡ Ok q → low ≡ lowest q.items → high ≡ highest q.items
        → (faulty : List ℕ) (bus : List (List ℕ)) (of : ℕ → List Event) (furthest : ℕ) → Boards digest tag f faulty bus of → Furthest f faulty of furthest
        → Honest f faulty own → (later : List Event) → of own ≡ h ++ proved low high room out (Ok n) ∷ later
        → (Holds (commits_of of furthest) q.items → r ≡ Ok (highest q.items))
        × (NoClash digest (commits_of of furthest) q.items → r ≡ Ok (highest q.items) → Holds (commits_of of furthest) q.items)

  -- The same for the range of the reading itself: a malformed reading is refused and nothing is asked; else the board is asked for the lowest and the highest version read.
  pub record ReadAndJudged (b : Board S D L) (h : List Event) (reading room out : List ℕ) (r : Result ℕ Fault) : Type 0 where
    pub malformed : (e : Fault) → reading_of width reading ≡ Err e → (r ≡ Err e) × (out ≡ room)
    pub asked : (q : ReadingBody) → reading_of width reading ≡ Ok q → OwnProof b h (lowest q.items) (highest q.items) reading room out r

  -- A run on a new board, and then a reading judged with that board's proof, by a reader with this f and this seal.
  pub record RunAndJudged (calls : List Call) (before after : List Answer) (room out reading space left : List ℕ) (g : ℕ) (seal : ℕ → List ℕ → List ℕ) (b : Board S D L) (n : ℕ) (r : Result ℕ Fault) : Type 0 where
    pub runs : Runs holds digest tag_of tag f own [] calls before after room out b n
    pub judged : g ≡ f → ((s : ℕ) (m : List ℕ) → seal s m ≡ tag s m) → ReadAndJudged b runs.run.events reading space left r
