-- Two boards: what was delivered to each, and what their marks say of their commits.
use Rattle.std.specs.Prelude.{◌≡◌, ℕ, ◌+◌, ◌⊎◌, List, [], ◌∷◌, ◌++◌, map, length, replicate, ◌≢◌}
use Rattle.std.specs.List.{ContainsAt as Has}
use Rattle.request.specs.Bodies.{WriteBody}
use Rattle.history.specs.Events.{Effect, Event, delivered, asked, marked, shared_out, shared_in, proved, effects}
use Rattle.history.specs.Commits.{commits}
use Rattle.history.specs.Clients.{used}
use Rattle.history.specs.Entries.{chain_after, chain_string, entry_of}
use Rattle.history.specs.Answers.{Lawful}

-- the frame of an event, if it is a delivery
abbrev pub frame_of : Event → List (List ℕ)
frame_of (delivered frame r) = frame ∷ []
frame_of (asked item r) = []
frame_of (marked count chain) = []
frame_of (shared_out version before after r) = []
frame_of (shared_in frame r) = []
frame_of (proved low high before after r) = []

-- the frames that were delivered, in order, refused ones too
unfoldable pub frames : List Event → List (List ℕ)
frames [] = []
frames (e ∷ h) = frame_of e ++ frames h

-- one list is the other's first part
abbrev pub FirstPart : {A : Type 0} → List A → List A → Type 0
FirstPart {A} xs ys = (rest : List A) × (ys ≡ xs ++ rest)

-- two boards with the same commits, and the same numbers used by each client
pub record Same (es fs : List Effect) : Type 0 where
  pub commits : commits es ≡ commits fs
  pub used : (c : ℕ) → used c es ≡ used c fs

-- the one's are first parts of the other's
pub record Extends (es fs : List Effect) : Type 0 where
  pub commits : FirstPart (commits es) (commits fs)
  pub used : (c : ℕ) → FirstPart (used c es) (used c fs)

-- Boards with one digest and one seal: what was delivered fixes the commits, whatever else was asked and whatever number a board has.
module _ (digest : List ℕ → List ℕ) (tag : ℕ → List ℕ → List ℕ) where
  abbrev pub OneOrder : Type 0
  OneOrder = (f f' own own' : ℕ) (h k : List Event) → Lawful digest tag f own [] h → Lawful digest tag f' own' [] k
      → FirstPart (frames h) (frames k) → Extends (effects h) (effects k)

-- the value of a write
abbrev pub write_value : WriteBody → List ℕ
write_value w = w.value

module _ (digest : List ℕ → List ℕ) where
  -- every digest has 32 bytes
  abbrev pub Sized : Type 0
  Sized = (m : List ℕ) → length (digest m) ≡ 32

  -- the strings that commits digest, each the values of its writes and the string that is chained
  unfoldable pub digested_from : ℕ → List ℕ → List (List WriteBody) → List (List ℕ)
  digested_from k chain [] = []
  digested_from k chain (ws ∷ cs) = map write_value ws ++ (s ∷ digested_from (k + 1) (digest s) cs)
    where
      s : List ℕ
      s = chain_string digest chain (entry_of digest (k + 1) ws)

  -- all that a board's commits digested, from the first
  abbrev pub digested : List (List WriteBody) → List (List ℕ)
  digested cs = digested_from 0 (replicate 32 0) cs

  -- a string of the one list and another string of the other list have the same digest
  abbrev pub Clash : List (List ℕ) → List (List ℕ) → Type 0
  Clash ss ts = (s : List ℕ) × ((t : List ℕ) × (Has ss s × Has ts t × (s ≢ t) × (digest s ≡ digest t)))

  -- the same mark: count and chain
  abbrev pub SameMark : List (List WriteBody) → List (List WriteBody) → Type 0
  SameMark cs ds = (length cs ≡ length ds) × (chain_after digest cs ≡ chain_after digest ds)

  -- Equal marks mean equal commits, unless two strings that the commits digested clash.
  abbrev pub EqualMarks : Type 0
  EqualMarks = (cs ds : List (List WriteBody)) → SameMark cs ds → (cs ≡ ds) ⊎ Clash (digested cs) (digested ds)

  -- Equal commits mean equal marks.
  abbrev pub EqualCommits : Type 0
  EqualCommits = (cs ds : List (List WriteBody)) → cs ≡ ds → SameMark cs ds
