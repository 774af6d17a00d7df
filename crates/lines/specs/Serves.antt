-- What comes of the bytes of an input, fed one by one.
use Rattle.std.specs.Prelude.{◌≡◌, ℕ, List, [], ◌∷◌, ◌++◌, Some, None, Option, ◌≢◌}
use Rattle.std.proofs.Common.{inl, inr}
use Rattle.std.proofs.lemmas.Bool.{cases_eq}
use Rattle.lines.specs.Lines.{kept_of}

-- What was kept of a line is answered, and with it whichever line it is of which this much was kept.
abbrev pub Says : {A : Type 0} → (List ℕ → A → Type 0) → List ℕ → A → Type 0
Says Answers kept answer = Answers kept answer × ((line : List ℕ) → kept ≡ kept_of line → Answers line answer)

-- The line that has ended is answered.
abbrev pub Ends : {A : Type 0} → (List ℕ → A → Type 0) → List ℕ → Option A → Type 0
Ends Answers kept (Some answer) = Says Answers kept answer
Ends Answers kept None = ⊥

-- A byte: LF (10) ends the line, and the next begins; any other is put behind it, and all else is as it was.
abbrev pub Takes : {A : Type 0} → (List ℕ → A → Type 0) → Type 0 → List ℕ → ℕ → List ℕ → Option A → Type 0
Takes Answers Same before byte after step =
    (byte ≡ 10 → (after ≡ []) × Ends Answers before step)
    × ((byte ≢ 10) → (after ≡ kept_of (before ++ byte ∷ [])) × (step ≡ None) × Same)

-- The end of the input: a line that has begun is answered; else there is none, and all is as it was.
abbrev pub Finishes : {A : Type 0} → (List ℕ → A → Type 0) → Type 0 → List ℕ → Option A → Type 0
Finishes Answers Same [] step = (step ≡ None) × Same
Finishes Answers Same (b ∷ bs) step = Ends Answers (b ∷ bs) step

-- Where an answer leaves all as it was, so does each end of a line.
pub ended_same : {A : Type 0} (Answers : List ℕ → A → Type 0) (Same : Type 0) (kept : List ℕ) (step : Option A)
    → ((line : List ℕ) (answer : A) → Answers line answer → Same) → Ends Answers kept step → Same
ended_same Answers Same kept (Some answer) same ends = same kept answer ends.0
ended_same Answers Same kept None same ends = absurd ends

-- Where an answer leaves all as it was, so does each byte.
pub taken_same : {A : Type 0} (Answers : List ℕ → A → Type 0) (Same : Type 0) (before : List ℕ) (byte : ℕ) (after : List ℕ) (step : Option A)
    → ((line : List ℕ) (answer : A) → Answers line answer → Same) → Takes Answers Same before byte after step → Same
taken_same Answers Same before byte after step same takes =
    elim (cases_eq byte 10) [
      | inl lf ↦ ended_same Answers Same before step same (takes.0 lf).1
      | inr other ↦ (takes.1 other).2
    ]

-- Where an answer leaves all as it was, so does the end of the input.
pub finished_same : {A : Type 0} (Answers : List ℕ → A → Type 0) (Same : Type 0) (before : List ℕ) (step : Option A)
    → ((line : List ℕ) (answer : A) → Answers line answer → Same) → Finishes Answers Same before step → Same
finished_same Answers Same [] step same finishes = finishes.1
finished_same Answers Same (b ∷ bs) step same finishes = ended_same Answers Same (b ∷ bs) step same finishes
