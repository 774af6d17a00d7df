-- The records of a frame one by one, from marks of where they stand.
use Rattle.std.specs.Prelude.{ℕ, List, [], ◌∷◌, Some, None, Option}

-- a record in front, if there is one
abbrev pub before : {B : Type 0} → Option B → List B → List B
before (Some b) bs = b ∷ bs
before None bs = []

-- what marks show of a frame, up to the first that shows nothing
abbrev pub shown : {M B : Type 0} → (List ℕ → M → Option B) → List ℕ → List M → List B
shown view bs [] = []
shown view bs (m ∷ ms) = before (view bs m) (shown view bs ms)
