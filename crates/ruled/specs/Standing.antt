-- Which faults stand in a string of bytes, and which of them is answered.
use Rattle.std.specs.Prelude.{◌≡◌, ℕ, ◌+◌, ◌<◌, ◌≤◌, Bool, true, false, ◌⊎◌, List, [], ◌∷◌, length, take, Ok, Err, Result}
use Rattle.std.specs.List.{AllByRecursion}
use Rattle.fault.specs.declared.Fault.{Fault}
use Rattle.fault.specs.declared.Layer.{Layer}
use Rattle.fault.specs.Codes.{number}
use Rattle.record.specs.Formats.{Field, written, Fields}
use Rattle.record.specs.Refusals.{Says}
use Rattle.ruled.specs.Ruled.{Ruled, plain, rows}

-- an element of a list
abbrev pub Among : {X : Type 0} → X → List X → Type 0
Among x [] = ⊥
Among x (y ∷ ys) = (y ≡ x) ⊎ Among x ys

-- a row that passes
abbrev pub Passes : Bool × Fault → Type 0
Passes row = row.0 ≡ true

-- at a smaller place; at one place, by the number of the cause
abbrev pub Before : Fault → Fault → Type 0
Before e d = (e.place < d.place) ⊎ ((e.place ≡ d.place) × (number e.cause ≤ number d.cause))

-- two strings with the same bytes up to and with the one at p
pub record Alike (p : ℕ) (bs cs : List ℕ) : Type 0 where
  pub there : p < length bs
  pub same : take (p + 1) bs ≡ take (p + 1) cs

-- a rule is broken: some frame in range has the same bytes up to and with the place of the fault, and breaks the rule there
pub record Broken {A : Type 0} (c : Ruled A) (bs : List ℕ) (e : Fault) : Type 0 where
  pub fields : List Field
  pub holds : A
  pub frame : Fields (plain c) fields holds
  pub alike : Alike e.place bs (written fields)
  pub row : Among (false, e) (rows c fields 0)

-- a fault stands in the bytes, by rule 1 or by a rule that is broken
abbrev pub Stands : {A : Type 0} → Layer → Ruled A → List ℕ → Fault → Type 0
Stands l c bs e = Says l (plain c) bs (Err e) ⊎ Broken c bs e

-- a frame in range that keeps the rules
pub record Kept {A : Type 0} (c : Ruled A) (bs : List ℕ) (a : A) : Type 0 where
  pub fields : List Field
  pub frame : Fields (plain c) fields a
  pub bytes : bs ≡ written fields
  pub keeps : AllByRecursion Passes (rows c fields 0)

-- the answer: what a frame that keeps all rules holds, or of all faults that stand the one at the least place
abbrev pub Answered : {A : Type 0} → Layer → Ruled A → List ℕ → Result A Fault → Type 0
Answered l c bs (Ok a) = Kept c bs a
Answered l c bs (Err e) = Stands l c bs e × ((d : Fault) → Stands l c bs d → Before e d)
