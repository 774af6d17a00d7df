-- Checks that follow one another: the first that fails decides.
use Rattle.std.specs.Prelude.{Bool, cond, List, [], ◌∷◌, Ok, Err, Result}
use Rattle.fault.specs.declared.Fault.{Fault}

-- a fault unless the test passes
abbrev pub unless : {A : Type 0} → Bool → Fault → Result A Fault → Result A Fault
unless b f r = cond b r (Err f)

-- the second answer, if the first is no fault
abbrev pub after : {A B : Type 0} → Result A Fault → Result B Fault → Result B Fault
after (Ok x) s = s
after (Err f) s = Err f

-- what comes of the first answer
abbrev pub and_then : {A B : Type 0} → Result A Fault → (A → Result B Fault) → Result B Fault
and_then (Ok x) k = k x
and_then (Err f) k = Err f

-- a table of tests with their faults: the first that fails decides
abbrev pub guards : {A : Type 0} → List (Bool × Fault) → Result A Fault → Result A Fault
guards [] r = r
guards (row ∷ rows) r = unless row.0 row.1 (guards rows r)

-- what a table answers by itself
abbrev pub tested : List (Bool × Fault) → Result (Unit {0}) Fault
tested rows = guards rows (Ok tt)
