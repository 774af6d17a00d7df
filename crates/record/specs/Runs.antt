-- Records that stand one behind the other in a frame, as marks of where they stand.
use Rattle.std.specs.Prelude.{ℕ, zero, suc, List, [], ◌∷◌, ◌++◌, Ok, Err, Result}
use Rattle.fault.specs.declared.Fault.{Fault}
use Rattle.inline_vec.specs.Lists.{items}
use Rattle.inline_vec.specs.declared.InlineVec.{InlineVec}
use Rattle.record.specs.Chains.{and_then}
use Rattle.record.specs.Rules.{Spot}

-- some marks, and the place behind the last
abbrev pub Run : Type 0 → Type 0
Run R = Result (List R × ℕ) Fault

-- more marks in front
abbrev pub behind : {R : Type 0} → List R → Run R → Run R
behind rs (Ok p) = Ok (rs ++ p.0, p.1)
behind rs (Err f) = Err f

-- as many marks as asked for, each record where the one before ends
abbrev pub run : {R : Type 0} → (List ℕ → ℕ → Result R Fault) → (R → ℕ) → List ℕ → ℕ → ℕ → Run R
run stands ends bs zero at = Ok ([], at)
run stands ends bs (suc n) at = and_then (stands bs at) (λ r. behind (r ∷ []) (run stands ends bs n (ends r)))

-- what a call answers that marks records
abbrev pub marked : {R : Type 0} {n : _} → Result (InlineVec R n × ℕ) Fault → Run R
marked (Ok p) = Ok (items p.0, p.1)
marked (Err f) = Err f

-- a mark's number and place
abbrev pub spot_of : {R : Type 0} → (R → ℕ) → (R → ℕ) → R → Spot
spot_of number place r = record { number = number r; place = place r }

abbrev pub spotted : {R : Type 0} → (R → ℕ) → (R → ℕ) → List R → List Spot
spotted number place [] = []
spotted number place (r ∷ rs) = spot_of number place r ∷ spotted number place rs

-- the marks of records that are to be written one behind the other, from the records alone
abbrev pub planned_run : {P R : Type 0} → (P → ℕ → Result R Fault) → (R → ℕ) → List P → ℕ → Run R
planned_run judged ends [] at = Ok ([], at)
planned_run judged ends (p ∷ ps) at = and_then (judged p at) (λ r. behind (r ∷ []) (planned_run judged ends ps (ends r)))
