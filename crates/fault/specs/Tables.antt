-- How a call's refusals are stated: one ordered table of condition and fault.
use Rattle.std.specs.Prelude.{Bool, cond, List, [], ◌∷◌, Ok, Err, Result}
use Rattle.fault.specs.declared.Fault.{Fault}

-- a row: where the condition holds, the call refuses with the fault
pub record Row : Type 0 where
  pub condition : Bool
  pub refusal : Fault

abbrev pub when : Bool → Fault → Row
when c f = record { condition = c; refusal = f }

-- the answer under a table: the fault of the first row whose condition holds, else the success
abbrev pub under : {A : Type 0} → List Row → A → Result A Fault
under [] success = Ok success
under (r ∷ rows) success = cond r.condition (Err r.refusal) (under rows success)
