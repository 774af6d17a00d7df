-- How a call's refusals are stated: one ordered table of condition and fault.
use Rattle.std.specs.Prelude.{◌≡◌, List, [], ◌∷◌, Ok, Err, Result}
use Rattle.fault.specs.declared.Fault.{Fault}

-- a row: where the condition holds, the call refuses with the fault
pub record Case : Type 1 where
  pub condition : Type 0
  pub refusal : Fault

abbrev pub when : Type 0 → Fault → Case
when c f = record { condition = c; refusal = f }

-- the success that is defined; a refusal is none
abbrev pub Succeeds : {A : Type 0} → (A → Type 0) → Result A Fault → Type 0
Succeeds P (Ok a) = P a
Succeeds P (Err e) = ⊥

-- the answer under a table: the fault of the first row whose condition holds, else the success
abbrev pub Under : {A : Type 0} → List Case → (A → Type 0) → Result A Fault → Type 0
Under [] P r = Succeeds P r
Under (c ∷ cs) P r = (c.condition → r ≡ Err c.refusal) × ((c.condition → ⊥) → Under cs P r)

-- what a frame's reader refuses comes first; then the table for what the frame holds
abbrev pub Read : {A B : Type 0} → Result B Fault → (B → Result A Fault → Type 0) → Result A Fault → Type 0
Read (Ok b) next r = next b r
Read (Err e) next r = r ≡ Err e
