-- What is answered of an item.
use Rattle.std.specs.Prelude.{ℕ, cond, List, [], ◌∷◌, Ok, Err, Result, ◌==◌, nat_lt}
use Rattle.fault.specs.declared.Fault.{Fault}
use Rattle.fault.specs.declared.Cause.TheVariants.{Malformed}
use Rattle.fault.specs.declared.Layer.TheVariants.{Frame}
use Rattle.fault.specs.Codes.{fault}
use Rattle.fault.specs.Tables.{under, when}
use Rattle.store.specs.Slot.{Slot, slot}
use Rattle.store.specs.declared.record.Record.{Record}

-- what is shown of what a store holds: at version 0 the digest is the empty value's
abbrev pub shown_slot : (List ℕ → List ℕ) → Slot → Slot
shown_slot digest s = record { version = s.version; value = s.value; digest = cond (s.version == 0) (digest []) s.digest }

-- The item call: an item is 0 to 63.
abbrev pub item_answer : (List ℕ → List ℕ) → (ℕ → Slot) → ℕ → Result Slot Fault
item_answer digest holds x = under (when (nat_lt 63 x) (fault Malformed Frame 1) ∷ []) (shown_slot digest (holds x))

-- what a record that was answered says
abbrev pub said : Result Record Fault → Result Slot Fault
said (Ok r) = Ok (slot r)
said (Err f) = Err f
