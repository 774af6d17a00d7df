-- The rules behind rule 1, as tables over records with a number and a place.
use Rattle.std.specs.Prelude.{ℕ, ◌+◌, ◌*◌, Bool, true, List, [], ◌∷◌, length, Some, None, Option, ◌==◌, nat_lt}
use Rattle.std.specs.List.{list_any}
use Rattle.fault.specs.declared.Fault.{Fault}
use Rattle.fault.specs.declared.Layer.{Layer}
use Rattle.fault.specs.declared.Cause.TheVariants.{NotRising, Unread, NotMember}
use Rattle.fault.specs.Codes.{fault}
use Rattle.record.specs.Formats.{Field, written}

-- a record's number, and where the record begins in its frame
pub record Spot : Type 0 where
  pub number : ℕ
  pub place : ℕ

-- the spots of records that stand one behind the other from a place on
abbrev pub spots : {A : Type 0} → (A → ℕ) → (A → List Field) → ℕ → List A → List Spot
spots number fields at [] = []
spots number fields at (x ∷ xs) = record { number = number x; place = at } ∷ spots number fields (at + length (written (fields x))) xs

-- a number is above the last one, if there was one
abbrev pub above : Option ℕ → ℕ → Bool
above None n = true
above (Some m) n = nat_lt m n

-- rule 2: each number is above the one before
abbrev pub rising : Layer → Option ℕ → List Spot → List (Bool × Fault)
rising l last [] = []
rising l last (s ∷ ss) = (above last s.number, fault NotRising l s.place) ∷ rising l (Some s.number) ss

-- a number is among others
abbrev pub among : ℕ → List ℕ → Bool
among n ms = list_any (λ m. m == n) ms

-- rule 4: each number is among those that were read
abbrev pub covered : Layer → List ℕ → List Spot → List (Bool × Fault)
covered l known [] = []
covered l known (s ∷ ss) = (among s.number known, fault Unread l s.place) ∷ covered l known ss

-- how many boards there are, where up to f may lie
abbrev pub boards : ℕ → ℕ
boards f = 3 * f + 1

-- rule 5: a signer is one of the boards
abbrev pub member : Layer → ℕ → ℕ → ℕ → Bool × Fault
member l f signer place = (nat_lt signer (boards f), fault NotMember l place)
