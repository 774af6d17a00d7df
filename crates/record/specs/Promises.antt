-- What the readers and writers of every kind of frame promise, for a format, its records and the rules behind rule 1.
use Rattle.std.specs.Prelude.{◌≡◌, ℕ, Bool, List, length, take, Ok, Result}
use Rattle.fault.specs.declared.Fault.{Fault}
use Rattle.fault.specs.declared.Layer.{Layer}
use Rattle.record.specs.Chains.{after, guards}
use Rattle.record.specs.Formats.{Format, Field, written, read_by}
use Rattle.record.specs.Refusals.{Judged}
use Rattle.record.specs.Writing.{room_for, filled, Fitting}

module _ {A : Type 0} (l : Layer) (f : Format A) (rules : A → List (Bool × Fault)) (fields : A → List Field) (In : A → Type 0) where
  -- a reader's answer r to the bytes bs
  pub record Reads (bs : List ℕ) (r : Result A Fault) : Type 0 where
    -- it is the one that rule 1 and then the other rules give, and no other answer is
    pub judged : Judged l f rules bs r
    pub only : (s : Result A Fault) → Judged l f rules bs s → s ≡ r
    -- it accepts exactly the bytes of the records in range that keep the other rules; an accepted frame is what the writer makes of its record
    pub accepted : (a : A) → r ≡ Ok a → In a × (guards (rules a) (Ok a) ≡ Ok a) × (bs ≡ written (fields a))
    pub accepts : (a : A) → In a → guards (rules a) (Ok a) ≡ Ok a → bs ≡ written (fields a) → r ≡ Ok a

  -- a writer's answer r to the record a, with the buffer before and behind it
  pub record Writes (a : A) (before behind : List ℕ) (r : Result ℕ Fault) : Type 0 where
    -- the frame is in front and the old bytes behind; a refusal changes no byte
    pub buffer : behind ≡ filled r (written (fields a)) before
    -- what was written is in range, and reads back as its record
    pub back : (n : ℕ) → r ≡ Ok n → In a × (read_by l f rules (take n behind) ≡ Ok a)
    -- where there are bytes for the record, it refuses what the reader refuses, at the same place, and then too short a buffer
    pub same : Fitting (fields a) → r ≡ after (read_by l f rules (written (fields a))) (room_for (length (written (fields a))) (length before))
