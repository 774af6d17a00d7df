-- What a writer answers, from the fields that it is to write.
use Rattle.std.specs.Prelude.{ℕ, ◌+◌, ◌≤◌, Bool, List, [], ◌∷◌, ◌++◌, length, drop, Ok, Err, Result, nat_le}
use Rattle.fault.specs.declared.Fault.{Fault}
use Rattle.fault.specs.declared.Layer.{Layer}
use Rattle.fault.specs.declared.Layer.TheVariants.{Frame}
use Rattle.fault.specs.declared.Cause.TheVariants.{Malformed, NoRoom}
use Rattle.fault.specs.Codes.{fault}
use Rattle.octets.specs.Numbers.{limit}
use Rattle.record.specs.Chains.{unless, guards}
use Rattle.record.specs.Formats.{Format, number, string, done, Field, num, str}

-- rule 1 on fields that are to be written, from the front: a number must fit its width and pass its test, a string must have its length
abbrev pub judge : {A B : Type 0} → Layer → Format A → (A → List Field → ℕ → Result B Fault) → List Field → ℕ → Result B Fault
judge l (number w ok next) k [] at = Err (fault Malformed l at)
judge l (number w ok next) k (num v n ∷ fs) at =
    unless (nat_le n (limit w)) (fault Malformed l at)
    (unless (ok n) (fault Malformed l at)
    (judge l (next n) k fs (at + w)))
judge l (number w ok next) k (str bs ∷ fs) at = Err (fault Malformed l at)
judge l (string n next) k [] at = Err (fault Malformed l at)
judge l (string n next) k (num v m ∷ fs) at = Err (fault Malformed l at)
judge l (string n next) k (str bs ∷ fs) at =
    unless (nat_le n (length bs)) (fault Malformed l (at + length bs))
    (unless (nat_le (length bs) n) (fault Malformed l (at + n))
    (judge l (next bs) k fs (at + n)))
judge l (done a) k fs at = k a fs at

-- room for n bytes, asked last
abbrev pub room_for : ℕ → ℕ → Result ℕ Fault
room_for n room = unless (nat_le n room) (fault NoRoom Frame 0) (Ok n)

-- what a writer answers: rule 1, the other rules, the room; then how many bytes it wrote
abbrev pub write_by : {A : Type 0} → Layer → Format A → (A → List (Bool × Fault)) → List Field → ℕ → Result ℕ Fault
write_by l f rules fs room = judge l f (λ a gs e. guards (rules a) (room_for e room)) fs 0

-- the buffer behind a writer: the frame in front and the old bytes behind it, or all as it was
abbrev pub filled : Result ℕ Fault → List ℕ → List ℕ → List ℕ
filled (Ok n) bs old = bs ++ drop n old
filled (Err f) bs old = old

-- each number fits its width, so that there are bytes for it
abbrev pub Fitting : List Field → Type 0
Fitting [] = Unit {0}
Fitting (num w n ∷ fs) = (n ≤ limit w) × Fitting fs
Fitting (str s ∷ fs) = Fitting fs
