-- Formats with rules on their numbers: each number is judged where it stands, by rule 1 and then by its other rules.
use Rattle.std.specs.Prelude.{ℕ, ◌+◌, Bool, List, [], ◌∷◌, ◌++◌, length, Ok, Result, nat_le}
use Rattle.fault.specs.declared.Fault.{Fault}
use Rattle.fault.specs.declared.Layer.{Layer}
use Rattle.fault.specs.declared.Cause.TheVariants.{Malformed}
use Rattle.fault.specs.Codes.{fault}
use Rattle.octets.specs.Numbers.{number_at}
use Rattle.octets.specs.Parts.{part_at}
use Rattle.record.specs.Chains.{unless, guards}
use Rattle.record.specs.Formats.{Format, number, string, done, Field, num, str}

-- a format whose numbers have rules: a number of w bytes that passes a test, with the rows that judge the number at its place; a string of n bytes; or the end
pub data Ruled (A : Type 0) : Type 0 where
  numeral : (w : ℕ) → (ok : ℕ → Bool) → (rules : ℕ → ℕ → List (Bool × Fault)) → (next : ℕ → Ruled A) → Ruled A
  text : (n : ℕ) → (next : List ℕ → Ruled A) → Ruled A
  end : A → Ruled A

-- a number with no rule but its test
abbrev pub free : ℕ → ℕ → List (Bool × Fault)
free n at = []

-- one behind the other, the second may hang on what the first holds
abbrev pub follow : {A B : Type 0} → Ruled A → (A → Ruled B) → Ruled B
follow (numeral w ok rules next) k = numeral w ok rules (λ n. follow (next n) k)
follow (text n next) k = text n (λ s. follow (next s) k)
follow (end a) k = k a

-- rule 1 alone: the format without its other rules
abbrev pub plain : {A : Type 0} → Ruled A → Format A
plain (numeral w ok rules next) = number w ok (λ n. plain (next n))
plain (text n next) = string n (λ s. plain (next s))
plain (end a) = done a

-- the rows that judge the fields of a frame that begins at a place, from the front
abbrev pub rows : {A : Type 0} → Ruled A → List Field → ℕ → List (Bool × Fault)
rows (numeral w ok rules next) [] at = []
rows (numeral w ok rules next) (num v n ∷ fs) at = rules n at ++ rows (next n) fs (at + w)
rows (numeral w ok rules next) (str s ∷ fs) at = []
rows (text n next) [] at = []
rows (text n next) (num v m ∷ fs) at = []
rows (text n next) (str s ∷ fs) at = rows (next s) fs (at + n)
rows (end a) fs at = []

-- the fields from a place on: a field that is not wholly there, a number out of range, a number that breaks a rule is refused
abbrev pub scan : {A B : Type 0} → Layer → Ruled A → (A → ℕ → Result B Fault) → List ℕ → ℕ → Result B Fault
scan l (numeral w ok rules next) k bs at =
    unless (nat_le (at + w) (length bs)) (fault Malformed l (length bs))
    (unless (ok (number_at bs at w)) (fault Malformed l at)
    (guards (rules (number_at bs at w) at)
    (scan l (next (number_at bs at w)) k bs (at + w))))
scan l (text n next) k bs at =
    unless (nat_le (at + n) (length bs)) (fault Malformed l (length bs))
    (scan l (next (part_at bs at n)) k bs (at + n))
scan l (end a) k bs at = k a at

-- a frame ends where its last field does
abbrev pub ending : {A : Type 0} → Layer → List ℕ → A → ℕ → Result A Fault
ending l bs a e = unless (nat_le (length bs) e) (fault Malformed l e) (Ok a)

-- what a reader answers that judges all rules from the front
abbrev pub scan_by : {A : Type 0} → Layer → Ruled A → List ℕ → Result A Fault
scan_by l c bs = scan l c (ending l bs) bs 0
