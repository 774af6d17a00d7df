-- Formats whose other rules are judged where they stand: a check looks at what was read so far, and the least place decides.
use Rattle.std.specs.Prelude.{ℕ, ◌+◌, Bool, List, length, Ok, Result, nat_le}
use Rattle.fault.specs.declared.Fault.{Fault}
use Rattle.fault.specs.declared.Layer.{Layer}
use Rattle.fault.specs.declared.Cause.TheVariants.{Malformed}
use Rattle.fault.specs.Codes.{fault}
use Rattle.octets.specs.Numbers.{number_at}
use Rattle.octets.specs.Parts.{part_at}
use Rattle.record.specs.Chains.{unless, guards}
use Rattle.record.specs.Formats.{Format, number, string, done}

-- as a format, with checks between its fields; a check knows the place that it stands at
pub data Checked (A : Type 0) : Type 0 where
  numeral : (w : ℕ) → (ok : ℕ → Bool) → (next : ℕ → Checked A) → Checked A
  text : (n : ℕ) → (next : List ℕ → Checked A) → Checked A
  check : (ℕ → List (Bool × Fault)) → Checked A → Checked A
  end : A → Checked A

-- one behind the other
abbrev pub follow : {A B : Type 0} → Checked A → (A → Checked B) → Checked B
follow (numeral w ok next) k = numeral w ok (λ n. follow (next n) k)
follow (text n next) k = text n (λ s. follow (next s) k)
follow (check rows c) k = check rows (follow c k)
follow (end a) k = k a

-- rule 1 alone: the format without its checks
abbrev pub plain : {A : Type 0} → Checked A → Format A
plain (numeral w ok next) = number w ok (λ n. plain (next n))
plain (text n next) = string n (λ s. plain (next s))
plain (check rows c) = plain c
plain (end a) = done a

-- all of it from the front: at each place rule 1, then the checks
abbrev pub scan : {A B : Type 0} → Layer → Checked A → (A → ℕ → Result B Fault) → List ℕ → ℕ → Result B Fault
scan l (numeral w ok next) k bs at =
    unless (nat_le (at + w) (length bs)) (fault Malformed l (length bs))
    (unless (ok (number_at bs at w)) (fault Malformed l at)
    (scan l (next (number_at bs at w)) k bs (at + w)))
scan l (text n next) k bs at =
    unless (nat_le (at + n) (length bs)) (fault Malformed l (length bs))
    (scan l (next (part_at bs at n)) k bs (at + n))
scan l (check rows c) k bs at = guards (rows at) (scan l c k bs at)
scan l (end a) k bs at = k a at

-- what a reader answers that judges every rule from the front
abbrev pub scan_by : {A : Type 0} → Layer → Checked A → List ℕ → Result A Fault
scan_by l c bs = scan l c (λ a e. unless (nat_le (length bs) e) (fault Malformed l e) (Ok a)) bs 0
