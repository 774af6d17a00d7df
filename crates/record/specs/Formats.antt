-- Formats: a frame as a list of fields, where a field's width and range may hang on the fields before it.
use Rattle.std.specs.Prelude.{◌≡◌, ℕ, zero, suc, ◌+◌, ◌≤◌, Bool, true, ◌&&◌, List, [], ◌∷◌, ◌++◌, length, Ok, Result, ◌==◌, nat_le}
use Rattle.fault.specs.declared.Fault.{Fault}
use Rattle.fault.specs.declared.Layer.{Layer}
use Rattle.fault.specs.declared.Cause.TheVariants.{Malformed}
use Rattle.fault.specs.Codes.{fault}
use Rattle.octets.specs.Numbers.{Bytes, limit, be, number_at}
use Rattle.octets.specs.Parts.{part_at}
use Rattle.record.specs.Chains.{unless, guards}

-- a format of frames that hold an A: a number of w bytes that passes a test, a string of n bytes, or the end
pub data Format (A : Type 0) : Type 0 where
  number : (w : ℕ) → (ok : ℕ → Bool) → (next : ℕ → Format A) → Format A
  string : (n : ℕ) → (next : List ℕ → Format A) → Format A
  done : A → Format A

infixr 15 ◌>>=◌
-- one format behind the other, the second may hang on what the first holds
abbrev pub ◌>>=◌ : {A B : Type 0} → Format A → (A → Format B) → Format B
number w ok next >>= k = number w ok (λ n. next n >>= k)
string n next >>= k = string n (λ s. next s >>= k)
done a >>= k = k a

-- n records of one format
abbrev pub repeat : {A : Type 0} → ℕ → Format A → Format (List A)
repeat zero f = done []
repeat (suc n) f = f >>= (λ x. repeat n f >>= (λ xs. done (x ∷ xs)))

-- the tests of a number: that it is one, at most one, in a range; or none
abbrev pub is : ℕ → ℕ → Bool
is k n = n == k

abbrev pub up_to : ℕ → ℕ → Bool
up_to high n = nat_le n high

abbrev pub within : ℕ → ℕ → ℕ → Bool
within low high n = nat_le low n && nat_le n high

abbrev pub any : ℕ → Bool
any n = true

-- a field of a frame: a number at a width, or a string
pub data Field : Type 0 where
  num : (w n : ℕ) → Field
  str : List ℕ → Field

-- the bytes of a field, and of fields one behind the other
abbrev pub field_bytes : Field → List ℕ
field_bytes (num w n) = be w n
field_bytes (str bs) = bs

abbrev pub written : List Field → List ℕ
written [] = []
written (f ∷ fs) = field_bytes f ++ written fs

-- the fields of a frame in range that holds a
abbrev pub Fields : {A : Type 0} → Format A → List Field → A → Type 0
Fields (number w ok next) [] a = ⊥
Fields (number w ok next) (num v n ∷ fs) a = (v ≡ w) × (n ≤ limit w) × (ok n ≡ true) × Fields (next n) fs a
Fields (number w ok next) (str bs ∷ fs) a = ⊥
Fields (string n next) [] a = ⊥
Fields (string n next) (num v m ∷ fs) a = ⊥
Fields (string n next) (str bs ∷ fs) a = (length bs ≡ n) × Bytes bs × Fields (next bs) fs a
Fields (done b) [] a = b ≡ a
Fields (done b) (f ∷ fs) a = ⊥

-- the fields from a place on, in order: a field that is not wholly there, then one out of range, is refused
abbrev pub walk : {A B : Type 0} → Layer → Format A → (A → ℕ → Result B Fault) → List ℕ → ℕ → Result B Fault
walk l (number w ok next) k bs at =
    unless (nat_le (at + w) (length bs)) (fault Malformed l (length bs))
    (unless (ok (number_at bs at w)) (fault Malformed l at)
    (walk l (next (number_at bs at w)) k bs (at + w)))
walk l (string n next) k bs at =
    unless (nat_le (at + n) (length bs)) (fault Malformed l (length bs))
    (walk l (next (part_at bs at n)) k bs (at + n))
walk l (done a) k bs at = k a at

-- a frame ends where its last field does; then the other rules judge what it holds
abbrev pub closing : {A : Type 0} → Layer → (A → List (Bool × Fault)) → List ℕ → A → ℕ → Result A Fault
closing l rules bs a e = unless (nat_le (length bs) e) (fault Malformed l e) (guards (rules a) (Ok a))

-- what a reader answers that checks all of rule 1 first, and then the other rules
abbrev pub read_by : {A : Type 0} → Layer → Format A → (A → List (Bool × Fault)) → List ℕ → Result A Fault
read_by l f rules bs = walk l f (closing l rules bs) bs 0

abbrev pub no_rules : {A : Type 0} → A → List (Bool × Fault)
no_rules a = []

-- what rule 1 alone answers
abbrev pub formed : {A : Type 0} → Layer → Format A → List ℕ → Result A Fault
formed l f bs = read_by l f no_rules bs
