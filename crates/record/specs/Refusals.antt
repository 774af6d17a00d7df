-- What rule 1 says of a string of bytes, in terms of the frames in range.
use Rattle.std.specs.Prelude.{◌≡◌, ℕ, ◌<◌, ◌≤◌, Bool, ◌⊎◌, List, ◌∷◌, ◌++◌, length, Ok, Err, Result, ◌≢◌}
use Rattle.fault.specs.declared.Fault.{Fault}
use Rattle.fault.specs.declared.Layer.{Layer}
use Rattle.fault.specs.declared.Cause.TheVariants.{Malformed}
use Rattle.octets.specs.Numbers.{be, limit}
use Rattle.record.specs.Chains.{guards}
use Rattle.record.specs.Formats.{Format, Field, num, field_bytes, written, Fields}

-- the bytes are a frame in range that holds a
pub record InRange {A : Type 0} (f : Format A) (bs : List ℕ) (a : A) : Type 0 where
  pub fields : List Field
  pub fields_ok : Fields f fields a
  pub bytes : bs ≡ written fields

-- out of range at p: the field at p is wholly there; some frame in range agrees on all fields before it and has such a field there, and none agrees on this field too
pub record OutOfRange {A : Type 0} (f : Format A) (bs : List ℕ) (p : ℕ) : Type 0 where
  pub before : List Field
  pub width : ℕ
  pub value : ℕ
  pub rest : List ℕ
  pub bytes : bs ≡ written before ++ (be width value ++ rest)
  pub place : p ≡ length (written before)
  pub fits : value ≤ limit width
  pub other : ℕ
  pub more : List Field
  pub holds : A
  pub some : Fields f (before ++ num width other ∷ more) holds
  pub none : (fs : List Field) (a : A) (tail : List ℕ) → Fields f fs a → written fs ≢ written before ++ (be width value ++ tail)

-- too short, p is the length: some frame in range agrees on every field that is wholly there, and the next of its fields is not
pub record TooShort {A : Type 0} (f : Format A) (bs : List ℕ) (p : ℕ) : Type 0 where
  pub before : List Field
  pub rest : List ℕ
  pub bytes : bs ≡ written before ++ rest
  pub place : p ≡ length bs
  pub next : Field
  pub more : List Field
  pub holds : A
  pub some : Fields f (before ++ next ∷ more) holds
  pub cut : length rest < length (field_bytes next)

-- too long at p: the first p bytes are a frame in range, and more follow
pub record TooLong {A : Type 0} (f : Format A) (bs : List ℕ) (p : ℕ) : Type 0 where
  pub fields : List Field
  pub holds : A
  pub frame : Fields f fields holds
  pub rest : List ℕ
  pub bytes : bs ≡ written fields ++ rest
  pub place : p ≡ length (written fields)
  pub surplus : 0 < length rest

-- rule 1's answer: what the frame in range holds, or where the bytes leave every frame in range
abbrev pub Says : {A : Type 0} → Layer → Format A → List ℕ → Result A Fault → Type 0
Says l f bs (Ok a) = InRange f bs a
Says l f bs (Err e) = (e.cause ≡ Malformed) × (e.layer ≡ l) × (OutOfRange f bs e.place ⊎ (TooShort f bs e.place ⊎ TooLong f bs e.place))

-- rule 1 first: either it refuses, or the bytes are a frame in range and the other rules decide on what it holds
abbrev pub Judged : {A : Type 0} → Layer → Format A → (A → List (Bool × Fault)) → List ℕ → Result A Fault → Type 0
Judged {A} l f rules bs r = ((e : Fault) × (r ≡ Err e) × Says l f bs (Err e)) ⊎ ((a : A) × InRange f bs a × (r ≡ guards (rules a) (Ok a)))
