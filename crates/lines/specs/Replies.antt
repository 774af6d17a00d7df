-- The bytes of an answer.
use Rattle.std.specs.Prelude.{ℕ, ◌+◌, ◌%◌, List, ◌∷◌, ◌++◌, length, Ok, Err, Result}
use Rattle.fault.specs.declared.Fault.{Fault}
use Rattle.fault.specs.declared.Cause.TheVariants.{Malformed}
use Rattle.fault.specs.declared.Layer.TheVariants.{Frame}
use Rattle.fault.specs.Codes.{fault, letter, number}
use Rattle.octets.specs.Numbers.{be, limit}
use Rattle.store.specs.Slot.{Slot}
use Rattle.lines.specs.Lines.{width}

-- a number as a line writes it, at the width of a version; a larger one by its low bytes
abbrev pub wire : ℕ → List ℕ
wire n = be width (n % (limit width + 1))

-- a refusal as bytes: ff, its number, its layer's letter and its place
abbrev pub refusal_bytes : Fault → List ℕ
refusal_bytes f = 255 ∷ number f.cause ∷ letter f.layer ∷ wire f.place

-- an answer as bytes: 00 and the answer, or the refusal
abbrev pub reply : {A : Type 0} → (A → List ℕ) → Result A Fault → List ℕ
reply say (Ok answer) = 0 ∷ say answer
reply say (Err f) = refusal_bytes f

-- version, length, value and digest of an item
abbrev pub item_bytes : Slot → List ℕ
item_bytes s = wire s.version ++ (length s.value ∷ s.value ++ s.digest)

-- the count of commits and the chain
abbrev pub mark_bytes : ℕ → List ℕ → List ℕ
mark_bytes count chain = wire count ++ chain

-- the bytes of the answer to a line that asks for no call: refused as malformed, in layer F, at place 0
abbrev pub no_call_bytes : List ℕ
no_call_bytes = refusal_bytes (fault Malformed Frame 0)
