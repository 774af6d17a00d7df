-- What a digest means, how it is written, and what a digest call answers.
use Rattle.std.specs.Prelude.{◌≡◌, ℕ, ◌/◌, ◌%◌, ◌^◌, ◌<◌, ◌≤◌, List, [], ◌∷◌, length, Ok, Err, Result}
use Rattle.std.specs.List.{flat_map}
use Rattle.fault.specs.declared.Fault.{Fault}
use Rattle.fault.specs.declared.Cause.TheVariants.{Malformed}
use Rattle.fault.specs.declared.Layer.TheVariants.{Frame}
use Rattle.fault.specs.Codes.{fault}

-- the longest string that is digested
abbrev pub longest : ℕ
longest = 65535

-- the refusal of a longer one, at its first surplus byte
abbrev pub too_long : Fault
too_long = fault Malformed Frame longest

-- a word of 64 bits as eight bytes, high byte first
abbrev pub word_bytes : ℕ → List ℕ
word_bytes n =
    n / 2 ^ 56 % 256 ∷ n / 2 ^ 48 % 256 ∷ n / 2 ^ 40 % 256 ∷ n / 2 ^ 32 % 256 ∷ n / 2 ^ 24 % 256 ∷ n / 2 ^ 16 % 256 ∷ n / 2 ^ 8 % 256 ∷ n % 256 ∷ []

-- words as bytes, one behind the other
abbrev pub written : List ℕ → List ℕ
written ws = flat_map word_bytes ws

-- what a meaning gives of a string, as bytes
abbrev pub bytes_by : (List ℕ → List ℕ) → List ℕ → List ℕ
bytes_by of m = written (of m)

-- A string is refused exactly when it is too long; else the answer is what f gives of it.
abbrev pub Answers : (List ℕ → List ℕ) → List ℕ → Result (List ℕ) Fault → Type 0
Answers f m (Ok d) = (length m ≤ longest) × (d ≡ f m)
Answers f m (Err e) = (longest < length m) × (e ≡ too_long)
