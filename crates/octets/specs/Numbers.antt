-- Numbers as bytes, high byte first, at a width in bytes.
use Rattle.std.specs.Prelude.{ℕ, zero, suc, ◌+◌, ◌-◌, ◌*◌, ◌/◌, ◌%◌, ◌^◌, ◌<◌, List, [], ◌∷◌, ◌++◌, slice_index}

-- every element is a byte
abbrev pub Bytes : List ℕ → Type 0
Bytes bs = (i : ℕ) → slice_index bs i < 256

-- the largest number that a width can hold
abbrev pub limit : ℕ → ℕ
limit w = 2 ^ (8 * w) - 1

-- the w bytes of a number, high byte first
abbrev pub be : ℕ → ℕ → List ℕ
be zero n = []
be (suc zero) n = n ∷ []
be (suc (suc w)) n = be (suc w) (n / 256) ++ (n % 256 ∷ [])

-- the number that the w bytes at a place stand for, high byte first
abbrev pub number_at : List ℕ → ℕ → ℕ → ℕ
number_at bs at zero = 0
number_at bs at (suc zero) = slice_index bs at
number_at bs at (suc (suc w)) = number_at bs at (suc w) * 256 + slice_index bs (at + suc w)
