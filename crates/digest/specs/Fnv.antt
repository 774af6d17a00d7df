-- 64-bit FNV-1a as its authors publish it, and the four words of the digest made of it.
use Rattle.std.specs.Prelude.{ℕ, ◌*◌, ◌%◌, ◌^◌, List, [], ◌∷◌, length, fold, bit_xor}

-- offset_basis
abbrev pub basis : ℕ
basis = 14695981039346656037

-- FNV_prime
abbrev pub prime : ℕ
prime = 1099511628211

-- hash = hash xor octet_of_data; hash = hash * FNV_prime, in 64 bits
unfoldable pub step : ℕ → ℕ → ℕ
step hash octet = (bit_xor hash octet * prime) % 2 ^ 64

-- the hash from a given start: one step for each octet of data
unfoldable pub hashed : ℕ → List ℕ → ℕ
hashed start octets = fold step start octets

-- the digest: FNV-1a, then the length, then two zero words
unfoldable pub fnv_words : List ℕ → List ℕ
fnv_words m = hashed basis m ∷ length m ∷ 0 ∷ 0 ∷ []
