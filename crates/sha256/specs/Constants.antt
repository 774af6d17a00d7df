-- FIPS 180-4, sections 4.2.2 and 5.3.3: the round constants and the initial hash value, and what the round constants are.
use Rattle.std.specs.Prelude.{◌≡◌, ℕ, zero, suc, ◌+◌, ◌-◌, ◌*◌, ◌%◌, ◌^◌, ◌<◌, ◌≤◌, Bool, true, false, cond, List, [], ◌∷◌, Some, None, filter, Option, ◌==◌, nat_lt, slice_index}
use Rattle.std.specs.List.{range_with_len}

-- 4.2.2: the sixty-four words, from left to right
abbrev pub constants : List ℕ
constants =
    0x428a2f98 ∷ 0x71374491 ∷ 0xb5c0fbcf ∷ 0xe9b5dba5 ∷ 0x3956c25b ∷ 0x59f111f1 ∷ 0x923f82a4 ∷ 0xab1c5ed5 ∷
    0xd807aa98 ∷ 0x12835b01 ∷ 0x243185be ∷ 0x550c7dc3 ∷ 0x72be5d74 ∷ 0x80deb1fe ∷ 0x9bdc06a7 ∷ 0xc19bf174 ∷
    0xe49b69c1 ∷ 0xefbe4786 ∷ 0x0fc19dc6 ∷ 0x240ca1cc ∷ 0x2de92c6f ∷ 0x4a7484aa ∷ 0x5cb0a9dc ∷ 0x76f988da ∷
    0x983e5152 ∷ 0xa831c66d ∷ 0xb00327c8 ∷ 0xbf597fc7 ∷ 0xc6e00bf3 ∷ 0xd5a79147 ∷ 0x06ca6351 ∷ 0x14292967 ∷
    0x27b70a85 ∷ 0x2e1b2138 ∷ 0x4d2c6dfc ∷ 0x53380d13 ∷ 0x650a7354 ∷ 0x766a0abb ∷ 0x81c2c92e ∷ 0x92722c85 ∷
    0xa2bfe8a1 ∷ 0xa81a664b ∷ 0xc24b8b70 ∷ 0xc76c51a3 ∷ 0xd192e819 ∷ 0xd6990624 ∷ 0xf40e3585 ∷ 0x106aa070 ∷
    0x19a4c116 ∷ 0x1e376c08 ∷ 0x2748774c ∷ 0x34b0bcb5 ∷ 0x391c0cb3 ∷ 0x4ed8aa4a ∷ 0x5b9cca4f ∷ 0x682e6ff3 ∷
    0x748f82ee ∷ 0x78a5636f ∷ 0x84c87814 ∷ 0x8cc70208 ∷ 0x90befffa ∷ 0xa4506ceb ∷ 0xbef9a3f7 ∷ 0xc67178f2 ∷ []

-- the word of round t
abbrev pub K : ℕ → ℕ
K t = slice_index constants t

-- 5.3.3: the initial hash value, H(0)
abbrev pub initial : List ℕ
initial = 0x6a09e667 ∷ 0xbb67ae85 ∷ 0x3c6ef372 ∷ 0xa54ff53a ∷ 0x510e527f ∷ 0x9b05688c ∷ 0x1f83d9ab ∷ 0x5be0cd19 ∷ []

-- no number from 2 to n divides p
abbrev pub undivided : ℕ → ℕ → Bool
undivided zero p = true
undivided (suc n) p = cond (nat_lt n 1) true (cond (p % suc n == 0) false (undivided n p))

-- p is a prime: at least 2, and divided by no number from 2 to p - 1
abbrev pub prime : ℕ → Bool
prime p = cond (nat_lt p 2) false (undivided (p - 1) p)

-- the primes from 2 to 311, in order: the first sixty-four
unfoldable pub primes : List ℕ
primes = filter prime (range_with_len 2 310)

-- k is the first thirty-two bits of the fractional part of the cube root of p, whose whole part is a
pub record CubeRoot (p k : ℕ) : Type 0 where
  pub a : ℕ
  pub whole-low : a ^ 3 ≤ p
  pub whole-high : p < (a + 1) ^ 3
  pub low : (a * 2 ^ 32 + k) ^ 3 ≤ p * 2 ^ 96
  pub high : p * 2 ^ 96 < (a * 2 ^ 32 + k + 1) ^ 3

-- what is answered for t: the word of round t, which comes from the cube root of the prime of that place; nothing above 63
abbrev pub Constant : ℕ → Option ℕ → Type 0
Constant t (Some k) = (t < 64) × (k ≡ K t) × CubeRoot (slice_index primes t) k
Constant t None = 64 ≤ t
