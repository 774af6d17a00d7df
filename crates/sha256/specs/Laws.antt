-- What FIPS 180-4 says of the definitions before, for every block and every message.
use Rattle.std.specs.Prelude.{◌≡◌, ℕ, ◌+◌, ◌*◌, ◌%◌, ◌<◌, ◌≤◌, List, length, slice_index}
use Rattle.sha256.specs.Constants.{primes}
use Rattle.sha256.specs.Block.{M, W, next}
use Rattle.sha256.specs.Padding.{zeros, padded}
use Rattle.sha256.specs.Hash.{SHA256}

-- 4.2.2: the primes are sixty-four, from 2 to 311
abbrev pub Primes : Type 0
Primes = (length primes ≡ 64) × (slice_index primes 0 ≡ 2) × (slice_index primes 63 ≡ 311)

-- 6.2.2, step 1: word t is the block's for t from 0 to 15, and follows from four earlier words for t from 16 to 63
abbrev pub Schedules : Type 0
Schedules =
    (b : List ℕ)
    → ((t : ℕ) → t < 16 → slice_index (W b) t ≡ M b t)
    × ((t : ℕ) → 16 ≤ t → t < 64 → slice_index (W b) t ≡ next (W b) t)

-- 5.1.1: for a message of n bytes, so of l = 8 * n bits, the k = 7 + 8 * zeros n bits 0 are the fewest with l + 1 + k ≡ 448 mod 512
abbrev pub Pads : Type 0
Pads =
    (n : ℕ)
    → ((8 * n + 1 + (7 + 8 * zeros n)) % 512 ≡ 448)
    × ((k : ℕ) → (8 * n + 1 + k) % 512 ≡ 448 → 7 + 8 * zeros n ≤ k)

-- 5.2.1: the padded message is N blocks of 64 bytes, with nothing left over
abbrev pub Parses : Type 0
Parses = (m : List ℕ) → length (padded m) % 64 ≡ 0

-- 6.2: a message digest is eight words
abbrev pub Digests : Type 0
Digests = (m : List ℕ) → length (SHA256 m) ≡ 8
