-- FIPS 180-4, sections 5.2.1 and 6.2.2: SHA-256 of a message, over its N blocks.
use Rattle.std.specs.Prelude.{◌≡◌, ℕ, zero, suc, ◌*◌, ◌/◌, ◌<◌, ◌≤◌, Bool, true, false, List, ◌++◌, length, take, drop, Some, None, Option}
use Rattle.sha256.specs.Constants.{initial}
use Rattle.sha256.specs.Block.{compressed}
use Rattle.sha256.specs.Padding.{padded}

-- 5.2.1: block i of the string p, counted from 0
abbrev pub block : List ℕ → ℕ → List ℕ
block p i = take 64 (drop (64 * i) p)

-- 6.2.2: the hash value after i blocks of the string p, begun from h
unfoldable pub after : List ℕ → List ℕ → ℕ → List ℕ
after h p zero = h
after h p (suc i) = compressed (after h p i) (block p i)

-- the hash value after all N blocks of p
unfoldable pub after_all : List ℕ → List ℕ → List ℕ
after_all h p = after h p (length p / 64)

-- 6.2: the message digest, as eight words
unfoldable pub SHA256 : List ℕ → List ℕ
SHA256 m = after_all initial (padded m)

-- whether n bytes are taken: up to 65,535
abbrev pub Taken : ℕ → Bool → Type 0
Taken n true = n ≤ 65535
Taken n false = 65535 < n

-- what is answered for the message m: its digest, and nothing above 65,535 bytes
abbrev pub Hashed : List ℕ → Option (List ℕ) → Type 0
Hashed m (Some d) = (length m ≤ 65535) × (d ≡ SHA256 m)
Hashed m None = 65535 < length m

-- what is answered for the message m behind the block b: the digest of both, and nothing where m has more than 65,535 bytes
abbrev pub HashedBehind : List ℕ → List ℕ → Option (List ℕ) → Type 0
HashedBehind b m (Some d) = (length m ≤ 65535) × (d ≡ SHA256 (b ++ m))
HashedBehind b m None = 65535 < length m
