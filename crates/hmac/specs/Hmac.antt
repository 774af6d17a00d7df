-- HMAC of RFC 2104, section 2, over SHA-256.
use Rattle.std.specs.Prelude.{◌≡◌, ℕ, ◌-◌, ◌<◌, ◌≤◌, List, ◌++◌, map, length, replicate, Some, None, Option, bit_xor}
use Rattle.sha256.specs.Padding.{bytes_of}
use Rattle.sha256.specs.Hash.{SHA256}

infixl 8 ◌⊕◌
-- the hash function: a digest's eight words as its L = 32 bytes
abbrev pub H : List ℕ → List ℕ
H m = bytes_of (SHA256 m)

-- the byte length of the hash function's blocks
abbrev pub B : ℕ
B = 64

-- the byte 0x36, which is repeated B times
abbrev pub ipad : ℕ
ipad = 0x36

-- the byte 0x5C, which is repeated B times
abbrev pub opad : ℕ
opad = 0x5c

-- step (1): a key of at most B bytes, with zeros behind it up to B bytes
abbrev pub filled : List ℕ → List ℕ
filled k = k ++ replicate (B - length k) 0

-- steps (2) and (5): XOR, the exclusive or of each byte with the repeated byte x
unfoldable pub ◌⊕◌ : List ℕ → ℕ → List ℕ
k ⊕ x = map (bit_xor x) k

-- H(K XOR opad, H(K XOR ipad, text))
unfoldable pub HMAC : List ℕ → List ℕ → List ℕ
HMAC k text = H ((filled k ⊕ opad) ++ H ((filled k ⊕ ipad) ++ text))

-- what is answered for one of its two hashes, under the repeated byte x: nothing above 65,535 bytes of text
abbrev pub Keyed : List ℕ → ℕ → List ℕ → Option (List ℕ) → Type 0
Keyed k x m (Some t) = (length m ≤ 65535) × (t ≡ H ((filled k ⊕ x) ++ m))
Keyed k x m None = 65535 < length m

-- what is answered for the key k and the text m: f of their code, and nothing above 65,535 bytes
abbrev pub Coded : (List ℕ → List ℕ) → List ℕ → List ℕ → Option (List ℕ) → Type 0
Coded f k m (Some t) = (length m ≤ 65535) × (t ≡ f (HMAC k m))
Coded f k m None = 65535 < length m
