-- The seal by SipHash.
use Rattle.std.specs.Prelude.{ℕ, ◌/◌, ◌%◌, ◌^◌, List, [], ◌∷◌, ◌++◌, take, replicate}
use Rattle.siphash.specs.SipHash.{sip_hash24}

-- the eight bytes of a word, the low byte first
abbrev pub low_first : ℕ → List ℕ
low_first x =
    x % 256 ∷ x / 2 ^ 8 % 256 ∷ x / 2 ^ 16 % 256 ∷ x / 2 ^ 24 % 256 ∷ x / 2 ^ 32 % 256 ∷ x / 2 ^ 40 % 256 ∷ x / 2 ^ 48 % 256 ∷ x / 2 ^ 56 % 256 ∷ []

-- SipHash-2-4 under the first 16 bytes of the key, and eight zero bytes
abbrev pub sip_tag : List ℕ → List ℕ → List ℕ
sip_tag key m = low_first (sip_hash24 (take 16 key) m) ++ replicate 8 0
