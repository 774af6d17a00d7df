-- SipHash-c-d as Aumasson and Bernstein define it ("SipHash: a fast short-input PRF"), in their order and under their names.
-- A byte is a number below 2^8, a word a number below 2^64; the internal state is the four words v0, v1, v2, v3.
use Rattle.std.specs.Prelude.{ℕ, zero, suc, ◌+◌, ◌-◌, ◌*◌, ◌/◌, ◌%◌, ◌^◌, List, [], ◌∷◌, ◌++◌, length, take, drop, replicate, bit_or, bit_xor}
use Rattle.siphash.specs.declared.State.{State}

-- addition of words, modulo 2^64
abbrev pub plus : ℕ → ℕ → ℕ
plus x y = (x + y) % 2 ^ 64

-- x <<< n, the left rotation of a word by n bits
abbrev pub rotl : ℕ → ℕ → ℕ
rotl n x = bit_or ((x * 2 ^ n) % 2 ^ 64) (x / 2 ^ (64 - n))

-- a little-endian number: the first byte counts least
unfoldable pub little : List ℕ → ℕ
little [] = 0
little (x ∷ xs) = x + 256 * little xs

-- 1. Initialization, from the little-endian words k0 and k1 of the key
abbrev pub initialized : ℕ → ℕ → State
initialized k0 k1 =
    record { v0 = bit_xor k0 0x736f6d6570736575; v1 = bit_xor k1 0x646f72616e646f6d; v2 = bit_xor k0 0x6c7967656e657261; v3 = bit_xor k1 0x7465646279746573 }

-- the state that the 16-byte key k begins with
abbrev pub keyed : List ℕ → State
keyed k = initialized (little (take 8 k)) (little (take 8 (drop 8 k)))

-- SipRound's first half: v0 += v1, v2 += v3; v1 <<<= 13, v3 <<<= 16; v1 ⊕= v0, v3 ⊕= v2; v0 <<<= 32
abbrev pub first_half : State → State
first_half s =
    record { v0 = rotl 32 (plus s.v0 s.v1); v1 = bit_xor (rotl 13 s.v1) (plus s.v0 s.v1); v2 = plus s.v2 s.v3; v3 = bit_xor (rotl 16 s.v3) (plus s.v2 s.v3) }

-- its second half: v2 += v1, v0 += v3; v1 <<<= 17, v3 <<<= 21; v1 ⊕= v2, v3 ⊕= v0; v2 <<<= 32
abbrev pub second_half : State → State
second_half s =
    record { v0 = plus s.v0 s.v3; v1 = bit_xor (rotl 17 s.v1) (plus s.v2 s.v1); v2 = rotl 32 (plus s.v2 s.v1); v3 = bit_xor (rotl 21 s.v3) (plus s.v0 s.v3) }

unfoldable pub sip_round : State → State
sip_round s = second_half (first_half s)

-- n iterations of SipRound
unfoldable pub sip_rounds : ℕ → State → State
sip_rounds zero s = s
sip_rounds (suc n) s = sip_round (sip_rounds n s)

-- v0 ⊕= x, v2 ⊕= x and v3 ⊕= x
abbrev pub into0 : ℕ → State → State
into0 x s = record { v0 = bit_xor s.v0 x; v1 = s.v1; v2 = s.v2; v3 = s.v3 }

abbrev pub into2 : ℕ → State → State
into2 x s = record { v0 = s.v0; v1 = s.v1; v2 = bit_xor s.v2 x; v3 = s.v3 }

abbrev pub into3 : ℕ → State → State
into3 x s = record { v0 = s.v0; v1 = s.v1; v2 = s.v2; v3 = bit_xor s.v3 x }

-- 2. Compression of one word m: v3 ⊕= m, then c iterations of SipRound, then v0 ⊕= m
abbrev pub compressed : ℕ → ℕ → State → State
compressed c m s = into0 m (sip_rounds c (into3 m s))

-- what follows a string of b bytes: null bytes, and b mod 256 as the last byte of its word
unfoldable pub ending : ℕ → List ℕ
ending b = replicate (7 - b % 8) 0 ++ (b % 256 ∷ [])

-- the word m_i of a string of words
abbrev pub word : List ℕ → ℕ → ℕ
word p i = little (take 8 (drop (8 * i) p))

-- the state after the first i words of p
unfoldable pub run : ℕ → State → List ℕ → ℕ → State
run c s p zero = s
run c s p (suc i) = compressed c (word p i) (run c s p i)

-- 3. Finalization: v2 ⊕= ff, then d iterations of SipRound, then v0 ⊕ v1 ⊕ v2 ⊕ v3
abbrev pub folded : State → ℕ
folded s = bit_xor (bit_xor (bit_xor s.v0 s.v1) s.v2) s.v3

abbrev pub finalized : ℕ → State → ℕ
finalized d s = folded (sip_rounds d (into2 0xff s))

-- SipHash-c-d of the string m under the 16-byte key k: m is parsed into w = ⌈(b + 1) / 8⌉ words, where b is its length
unfoldable pub sip_hash : ℕ → ℕ → List ℕ → List ℕ → ℕ
sip_hash c d k m =
    finalized d (run c (keyed k) (m ++ ending (length m)) ((length m + 8) / 8))

-- SipHash-2-4
abbrev pub sip_hash24 : List ℕ → List ℕ → ℕ
sip_hash24 k m = sip_hash 2 4 k m
