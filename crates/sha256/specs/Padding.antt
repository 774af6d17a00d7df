-- FIPS 180-4, sections 3.1 and 5.1.1: numbers as bytes, and the padding of a message, in bytes.
use Rattle.std.specs.Prelude.{ℕ, zero, suc, ◌-◌, ◌*◌, ◌/◌, ◌%◌, ◌^◌, List, [], ◌∷◌, ◌++◌, length, replicate}
use Rattle.std.specs.List.{flat_map}

-- 3.1: the number x in n bytes, the high byte first
abbrev pub big_endian : ℕ → ℕ → List ℕ
big_endian zero x = []
big_endian (suc n) x = x / 256 ^ n % 256 ∷ big_endian n x

-- words as bytes, the four of each in turn
abbrev pub bytes_of : List ℕ → List ℕ
bytes_of ws = flat_map (big_endian 4) ws

-- 5.1.1: how many zero bytes follow the byte 128 (the bit 1 and seven bits 0) behind a message of n bytes
unfoldable pub zeros : ℕ → ℕ
zeros n = (119 - n % 64) % 64

-- 5.1.1: what follows a message of n bytes: the bit 1, the bits 0, and its length in bits as a 64-bit number
unfoldable pub padding : ℕ → List ℕ
padding n = 128 ∷ replicate (zeros n) 0 ++ big_endian 8 (8 * n)

unfoldable pub padded : List ℕ → List ℕ
padded m = m ++ padding (length m)
