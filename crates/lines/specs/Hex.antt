-- Bytes as hexadecimal digits in ASCII.
use Rattle.std.specs.Prelude.{◌≡◌, ℕ, ◌+◌, ◌-◌, ◌*◌, ◌/◌, ◌%◌, ◌≤◌, Bool, cond, ◌&&◌, List, [], ◌∷◌, ◌++◌, length, take, Some, None, Option, nat_le, nat_lt}
use Rattle.std.specs.List.{flat_map}

abbrev pub between : ℕ → ℕ → ℕ → Bool
between low high c = nat_le low c && nat_le c high

-- the value of a digit: 0 to 9, a to f, A to F
abbrev pub digit_value : ℕ → Option ℕ
digit_value c =
    cond (between 48 57 c) (Some (c - 48)) (cond (between 97 102 c) (Some (c - 97 + 10)) (cond (between 65 70 c) (Some (c - 65 + 10)) None))

-- a digit of lower case
abbrev pub digit_of : ℕ → ℕ
digit_of v = cond (nat_lt v 10) (48 + v) (87 + v)

-- the two digits of a byte, the high one first
abbrev pub byte_digits : ℕ → List ℕ
byte_digits b = digit_of (b / 16) ∷ digit_of (b % 16) ∷ []

-- bytes as digits
abbrev pub hex : List ℕ → List ℕ
hex bs = flat_map byte_digits bs

-- bytes put before what may be bytes
abbrev pub before : List ℕ → Option (List ℕ) → Option (List ℕ)
before bs (Some more) = Some (bs ++ more)
before bs None = None

-- the byte of two digits, put before what may be bytes
abbrev pub paired : Option ℕ → Option ℕ → Option (List ℕ) → Option (List ℕ)
paired (Some high) (Some low) more = before ((high * 16 + low) ∷ []) more
paired (Some high) None more = None
paired None low more = None

-- digits as bytes: two digits a byte; none where the count is odd or a character is no digit
abbrev pub unhex : List ℕ → Option (List ℕ)
unhex [] = Some []
unhex (a ∷ []) = None
unhex (a ∷ b ∷ rest) = paired (digit_value a) (digit_value b) (unhex rest)

-- the bytes of digits stand in front of a buffer, and are as many as was answered; none where the digits are no bytes or have no room
abbrev pub Decodes : List ℕ → List ℕ → Option ℕ → Type 0
Decodes digits buffer (Some n) = (n ≤ length buffer) × (unhex digits ≡ Some (take n buffer))
Decodes digits buffer None = length digits ≤ 2 * length buffer → unhex digits ≡ None
