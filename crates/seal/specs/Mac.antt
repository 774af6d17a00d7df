-- The seal by HMAC.
use Rattle.std.specs.Prelude.{ℕ, List, take}
use Rattle.hmac.specs.Hmac.{HMAC}

-- the first 16 bytes of HMAC-SHA-256 under the key
abbrev pub hmac_tag : List ℕ → List ℕ → List ℕ
hmac_tag key m = take 16 (HMAC key m)
