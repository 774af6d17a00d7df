-- How long a code and a tag are.
use Rattle.std.proofs.Common.{◌≡◌, ℕ, ◌*◌, List, ◌++◌, length, take, ap, ◌∙◌, arith}
use Rattle.std.proofs.lemmas.List.{length-take-le}
use Rattle.sha256.specs.Hash.{SHA256}
use Rattle.sha256.proofs.Joined.{length-SHA256}
use Rattle.sha256.proofs.Numbers.{length-bytes_of}
use Rattle.hmac.specs.Hmac.{H, HMAC, ◌⊕◌, filled, ipad, opad}

-- a code has 32 bytes
pub length-HMAC : (k m : List ℕ) → length (HMAC k m) ≡ 32
unfolding HMAC
length-HMAC k m =
    let w : List ℕ = SHA256 ((filled k ⊕ opad) ++ H ((filled k ⊕ ipad) ++ m)) in
    length-bytes_of w ∙ ap (λ (n : ℕ). 4 * n) (length-SHA256 ((filled k ⊕ opad) ++ H ((filled k ⊕ ipad) ++ m)))

-- and a tag has 16
pub length-tag : (k m : List ℕ) → length (take 16 (HMAC k m)) ≡ 16
length-tag k m = let l = length-HMAC k m in length-take-le 16 (HMAC k m) (omega arith)
