-- Digests of 32 bytes, and tags of 16.
use Rattle.std.proofs.Common.{ℕ, zero, suc, ◌<◌, List, [], ◌∷◌, ◌++◌, take, replicate, refl, arith}
use Rattle.std.specs.List.{flat_map, AllByRecursion as All}
use Rattle.std.proofs.ByRecursion.{All-append, All-take}
use Rattle.octets.specs.Numbers.{Bytes}
use Rattle.digest.specs.Fnv.{fnv_words}
use Rattle.digest.specs.Sha.{sha_words}
use Rattle.digest.specs.Meaning.{word_bytes, written}
use Rattle.sha256.specs.Hash.{SHA256}
use Rattle.sha256.specs.Padding.{big_endian}
use Rattle.hmac.specs.Hmac.{H, HMAC, ◌⊕◌, filled, ipad, opad}
use Rattle.hmac.proofs.Codes.{length-tag}
use Rattle.siphash.specs.SipHash.{sip_hash24}
use Rattle.seal.specs.Mac.{hmac_tag}
use Rattle.seal.specs.Sip.{low_first, sip_tag}
use Rattle.worked.specs.Requests.{DigestOf32, TagOf16}

pub bytes-from_all : (xs : List ℕ) → All (λ n. n < 256) xs → Bytes xs
bytes-from_all [] all i = omega arith
bytes-from_all (x ∷ xs) all zero = all.0
bytes-from_all (x ∷ xs) all (suc i) = bytes-from_all xs all.1 i

pub all_same : {X : Type 0} (P : X → Type 0) (x : X) (n : ℕ) → P x → All P (replicate n x)
all_same P x zero p = tt
all_same P x (suc n) p = (p, all_same P x n p)

-- words as bytes are bytes, whichever comes first
module _ (f : ℕ → List ℕ) (each : (n : ℕ) → All (λ b. b < 256) (f n)) where
  joined_bytes : (ws : List ℕ) → All (λ b. b < 256) (flat_map f ws)
  joined_bytes [] = tt
  joined_bytes (w ∷ ws) = All-append (λ b. b < 256) (f w) (flat_map f ws) (each w) (joined_bytes ws)

eight : (n : ℕ) → All (λ b. b < 256) (word_bytes n)
eight n = (omega arith, (omega arith, (omega arith, (omega arith, (omega arith, (omega arith, (omega arith, (omega arith, tt))))))))

eight_low-first : (n : ℕ) → All (λ b. b < 256) (low_first n)
eight_low-first n = (omega arith, (omega arith, (omega arith, (omega arith, (omega arith, (omega arith, (omega arith, (omega arith, tt))))))))

four : (n : ℕ) → All (λ b. b < 256) (big_endian 4 n)
four n = (omega arith, (omega arith, (omega arith, (omega arith, tt))))

pub fnv : DigestOf32 (λ m. written (fnv_words m))
unfolding fnv_words
fnv = record { long = λ m. refl; bytes = λ m. bytes-from_all (written (fnv_words m)) (joined_bytes word_bytes eight (fnv_words m)) }

pub sha : DigestOf32 (λ m. written (sha_words m))
unfolding sha_words
sha = record { long = λ m. refl; bytes = λ m. bytes-from_all (written (sha_words m)) (joined_bytes word_bytes eight (sha_words m)) }

module _ (keys : ℕ → List ℕ) where
  pub sip : TagOf16 (λ s m. sip_tag (keys s) m)
  sip = record {
    long = λ s m. refl;
    bytes = λ s m.
        let n = sip_hash24 (take 16 (keys s)) m in
        bytes-from_all (sip_tag (keys s) m) (All-append (λ b. b < 256) (low_first n) (replicate 8 0) (eight_low-first n) (all_same (λ b. b < 256) 0 8 (omega arith)));
  }

  code_bytes : (k m : List ℕ) → All (λ b. b < 256) (HMAC k m)
  unfolding HMAC
  code_bytes k m = joined_bytes (big_endian 4) four (SHA256 ((filled k ⊕ opad) ++ H ((filled k ⊕ ipad) ++ m)))

  pub hmac : TagOf16 (λ s m. hmac_tag (keys s) m)
  hmac = record {
    long = λ s m. length-tag (keys s) m;
    bytes = λ s m. bytes-from_all (hmac_tag (keys s) m) (All-take (λ b. b < 256) 16 (HMAC (keys s) m) (code_bytes (keys s) m));
  }
