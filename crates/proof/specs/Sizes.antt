-- How long a proof's frame is.
use Rattle.std.specs.Prelude.{◌≡◌, ℕ, ◌+◌, ◌*◌, ◌≤◌, List, [], ◌∷◌, length}
use Rattle.entry.specs.Bodies.{SealedBody}
use Rattle.proof.specs.Bodies.{ProofBody, ProofIn, proof_bytes}
use Rattle.proof.specs.Promises.{ProofKept}

-- an entry's length, from how many writes and pairs it has
abbrev pub sealed_size : ℕ → ℕ → ℕ → ℕ
sealed_size w writes pairs = w + 1 + 33 * writes + 17 * pairs

-- the lengths of all entries, added up
abbrev pub sealed_sizes : ℕ → List SealedBody → ℕ
sealed_sizes w [] = 0
sealed_sizes w (s ∷ ss) = sealed_size w (length s.entry.items) (length s.pairs) + sealed_sizes w ss

-- a proof's length: kind, low and high, then its entries; and the most that it can be where f is at most 5
pub record ProofSize (w f : ℕ) (b : ProofBody) (n : ℕ) : Type 0 where
  pub whole : n ≡ 1 + w + w + sealed_sizes w b.entries
  pub most : f ≤ 5 → n ≤ 1 + w + w + 32 * sealed_size w 8 6

-- sizes that are known
pub record KnownSizes : Type 0 where
  -- where f is 1, a proof of one entry of two writes has 108 bytes
  pub one : (b : ProofBody) (s : SealedBody) → ProofIn 2 1 b → b.entries ≡ s ∷ [] → length s.entry.items ≡ 2 → length (proof_bytes 2 b) ≡ 108
  -- where f is at most 5, no proof has more than 11,813 bytes
  pub most : (f : ℕ) (b : ProofBody) → f ≤ 5 → ProofIn 2 f b → length (proof_bytes 2 b) ≤ 11813
  -- and one that keeps all rules has as many
  pub reached : (b : ProofBody) × (ProofKept 2 5 b × (length (proof_bytes 2 b) ≡ 11813))
