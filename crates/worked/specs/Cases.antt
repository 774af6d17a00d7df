-- The worked cases in one statement.
use Rattle.std.specs.Prelude.{ℕ, List}
use Rattle.digest.specs.Fnv.{fnv_words}
use Rattle.digest.specs.Sha.{sha_words}
use Rattle.digest.specs.Meaning.{written}
use Rattle.seal.specs.Mac.{hmac_tag}
use Rattle.seal.specs.Sip.{sip_tag}
use Rattle.log_store.specs.Laws.{EveryItemAndFirstTwice, Full_at_65}
use Rattle.log_store.specs.declared.records.LogRecord.{LogRecord}
use Rattle.worked.specs.Requests.{DigestOf32, TagOf16}
use Rattle.worked.specs.Boards.{BoardCases}
use Rattle.worked.specs.Readings.{MixedIsStale}
use Rattle.worked.specs.Sessions.{SessionCases}
use Rattle.worked.specs.Sizes.{ProofSizes, RequestSizes}

pub record WorkedCases : Type 0 where
  pub requests : RequestSizes
  pub proofs : ProofSizes
  -- of every board, whatever its digest and its seal mean
  pub boards : (digest : List ℕ → List ℕ) (tag : ℕ → List ℕ → List ℕ) (f own : ℕ) → DigestOf32 digest → TagOf16 tag → BoardCases digest tag f own
  -- the digests, and the seals under any keys, have as many bytes
  pub fnv : DigestOf32 (λ m. written (fnv_words m))
  pub sha : DigestOf32 (λ m. written (sha_words m))
  pub sip : (keys : ℕ → List ℕ) → TagOf16 (λ s m. sip_tag (keys s) m)
  pub hmac : (keys : ℕ → List ℕ) → TagOf16 (λ s m. hmac_tag (keys s) m)
  -- commit 1 wrote items 5 and 6, commit 3 both again: item 5 read at 1 with item 6 at 3 is stale
  pub readings : MixedIsStale
  pub sessions : SessionCases
  -- a log of 65 with all 64 items and item 0 twice is full, and the next install leaves 65; there is such a log
  pub logs : Full_at_65
  pub logs_occur : (rs : List LogRecord) × EveryItemAndFirstTwice rs
