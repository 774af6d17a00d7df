-- Worked cases of sizes.
use Rattle.std.specs.Prelude.{◌≡◌, ℕ, ◌≤◌, List, [], ◌∷◌, length, Ok}
use Rattle.std.specs.List.{AllByRecursion}
use Rattle.octets.specs.Numbers.{Bytes}
use Rattle.entry.specs.Bodies.{SealedBody}
use Rattle.proof.specs.Bodies.{ProofBody, proof_bytes}
use Rattle.proof.specs.Rules.{proof_of}
use Rattle.proof.specs.Sizes.{KnownSizes}
use Rattle.request.specs.Bodies.{RequestBody, read_request}
use Rattle.history.specs.Events.{width}

-- one read, and one write of one byte
pub record OneByte (b : RequestBody) : Type 0 where
  pub reads : length b.reads ≡ 1
  pub writes : length b.writes ≡ 1
  pub values : AllByRecursion (λ x. length x.value ≡ 1) b.writes

-- a frame of n bytes with such a request
abbrev pub FrameOf : (RequestBody → Type 0) → ℕ → Type 0
FrameOf P n = (frame : List ℕ) × ((b : RequestBody) × ((read_request width frame ≡ Ok b) × P b × (length frame ≡ n)))

-- One read and one write of one byte: 60 bytes. The largest request: 854.
pub record RequestSizes : Type 0 where
  pub small : (frame : List ℕ) (b : RequestBody) → Bytes frame → read_request width frame ≡ Ok b → OneByte b → length frame ≡ 60
  pub small-occurs : FrameOf OneByte 60
  pub most : (frame : List ℕ) (b : RequestBody) → Bytes frame → read_request width frame ≡ Ok b → length frame ≤ 854
  pub most-occurs : FrameOf (λ b. Unit {0}) 854

-- For f = 1 a proof of one entry of two writes: 108 bytes. The largest proof, for f = 5: 11,813.
pub record ProofSizes : Type 0 where
  pub known : KnownSizes
  -- there is a frame with such an entry
  pub small-occurs : (b : ProofBody) × ((s : SealedBody) × ((proof_of width 1 (proof_bytes width b) ≡ Ok b) × (b.entries ≡ s ∷ []) × (length s.entry.items ≡ 2)))
