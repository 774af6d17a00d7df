-- What is read of bytes by their kind.
use Rattle.std.specs.Prelude.{◌≡◌, ℕ, ◌≤◌, List, length, Ok, Err, Result, slice_index}
use Rattle.fault.specs.declared.Fault.{Fault}
use Rattle.fault.specs.declared.Cause.TheVariants.{Malformed}
use Rattle.fault.specs.declared.Layer.TheVariants.{Frame as frame-layer}
use Rattle.fault.specs.Codes.{fault}
use Rattle.request.specs.Bodies.{read_request}
use Rattle.request.specs.Requests as requests
use Rattle.share.specs.Shares.{read_share}
use Rattle.share.specs.Shares as shares
use Rattle.proof.specs.Rules.{proof_of}
use Rattle.proof.specs.Parts.{Seen}
use Rattle.reading.specs.Bodies.{reading_of}
use Rattle.reading.specs.Readings as readings
use Rattle.frame.specs.declared.Frame.{Frame}
use Rattle.frame.specs.declared.Frame.TheVariants.{Request, Share, Proof, Reading}

-- the first byte is the kind
abbrev pub Kind : ℕ → List ℕ → Type 0
Kind k bs = (1 ≤ length bs) × (slice_index bs 0 ≡ k)

-- A frame is what the reader of its kind reads; so is a refusal, and bytes of no kind are refused at their first.
abbrev pub FrameRead : ℕ → List ℕ → Result Frame Fault → Type 0
FrameRead f bs (Ok (Request q)) = Kind 1 bs × (read_request 2 bs ≡ Ok (requests.held q))
FrameRead f bs (Ok (Share s)) = Kind 2 bs × (read_share 2 f bs ≡ Ok (shares.held s))
FrameRead f bs (Ok (Proof p)) = Kind 4 bs × Seen f (Ok p) (proof_of 2 f bs)
FrameRead f bs (Ok (Reading r)) = Kind 5 bs × (reading_of 2 bs ≡ Ok (readings.held r))
FrameRead f bs (Err e) =
    (Kind 1 bs → read_request 2 bs ≡ Err e) × (Kind 2 bs → read_share 2 f bs ≡ Err e) × (Kind 4 bs → proof_of 2 f bs ≡ Err e)
    × (Kind 5 bs → reading_of 2 bs ≡ Err e)
    × ((Kind 1 bs → ⊥) → (Kind 2 bs → ⊥) → (Kind 4 bs → ⊥) → (Kind 5 bs → ⊥) → e ≡ fault Malformed frame-layer 0)

-- The records of a request or a reading that was read are parts of the bytes.
abbrev pub PartsFound : List ℕ → Result Frame Fault → Type 0
PartsFound bs (Ok (Request q)) = requests.Found bs q
PartsFound bs (Ok (Share s)) = Unit {0}
PartsFound bs (Ok (Proof p)) = Unit {0}
PartsFound bs (Ok (Reading r)) = readings.Found bs r
PartsFound bs (Err e) = Unit {0}
