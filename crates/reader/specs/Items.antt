-- What is asked of the items read, as they stand in the frame, against the entries of a proof.
use Rattle.std.specs.Prelude.{◌≡◌, ℕ, ◌<◌, ◌≤◌, ◌⊎◌, List, length, Some, None, Option, Result}
use Rattle.std.specs.List.{AllByRecursion}
use Rattle.fault.specs.declared.Cause.{Cause}
use Rattle.fault.specs.declared.Cause.TheVariants.{Stale, Unmatched}
use Rattle.fault.specs.declared.Fault.{Fault}
use Rattle.entry.specs.Bodies.{SealedBody}
use Rattle.proof.specs.Bodies.{ProofBody}
use Rattle.proof.specs.Parts.{Holds, PartHolds}
use Rattle.proof.specs.declared.part.SealedPart.{SealedPart}
use Rattle.proof.specs.declared.read.Proof.{Proof}
use Rattle.reading.specs.Bodies.{ReadingItemBody}
use Rattle.reading.specs.Readings.{Found, held}
use Rattle.reading.specs.declared.Reading.{Reading}
use Rattle.reading.specs.declared.ReadingItem.{ReadingItem}
use Rattle.reader.specs.Accepted.{Proven}
use Rattle.reader.specs.Checks.{RightRange, Writes, along, item_rows, items_at, read_item_bytes}
use Rattle.reader.specs.Entries.{Records}
use Rattle.reader.specs.Tags.{Judges}

-- what an entry says of an item at a version with a digest: the entry of that version has it so, a later one does not write it
abbrev pub Agrees : ℕ → ℕ → List ℕ → SealedBody → Type 0
Agrees x v d s = (s.entry.version ≡ v → Records s.entry x d) × (v < s.entry.version → Writes s.entry x → ⊥)

-- which of the two fails
abbrev pub WrongBy : ℕ → ℕ → List ℕ → SealedBody → Option Cause → Type 0
WrongBy x v d s None = Agrees x v d s
WrongBy x v d s (Some c) =
    ((c ≡ Unmatched) × (s.entry.version ≡ v) × (Records s.entry x d → ⊥))
    ⊎ ((c ≡ Stale) × (v < s.entry.version) × Writes s.entry x)

abbrev pub FoundWrong : SealedPart → ReadingItem → List ℕ → Option Cause → Type 0
FoundWrong part read d r = (f at : ℕ) (s : SealedBody) → PartHolds f at part s → WrongBy read.item read.version d s r

-- what the judging of items may lean on: what both frames hold, and that the range is right
pub record Judged (reading : Reading) (proof : Proof) (bs : List ℕ) (f : ℕ) (b : ProofBody) : Type 0 where
  pub found : Found bs reading
  pub holds : Holds f proof b
  pub proven : Proven f b.low b.high b.entries
  pub range : RightRange b.low b.high (held reading).items
  pub short : AllByRecursion (λ (p : ReadingItemBody). length p.value ≤ 65535) (held reading).items

-- the items of a whole reading
abbrev pub JudgesItems : (List ℕ → List ℕ) → Reading → Proof → Result (Unit {0}) Fault → Type 0
JudgesItems digest reading proof r =
    (bs : List ℕ) (f : ℕ) (b : ProofBody) → Judged reading proof bs f b → Judges (along read_item_bytes (item_rows digest b.entries) items_at (held reading).items) r
