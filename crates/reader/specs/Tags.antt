-- What is asked of the tags of a proof, as they stand in the frame.
use Rattle.std.specs.Prelude.{ℕ, ◌≤◌, List, Result}
use Rattle.std.specs.List.{AllByRecursion}
use Rattle.fault.specs.declared.Fault.{Fault}
use Rattle.entry.specs.Bodies.{PairBody, SealedBody}
use Rattle.proof.specs.Bodies.{ProofBody}
use Rattle.entry.specs.Bodies.{sealed_bytes}
use Rattle.proof.specs.Parts.{Holds, PartHolds}
use Rattle.proof.specs.Rules.{entries_at}
use Rattle.proof.specs.declared.part.SealedPart.{SealedPart}
use Rattle.proof.specs.declared.read.Proof.{Proof}
use Rattle.history.specs.Events.{width}
use Rattle.history.specs.Tables.{Case, Under}
use Rattle.reader.specs.Checks.{along, sealed_rows}

-- the answer to rows alone: a refusal by one of them, or none
abbrev pub Judges : List Case → Result (Unit {0}) Fault → Type 0
Judges rows r = Under rows (λ u. Unit {0}) r

-- the tags of one entry
abbrev pub JudgesTags : (ℕ → List ℕ → List ℕ → Type 0) → SealedPart → Result (Unit {0}) Fault → Type 0
JudgesTags passes part r =
    (f at : ℕ) (s : SealedBody) → PartHolds f at part s → f ≤ 5 → AllByRecursion (λ (p : PairBody). p.signer ≤ 31) s.pairs → Judges (sealed_rows passes at s) r

-- the tags of a whole proof
abbrev pub JudgesProof : (ℕ → List ℕ → List ℕ → Type 0) → Proof → Result (Unit {0}) Fault → Type 0
JudgesProof passes proof r =
    (f : ℕ) (b : ProofBody) → Holds f proof b → f ≤ 5 → AllByRecursion (λ (s : SealedBody). AllByRecursion (λ (p : PairBody). p.signer ≤ 31) s.pairs) b.entries
    → Judges (along (sealed_bytes width) (sealed_rows passes) (entries_at width) b.entries) r
