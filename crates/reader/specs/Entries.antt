-- What is asked of one entry of a proof, as it stands in the frame.
use Rattle.std.specs.Prelude.{ℕ, Bool, List, Decides}
use Rattle.std.specs.List.{ContainsAt as Has}
use Rattle.entry.specs.Bodies.{EntryBody, SealedBody}
use Rattle.proof.specs.Parts.{PartHolds}
use Rattle.proof.specs.declared.part.SealedPart.{SealedPart}

-- an entry has an item with a digest
abbrev pub Records : EntryBody → ℕ → List ℕ → Type 0
Records e x d = Has e.items (record { item = x; digest = d })

-- the answer says whether a statement is true of the entry that the part holds
abbrev pub Tells : SealedPart → (EntryBody → Type 0) → Bool → Type 0
Tells part P r = (f at : ℕ) (s : SealedBody) → PartHolds f at part s → Decides r (P s.entry)
