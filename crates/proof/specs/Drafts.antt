-- The proof that a draft is to become.
use Rattle.proof.specs.Bodies.{ProofBody}
use Rattle.proof.specs.Writing.{drafted}
use Rattle.proof.specs.declared.draft.Draft.{Draft}

abbrev pub draft_body : Draft → ProofBody
draft_body d = drafted d.low d.high d.entries.now
