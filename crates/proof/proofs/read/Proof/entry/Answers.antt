use Rattle.proof.specs.Parts.{PartHolds, entry_place}
use Rattle.proof.specs.Turns.{BeforeEntry, GivesEntry}
use Rattle.proof.proofs.Stepping.{nth_found}
use Rattle.proof.proofs.read.Proof.entry.Goals as goal

pub returns : goal.returns
returns c = λ f b h.
    nth_found GivesEntry (BeforeEntry f b) (λ k. PartHolds f (entry_place 2 b k)) (λ k. Unit {0}) b.entries (λ k it then r near before gives. gives f b k before)
    c.entries.result c.nth.new.self c.args.i c.nth.result (λ j le. tt) (c.entries.ensures f b h) c.nth.ensures.ran
