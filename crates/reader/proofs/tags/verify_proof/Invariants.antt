use Rattle.std.proofs.Common.{length}
use Rattle.seal.specs.Seals.{passes}
use Rattle.reader.proofs.Tagging.{Proves}
use Rattle.reader.proofs.tags.verify_proof.Given as goal

abbrev pub invariant-loop-part : goal.invariant-loop-part
invariant-loop-part g l = Proves (passes (g.L.Seal.tag l.seal)) l.proof (length l.yielded)
