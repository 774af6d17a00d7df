use Rattle.std.proofs.Common.{length}
use Rattle.seal.specs.Seals.{passes}
use Rattle.reader.proofs.Tagging.{Verifies}
use Rattle.reader.proofs.tags.verify_entry.Given as goal

abbrev pub invariant-loop-pair : goal.invariant-loop-pair
invariant-loop-pair g l = Verifies (passes (g.L.Seal.tag l.seal)) l.part (length l.yielded)
