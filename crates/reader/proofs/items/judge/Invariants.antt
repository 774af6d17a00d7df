use Rattle.std.proofs.Common.{◌≡◌, Ok, length}
use Rattle.digest.specs.Meaning.{written}
use Rattle.reader.proofs.Judging.{Agreeing, PassedItems}
use Rattle.reader.proofs.items.judge.Given as goal

abbrev pub invariant-readings : goal.invariant-readings
invariant-readings g l = (l.answer ≡ Ok tt) × PassedItems (λ m. written (g.D.Digest.of m)) l.fn.reading l.proof (length l.yielded)

abbrev pub invariant-loop-part : goal.invariant-loop-part
invariant-loop-part g l = (l.answer ≡ Ok tt) × Agreeing l.fn.reading l.proof l.read l.made (length l.yielded)
