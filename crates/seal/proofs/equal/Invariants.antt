use Rattle.seal.proofs.Compare.{Noted}
use Rattle.seal.proofs.equal.Given as goal

abbrev pub invariant-loop-a : goal.invariant-loop-a
invariant-loop-a l = Noted l.given l.right l.apart l.a-iterator.b.rest.now l.a-iterator.a.rest.now
