use Rattle.seal.proofs.Compare.{noted_more}
use Rattle.seal.proofs.equal.Goals as goal

pub loop-a-preserved : goal.loop-a-preserved
loop-a-preserved c =
    let s = c.in-Some.ensures.steps in
    noted_more c.args.given.now c.args.right.now c.loop-a.apart c.in-Some.b.now c.in-Some.a.now c.loop-a.a-iterator.b.rest.now c.loop-a.a-iterator.a.rest.now c.next.new.self.b.rest.now c.next.new.self.a.rest.now s.1 s.0 c.loop-a.invariant
