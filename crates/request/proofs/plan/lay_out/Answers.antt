use Rattle.std.proofs.Common.{arith}
use Rattle.request.proofs.Laying.{together}
use Rattle.request.proofs.plan.lay_out.Goals as goal

pub returns : goal.returns
returns c =
    let bs = c.args.frame.now in
    let a = c.in_ok-top.ensures in
    let b = c.in_ok-reads.ensures in
    let d = c.in_ok-writes.ensures in
    let h = c.in_ok-top.top in
    record {
      answer = together 2 bs h _ _ _ _ a.answer (b.whole a.few.0) (d.whole a.few.1) c.if-n-tag_at.false c.if-n-tag_at-2.false;
      few = (a.few.0, a.few.1, omega arith, b.near.0, d.near.0);
    }
