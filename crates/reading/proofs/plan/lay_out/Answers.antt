use Rattle.std.proofs.Common.{Ok, sym, ◌∙◌, arith}
use Rattle.inline_vec.specs.Lists.{items}
use Rattle.octets.specs.Numbers.{Bytes}
use Rattle.reading.specs.Plans.{Marks}
use Rattle.reading.proofs.Laying.{together}
use Rattle.reading.proofs.Taking.{laid_out, items-ran}
use Rattle.reading.proofs.plan.lay_out.Goals as goal

pub returns : goal.returns
returns c =
    let bs = c.args.frame.now in
    let all : Bytes bs = λ i. (c.type_inv.frame i).fits in
    let a = c.in_ok-count.ensures in
    let b = c.in_ok-items.ensures in
    let n = c.in_ok-count.count in
    let m : Marks = record { count = n; items = items c.in_ok-items.items; end = c.in_ok-items.end } in
    let e = together 2 bs n m.items m.end a.answer (b.whole a.few) c.if-n-end.false in
    let r = items-ran 2 bs all m (laid_out 2 bs m (sym e)) in
    record {
      answer = (λ i. Ok (record { count = r.count i; items = m.items; end = m.end })) ∙ e;
      few = (omega (arith, r.inside, c.if-n-end.false), b.near.0);
    }
