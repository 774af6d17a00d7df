use Rattle.std.proofs.Common.{◌<◌, length, refl, ap, ◌∙◌, arith}
use Rattle.std.proofs.lemmas.List.{take_all}
use Rattle.std.proofs.lemmas.List.Sums.{fold_more}
use Rattle.digest.specs.Fnv.{step, hashed}
use Rattle.digest.proofs.fold.Goals as goal

pub loop-b-init : goal.loop-b-init
unfolding hashed
loop-b-init c = refl

pub loop-b-preserved : goal.loop-b-preserved
unfolding hashed step
loop-b-preserved c =
    let lt : c.loop-b.b-index < length c.args.bytes.now = omega arith in
    let e = fold_more step c.args.start c.args.bytes.now c.loop-b.b-index 0 lt in
    let i = c.loop-b.invariant in
    let f = c.from.ensures in
    cc

pub returns : goal.returns
returns c =
    let e = take_all c.loop-b.b-index c.args.bytes.now (omega arith) in
    c.loop-b.invariant ∙ ap (hashed c.args.start) e
