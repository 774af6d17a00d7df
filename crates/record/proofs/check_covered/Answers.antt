use Rattle.std.proofs.Common.{◌≡◌, ℕ, List, map, Result, sym, ap, ◌∙◌, subst}
use Rattle.fault.specs.declared.Fault.{Fault}
use Rattle.fault.specs.declared.Layer.{Layer}
use Rattle.record.specs.Chains.{tested}
use Rattle.record.specs.Orders.{CoveredSays}
use Rattle.record.specs.Rules.{Spot, among, covered}
use Rattle.record.proofs.Ordering.{covered-says}
use Rattle.record.proofs.Tables.{cover_turn, cover_stop, cover_end}
use Rattle.record.proofs.check_covered.Goals as goal

say : (l : Layer) (known : List ℕ) (ss : List Spot) (r : Result (Unit {0}) Fault) → r ≡ tested (covered l known ss) → CoveredSays l known ss r
say l known ss r e = subst (CoveredSays l known ss) (sym e) (covered-says l known ss)

pub returns-then-not-has_key : goal.returns-then-not-has_key
returns-then-not-has_key g c =
    let known = map g.R.Numbered.number c.args.known.now in
    let hit = ap (λ k. among k known) (sym c.key.ensures) ∙ sym c.if-not-has_key.ensures in
    let e = cover_stop c.args.layer known g.W.Numbered.number g.W.Numbered.place c.args.asked.now _ _ c.loop-w-test.true c.w-item.is hit ∙ c.loop-w.invariant in
    rw (c.at.ensures, c.offset.ensures) (record { answer = e; says = say _ _ _ _ e })

pub loop-w-preserved : goal.loop-w-preserved
loop-w-preserved g c =
    let known = map g.R.Numbered.number c.args.known.now in
    let hit = ap (λ k. among k known) (sym c.key.ensures) ∙ sym c.if-not-has_key.ensures in
    cover_turn c.args.layer known g.W.Numbered.number g.W.Numbered.place c.args.asked.now _ _ c.loop-w-test.true c.w-item.is hit ∙ c.loop-w.invariant

pub returns : goal.returns
returns g c =
    let known = map g.R.Numbered.number c.args.known.now in
    let e = cover_end c.args.layer known g.W.Numbered.number g.W.Numbered.place c.args.asked.now _ c.loop-w-test.false ∙ c.loop-w.invariant in
    record { answer = e; says = say _ _ _ _ e }
