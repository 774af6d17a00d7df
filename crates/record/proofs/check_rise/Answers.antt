use Rattle.std.proofs.Common.{◌≡◌, List, None, Result, sym, ap, ◌∙◌, subst}
use Rattle.fault.specs.declared.Fault.{Fault}
use Rattle.fault.specs.declared.Layer.{Layer}
use Rattle.record.specs.Chains.{tested}
use Rattle.record.specs.Orders.{RisingSays}
use Rattle.record.specs.Rules.{Spot, above, rising}
use Rattle.record.proofs.Ordering.{rising-says}
use Rattle.record.proofs.Tables.{rise_turn, rise_stop, rise-end}
use Rattle.record.proofs.check_rise.Goals as goal

say : (l : Layer) (ss : List Spot) (r : Result (Unit {0}) Fault) → r ≡ tested (rising l None ss) → RisingSays l ss r
say l ss r e = subst (RisingSays l ss) (sym e) (rising-says l ss)

pub returns-then-not-is_above : goal.returns-then-not-is_above
returns-then-not-is_above g c =
    let t = g.R.Numbered in
    let hit = ap (above c.loop-r.last) (sym c.key.ensures) ∙ sym c.if-not-is_above.ensures in
    let e = rise_stop c.args.layer t.number t.place c.args.records.now _ _ _ c.loop-r-test.true c.r-item.is hit ∙ c.loop-r.invariant in
    rw (c.at.ensures, c.offset.ensures) (record { answer = e; says = say _ _ _ e })

pub loop-r-preserved : goal.loop-r-preserved
loop-r-preserved g c =
    let t = g.R.Numbered in
    let hit = ap (above c.loop-r.last) (sym c.key.ensures) ∙ sym c.if-not-is_above.ensures in
    rw c.key-in-loop-r.ensures (rise_turn c.args.layer t.number t.place c.args.records.now _ _ _ c.loop-r-test.true c.r-item.is hit ∙ c.loop-r.invariant)

pub returns : goal.returns
returns g c =
    let t = g.R.Numbered in
    let e = rise-end c.args.layer t.number t.place c.args.records.now _ _ c.loop-r-test.false ∙ c.loop-r.invariant in
    record { answer = e; says = say _ _ _ e }
