use Rattle.std.proofs.Common.{◌≡◌, sym, ap, ◌∙◌, arith}
use Rattle.window.specs.Shares.{shares_below}
use Rattle.window.specs.Windows.{tag_of}
use Rattle.window.proofs.ShareLaws.{shares_no, shares_start, shares_yes}
use Rattle.window.proofs.slot.Slot.shares.Goals as goal
use Rattle.window.proofs.slot.Slot.shares.Goals.{then-is_some, else-is_some}

pub loop-tag-init : goal.loop-tag-init
loop-tag-init c = (sym (shares_start (tag_of c.args.self.now)), omega arith)

pub loop-tag-preserved : goal.loop-tag-preserved
loop-tag-preserved c =
    let tag = tag_of c.args.self.now in
    let i = c.loop-tag.tag-index in
    elim c.if-is_some.branch [
      | then-is_some w ↦ (
        omega (arith, shares_yes tag i (sym c.is_some.ensures ∙ w.if-is_some.true), w.count-is, c.loop-tag.invariant.0),
        omega (arith, w.count-is, c.loop-tag.invariant.1),
      )
      | else-is_some w ↦ (
        omega (arith, shares_no tag i (sym c.is_some.ensures ∙ w.if-is_some.false), w.count-is, c.loop-tag.invariant.0),
        omega (arith, w.count-is, c.loop-tag.invariant.1),
      )
    ]

pub returns : goal.returns
returns c =
    let all : c.loop-tag.tag-index ≡ 16 = omega arith in
    c.loop-tag.invariant.0 ∙ ap (shares_below (tag_of c.args.self.now)) all
