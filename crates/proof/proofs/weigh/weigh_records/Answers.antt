use Rattle.std.proofs.Common.{◌+◌, ◌-◌, drop, Some, Err, sym, ap, ◌∙◌, arith}
use Rattle.std.proofs.lemmas.Result.{err_from_is_err_and}
use Rattle.fault.specs.declared.Layer.TheVariants.{Proof}
use Rattle.fault.specs.declared.Cause.TheVariants.{Malformed}
use Rattle.fault.specs.Codes.{fault}
use Rattle.record.specs.Chains.{unless, tested}
use Rattle.record.specs.Formats.{up_to}
use Rattle.proof.specs.Rules.{numbered}
use Rattle.proof.specs.Writing.{weigh_records}
use Rattle.proof.proofs.WeighTurns.{bad_one, next_one, too_few}
use Rattle.proof.proofs.weigh.weigh_records.Goals as goal

pub returns-in_err-check_number-clause-answer : goal.returns-in_err-check_number-clause-answer
returns-in_err-check_number-clause-answer g c =
    let k = c.args.kind in
    let at = c.loop-r.at in
    let last = c.loop-r.last in
    let q = c.number-number.ensures in
    let p = err_from_is_err_and c.from_residual.result c.from_residual.ensures.1 in
    let hit = (λ i. unless (up_to k.top (sym q i)) (fault Malformed Proof at) (tested (numbered k.boards last (sym q i) at))) ∙ sym c.in_err-check_number.ensures in
    p.1
    ∙ ap Err p.2
    ∙ sym (bad_one g.R.Keyed.key k.top k.size k.boards last c.args.records.now c.loop-r.r-index c.loop-r.left at c.r-item.result c.loop-r-test.true c.r-item.is _ (omega (arith, c.if-left-eq0.false)) hit)
    ∙ c.loop-r.invariant.1

pub loop-r-preserved : goal.loop-r-preserved
loop-r-preserved g c =
    let k = c.args.kind in
    let at = c.loop-r.at in
    let last = c.loop-r.last in
    let q = c.number-number.ensures in
    let hit = (λ i. unless (up_to k.top (sym q i)) (fault Malformed Proof at) (tested (numbered k.boards last (sym q i) at))) ∙ sym c.in_ok-check_number.ensures in (
      omega arith,
      ap (λ v. weigh_records g.R.Keyed.key k.top k.size k.boards (c.loop-r.left - 1) (Some v) (drop (c.loop-r.r-index + 1) c.args.records.now) (at + 1 + k.size)) q
          ∙ sym (next_one g.R.Keyed.key k.top k.size k.boards last c.args.records.now c.loop-r.r-index c.loop-r.left at c.r-item.result c.loop-r-test.true c.r-item.is (omega (arith, c.if-left-eq0.false)) hit)
          ∙ c.loop-r.invariant.1,
    )

pub returns-then-left-gt0-clause-answer : goal.returns-then-left-gt0-clause-answer
returns-then-left-gt0-clause-answer g c =
    let k = c.args.kind in
    ap Err c.malformed-then-left-gt0.ensures
    ∙ sym (too_few g.R.Keyed.key k.top k.size k.boards c.loop-r.last c.args.records.now c.loop-r.r-index c.loop-r.left c.loop-r.at c.loop-r-test.false c.if-left-gt0.true)
    ∙ c.loop-r.invariant.1
