use Rattle.std.proofs.Common.{Err, ◌+◌, sym, ap, ◌∙◌, arith}
use Rattle.std.proofs.lemmas.Result.{err_from_is_err_and}
use Rattle.proof.proofs.Turns.{next-entry, bad_entry}
use Rattle.proof.proofs.scan.read_entries.Goals as goal

pub returns-in_err-at-clause-answer : goal.returns-in_err-at-clause-answer
returns-in_err-at-clause-answer c =
    let p = err_from_is_err_and c.from_residual.result c.from_residual.ensures.1 in
    p.1
    ∙ ap Err p.2
    ∙ sym (bad_entry 2 c.args.f c.loop-due.due (c.args.low + c.args.count) c.args.bytes.now c.loop-due.at c.loop-due-test.true _ (sym c.in_err-at.ensures.answer))
    ∙ c.loop-due.invariant.2

pub loop-due-preserved : goal.loop-due-preserved
loop-due-preserved c =
    let got = c.in_ok-at.ensures in (
      omega (arith, got.near.0),
      got.near.1,
      sym (next-entry 2 c.args.f c.loop-due.due (c.args.low + c.args.count) c.args.bytes.now c.loop-due.at c.loop-due-test.true _ (sym got.answer)) ∙ c.loop-due.invariant.2,
    )
