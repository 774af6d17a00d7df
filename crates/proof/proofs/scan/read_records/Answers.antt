use Rattle.std.proofs.Common.{sym, ap, ◌∙◌, Err, arith}
use Rattle.std.proofs.lemmas.Result.{err_from_is_err_and}
use Rattle.proof.proofs.Turns.{no_number, bad_number, no_string, next_record}
use Rattle.proof.proofs.scan.read_records.Goals as goal

pub returns-then-n-at-clause-answer : goal.returns-then-n-at-clause-answer
returns-then-n-at-clause-answer c =
    let k = c.args.kind in
    ap Err c.malformed.ensures
    ∙ sym (no_number k.top k.size k.boards c.loop.last c.args.bytes.now c.args.count c.loop.counter c.loop.at c.loop-test.true c.if-n-at.true)
    ∙ c.loop.invariant.2

pub returns-in_err-check_number-clause-answer : goal.returns-in_err-check_number-clause-answer
returns-in_err-check_number-clause-answer c =
    let k = c.args.kind in
    let p = err_from_is_err_and c.from_residual.result c.from_residual.ensures.1 in
    rw (p.1, p.2) (sym (bad_number k.top k.size k.boards c.loop.last c.args.bytes.now c.args.count c.loop.counter c.loop.at c.loop-test.true _ c.if-n-at.false (sym c.in_err-check_number.ensures)) ∙ c.loop.invariant.2)

pub returns-then-n-at-2-clause-answer : goal.returns-then-n-at-2-clause-answer
returns-then-n-at-2-clause-answer c =
    let k = c.args.kind in
    ap Err c.malformed-then-n-at-2.ensures
    ∙ sym (no_string k.top k.size k.boards c.loop.last c.args.bytes.now c.args.count c.loop.counter c.loop.at c.loop-test.true c.if-n-at.false (sym c.in_ok-check_number.ensures) c.if-n-at-2.true)
    ∙ c.loop.invariant.2

pub loop-preserved : goal.loop-preserved
loop-preserved c =
    let k = c.args.kind in (
      omega arith,
      c.if-n-at-2.false,
      sym (next_record k.top k.size k.boards c.loop.last c.args.bytes.now c.args.count c.loop.counter c.loop.at c.loop-test.true c.if-n-at.false (sym c.in_ok-check_number.ensures) c.if-n-at-2.false) ∙ c.loop.invariant.2,
    )
