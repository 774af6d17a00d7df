use Rattle.std.proofs.Common.{length, Ok, sym, ◌∙◌, arith}
use Rattle.std.proofs.lemmas.Result.{err_from_is_err_and}
use Rattle.inline_vec.specs.Lists.{items}
use Rattle.record.specs.Runs.{planned_run}
use Rattle.record.proofs.Steps.{then_ok, then_err}
use Rattle.reading.specs.Drafts.{count_judged, plan_items, read_item_judged}
use Rattle.reading.specs.Marks.{read_item_ends}
use Rattle.reading.proofs.Drafting.{marks_well}
use Rattle.reading.proofs.Laying.{draft_together}
use Rattle.reading.proofs.draft.plan_draft.Goals as goal

pub returns-in_err-items-clause-answer : goal.returns-in_err-items-clause-answer
returns-in_err-items-clause-answer c =
    let ds = c.args.items.now in
    let p = err_from_is_err_and c.from_residual-in_err-items.result c.from_residual-in_err-items.ensures.1 in
    let few = c.in_ok-check_count.ensures in
    let ran = c.in_err-items.ensures.whole (omega (arith, few)) in
    rw (p.1, p.2) (sym (then_ok (count_judged (length ds)) (plan_items ds) (length ds) (sym few.answer) ∙ then_err (planned_run read_item_judged read_item_ends ds 2) (λ q. Ok (record { count = length ds; items = q.0; end = q.1 })) _ (sym ran)))

pub returns : goal.returns
returns c =
    let ds = c.args.items.now in
    let b = c.in_ok-items.ensures in
    let ran = b.whole (omega (arith, c.in_ok-check_count.ensures)) in
    let rs = items c.in_ok-items.items in
    record {
      answer = (λ i. Ok (record { count = (marks_well ds _ (sym ran)).count i; items = rs; end = c.in_ok-items.end }))
          ∙ draft_together ds (length ds) rs _ c.in_ok-check_count.ensures.answer ran;
      few = omega (arith, b.near, c.in_ok-check_count.ensures);
    }
