use Rattle.std.proofs.Common.{length, Ok, sym, ◌∙◌, arith, rules}
use Rattle.std.proofs.lemmas.Result.{err_from_is_err_and}
use Rattle.inline_vec.specs.Lists.{items}
use Rattle.record.specs.Runs.{planned_run}
use Rattle.record.proofs.Steps.{then_ok, then_err}
use Rattle.request.specs.Marks.{read_ends, write_ends}
use Rattle.request.specs.Drafts.{head_judged, plan_reads, plan_writes, read_judged, write_judged}
use Rattle.request.proofs.Laying.{draft_together}
use Rattle.request.proofs.draft.plan_draft.Goals as goal

pub returns-in_err-reads-clause-answer : goal.returns-in_err-reads-clause-answer
returns-in_err-reads-clause-answer c =
    let ds = c.args.draft in
    let p = err_from_is_err_and c.from_residual-in_err-reads.result c.from_residual-in_err-reads.ensures.1 in
    let a = c.in_ok-top.ensures in
    let h = c.in_ok-top.top in
    let one = c.in_err-reads.ensures.whole (omega (arith, a.few)) in
    rw (p.1, p.2) (sym (then_ok (head_judged ds.client ds.sequence (length ds.reads.now) (length ds.writes.now)) (plan_reads ds) h (sym a.answer) ∙ then_err (planned_run read_judged (read_ends 2) ds.reads.now 6) (plan_writes ds h) _ (sym one)))

pub returns-in_err-writes-clause-answer : goal.returns-in_err-writes-clause-answer
returns-in_err-writes-clause-answer c =
    let ds = c.args.draft in
    let p = err_from_is_err_and c.from_residual-in_err-writes.result c.from_residual-in_err-writes.ensures.1 in
    let a = c.in_ok-top.ensures in
    let h = c.in_ok-top.top in
    let rs = items c.in_ok-reads.reads in
    let e = c.in_ok-reads.writes_at in
    let one = c.in_ok-reads.ensures.whole (omega (arith, a.few)) in
    let two = c.in_err-writes.ensures.whole (omega (arith, a.few)) in
    rw (p.1, p.2) (sym
    (then_ok (head_judged ds.client ds.sequence (length ds.reads.now) (length ds.writes.now)) (plan_reads ds) h (sym a.answer)
    ∙ then_ok (planned_run read_judged (read_ends 2) ds.reads.now 6) (plan_writes ds h) (rs, e) (sym one)
    ∙ then_err (planned_run write_judged write_ends ds.writes.now e) (λ q. Ok (record { top = h; reads = rs; writes = q.0; writes_at = e; tag_at = q.1 })) _ (sym two)))

pub returns : goal.returns
returns c =
    let ds = c.args.draft in
    let a = c.in_ok-top.ensures in
    let b = c.in_ok-reads.ensures in
    let d = c.in_ok-writes.ensures in
    let h = c.in_ok-top.top in
    record {
      answer = draft_together ds h _ _ _ _ a.answer (b.whole (omega (arith, a.few))) (d.whole (omega (arith, a.few)));
      few = (a.few.2, a.few.3, omega (arith, a.few, b.near, d.near));
      tag = search rules;
    }
