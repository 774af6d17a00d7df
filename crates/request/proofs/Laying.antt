-- How the parts of a request's layout come together.
use Rattle.std.proofs.Common.{◌≡◌, ℕ, ◌+◌, ◌≤◌, leb, List, length, Ok, Result, sym, ◌∙◌}
use Rattle.std.proofs.lemmas.Bool.{le-leb}
use Rattle.fault.specs.declared.Fault.{Fault}
use Rattle.fault.specs.declared.Layer.TheVariants.{Frame}
use Rattle.fault.specs.declared.Cause.TheVariants.{Malformed}
use Rattle.fault.specs.Codes.{fault}
use Rattle.record.specs.Runs.{run, planned_run}
use Rattle.record.proofs.Steps.{pass, then_ok}
use Rattle.request.specs.declared.mark.ReadAt.{ReadAt}
use Rattle.request.specs.declared.mark.WriteAt.{WriteAt}
use Rattle.request.specs.declared.plan.Head.{Head}
use Rattle.request.specs.declared.draft.Draft.{Draft}
use Rattle.request.specs.Bodies.{reads_at}
use Rattle.request.specs.Marks.{read_stands, read_ends, write_stands, write_ends}
use Rattle.request.specs.Drafts.{read_judged, write_judged, head_judged, plan_writes, plan_reads, plan_draft}
use Rattle.request.specs.Plans.{Marks, head_of, with_reads, with_writes, with_tag, laid}

pub together : (w : ℕ) (bs : List ℕ) (h : Head) (rs : List ReadAt) (ws : List WriteAt) (e t : ℕ)
    → Ok h ≡ head_of w bs
    → Ok (rs, e) ≡ run (read_stands w) (read_ends w) bs h.reads (reads_at w)
    → Ok (ws, t) ≡ run write_stands write_ends bs h.writes e
    → t + 16 ≤ length bs
    → length bs ≤ t + 16
    → Ok (record { top = h; reads = rs; writes = ws; writes_at = e; tag_at = t }) ≡ laid w bs
together w bs h rs ws e t top reads writes long short =
    let found : Marks = record { top = h; reads = rs; writes = ws; writes_at = e; tag_at = t } in
    sym
    (then_ok (head_of w bs) (with_reads w bs) h (sym top)
    ∙ then_ok (run (read_stands w) (read_ends w) bs h.reads (reads_at w)) (with_writes bs h) (rs, e) (sym reads)
    ∙ then_ok (run write_stands write_ends bs h.writes e) (with_tag bs h (rs, e)) (ws, t) (sym writes)
    ∙ pass (leb (t + 16) (length bs)) (fault Malformed Frame (length bs)) _ (le-leb (t + 16) (length bs) long)
    ∙ pass (leb (length bs) (t + 16)) (fault Malformed Frame (t + 16)) (Ok found) (le-leb (length bs) (t + 16) short))

pub draft_together : (d : Draft) (h : Head) (rs : List ReadAt) (ws : List WriteAt) (e t : ℕ)
    → Ok h ≡ head_judged d.client d.sequence (length d.reads.now) (length d.writes.now)
    → Ok (rs, e) ≡ planned_run read_judged (read_ends 2) d.reads.now (reads_at 2)
    → Ok (ws, t) ≡ planned_run write_judged write_ends d.writes.now e
    → Ok (record { top = h; reads = rs; writes = ws; writes_at = e; tag_at = t }) ≡ plan_draft d
draft_together d h rs ws e t top reads writes =
    let mark : List WriteAt × ℕ → Result Marks Fault = λ q. Ok (record { top = h; reads = rs; writes = q.0; writes_at = e; tag_at = q.1 }) in
    sym
    (then_ok (head_judged d.client d.sequence (length d.reads.now) (length d.writes.now)) (plan_reads d) h (sym top)
    ∙ then_ok (planned_run read_judged (read_ends 2) d.reads.now (reads_at 2)) (plan_writes d h) (rs, e) (sym reads)
    ∙ then_ok (planned_run write_judged write_ends d.writes.now e) mark (ws, t) (sym writes))
