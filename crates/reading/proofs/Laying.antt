-- How the parts of a reading's layout come together.
use Rattle.std.proofs.Common.{◌≡◌, ℕ, ◌≤◌, leb, List, length, Ok, Result, sym, ◌∙◌}
use Rattle.std.proofs.lemmas.Bool.{le-leb}
use Rattle.fault.specs.declared.Fault.{Fault}
use Rattle.fault.specs.declared.Layer.TheVariants.{Frame}
use Rattle.fault.specs.declared.Cause.TheVariants.{Malformed}
use Rattle.fault.specs.Codes.{fault}
use Rattle.record.specs.Runs.{run, planned_run}
use Rattle.record.proofs.Steps.{pass, then_ok}
use Rattle.reading.specs.declared.mark.ItemAt.{ItemAt}
use Rattle.reading.specs.declared.part.ReadingDraft.{ReadingDraft}
use Rattle.reading.specs.Marks.{read_item_stands, read_item_ends}
use Rattle.reading.specs.Plans.{Marks, count_of, with_items, with_end, laid}
use Rattle.reading.specs.Drafts.{read_item_judged, count_judged, plan_items, plan_draft}

pub together : (w : ℕ) (bs : List ℕ) (n : ℕ) (rs : List ItemAt) (e : ℕ)
    → Ok n ≡ count_of bs
    → Ok (rs, e) ≡ run (read_item_stands w) read_item_ends bs n 2
    → length bs ≤ e
    → Ok (record { count = n; items = rs; end = e }) ≡ laid w bs
together w bs n rs e count items short =
    let found : Marks = record { count = n; items = rs; end = e } in
    sym
    (then_ok (count_of bs) (with_items w bs) n (sym count)
    ∙ then_ok (run (read_item_stands w) read_item_ends bs n 2) (with_end bs n) (rs, e) (sym items)
    ∙ pass (leb (length bs) e) (fault Malformed Frame e) (Ok found) (le-leb (length bs) e short))

pub draft_together : (ds : List ReadingDraft) (n : ℕ) (rs : List ItemAt) (e : ℕ)
    → Ok n ≡ count_judged (length ds)
    → Ok (rs, e) ≡ planned_run read_item_judged read_item_ends ds 2
    → Ok (record { count = n; items = rs; end = e }) ≡ plan_draft ds
draft_together ds n rs e count items =
    let mark : List ItemAt × ℕ → Result Marks Fault = λ q. Ok (record { count = n; items = q.0; end = q.1 }) in
    sym
    (then_ok (count_judged (length ds)) (plan_items ds) n (sym count)
    ∙ then_ok (planned_run read_item_judged read_item_ends ds 2) mark (rs, e) (sym items))
