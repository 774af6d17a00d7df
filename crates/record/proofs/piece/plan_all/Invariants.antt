use Rattle.std.proofs.Common.{◌≡◌, ◌+◌, ◌*◌, ◌≤◌, length, drop}
use Rattle.inline_vec.specs.Lists.{items}
use Rattle.record.specs.Runs.{planned_run, behind}
use Rattle.record.proofs.piece.plan_all.Given as goal

-- the marks so far stand before those that are left
abbrev pub invariant-loop-part : goal.invariant-loop-part
invariant-loop-part g l =
    let t = g.P.Part in
    let u = g.P.Mark.Record in
    (l.at ≤ l.start + 8192 * l.part-index) × (length (items l.marks) ≡ l.part-index)
    × (behind (items l.marks) (planned_run t.judged u.ends (drop l.part-index l.first) l.at) ≡ planned_run t.judged u.ends l.first l.start)
