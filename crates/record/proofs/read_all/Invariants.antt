use Rattle.std.proofs.Common.{◌≡◌, ◌+◌, ◌-◌, ◌*◌, ◌≤◌, length}
use Rattle.inline_vec.specs.Lists.{items}
use Rattle.record.specs.Runs.{run, behind}
use Rattle.record.proofs.read_all.Given as goal

-- the marks so far stand before those that are left
abbrev pub invariant-loop : goal.invariant-loop
invariant-loop g l =
    let t = g.R.Record in
    (l.at ≤ l.start + 8192 * l.counter) × (l.start ≤ l.at) × (length (items l.marks) ≡ l.counter)
    × (behind (items l.marks) (run t.stands t.ends l.frame (l.most - l.counter) l.at) ≡ run t.stands t.ends l.frame l.most l.start)
