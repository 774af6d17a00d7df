use Rattle.std.proofs.Common.{◌≡◌, ◌+◌, ◌*◌, ◌≤◌, drop, None}
use Rattle.proof.specs.Writing.{weigh_records}
use Rattle.proof.proofs.weigh.weigh_records.Given as goal

-- what is left decides
abbrev pub invariant-loop-r : goal.invariant-loop-r
invariant-loop-r g l =
    let key = g.R.Keyed.key in
    let k = l.kind in
    (l.at ≤ l.start + 33 * l.r-index)
    × (weigh_records key k.top k.size k.boards l.left l.last (drop l.r-index l.records) l.at ≡ weigh_records key k.top k.size k.boards l.due None l.records l.start)
