use Rattle.std.proofs.Common.{◌≡◌, ◌+◌, ◌*◌, ◌≤◌, map, drop}
use Rattle.entry.specs.Bodies.{sealed_body}
use Rattle.proof.specs.Writing.{weigh_entries}
use Rattle.proof.proofs.weigh.weigh_entries.Given as goal

-- what is left decides
abbrev pub invariant-loop-i : goal.invariant-loop-i
invariant-loop-i l =
    (l.at ≤ 5 + 465 * l.i)
    × (weigh_entries 2 l.f (l.low + l.i) (map sealed_body (drop l.i l.entries)) l.at ≡ weigh_entries 2 l.f l.low (map sealed_body l.entries) 5)
