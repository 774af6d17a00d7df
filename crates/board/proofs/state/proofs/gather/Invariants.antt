use Rattle.std.proofs.Common.{◌≡◌, ◌+◌, ◌*◌, ◌≤◌, map, length, take}
use Rattle.std.specs.List.{range_with_len, flat_map}
use Rattle.entry.specs.Bodies.{sealed_body, sealed_bytes}
use Rattle.board.specs.Proofs.{sealed_in}
use Rattle.board.proofs.state.proofs.gather.Given as goal

abbrev pub invariant-loop-i : goal.invariant-loop-i
invariant-loop-i l =
    (l.size ≤ 5 + 369 * l.i)
    × (map sealed_body (take l.i l.entries) ≡ map (sealed_in l.window) (range_with_len l.first l.i))
    × (l.size ≡ 5 + length (flat_map (sealed_bytes 2) (map (sealed_in l.window) (range_with_len l.first l.i))))
