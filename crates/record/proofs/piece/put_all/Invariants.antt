use Rattle.std.proofs.Common.{◌≡◌, ◌+◌, length, take, drop}
use Rattle.std.specs.List.{flat_map, AllByRecursion}
use Rattle.octets.specs.Parts.{over}
use Rattle.record.proofs.piece.put_all.Given as goal

-- the pieces so far stand at the front, and there is room for those that are left
abbrev pub invariant-loop-p : goal.invariant-loop-p
invariant-loop-p g l =
    let t = g.P.Piece in
    let done = flat_map t.bytes (take l.p-index l.pieces) in
    let left = drop l.p-index l.pieces in
    (l.at ≡ length done) × (l.out ≡ over done l.initial.out) × (l.at + length (flat_map t.bytes left) ≡ length (flat_map t.bytes l.pieces)) × AllByRecursion t.ready left
