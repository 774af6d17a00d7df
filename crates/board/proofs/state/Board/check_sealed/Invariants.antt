use Rattle.std.proofs.Common.{◌≡◌, ◌+◌, ◌-◌, map}
use Rattle.std.specs.List.{range_with_len}
use Rattle.record.specs.Chains.{tested}
use Rattle.board.specs.Proofs.{sealed_row}
use Rattle.board.proofs.state.Board.check_sealed.Given as goal

abbrev pub invariant-loop-version : goal.invariant-loop-version
invariant-loop-version g l =
    tested (map (sealed_row l.self.window l.self.place.size.f) (range_with_len l.version (l.first + l.count - l.version)))
    ≡ tested (map (sealed_row l.self.window l.self.place.size.f) (range_with_len l.first l.count))
