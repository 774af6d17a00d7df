use Rattle.std.proofs.Common.{◌≡◌, ◌+◌, ◌-◌, ◌<◌, ◌≤◌, map, Err, sym, ap, ◌∙◌, arith}
use Rattle.std.specs.List.{range_with_len}
use Rattle.window.specs.Windows.{shares_in}
use Rattle.record.specs.Chains.{tested}
use Rattle.board.specs.Proofs.{sealed_row}
use Rattle.board.proofs.Gathering.{all_sealed, sealed_here, unsealed_here}
use Rattle.board.proofs.state.Board.check_sealed.Goals as goal

pub loop-version-init : goal.loop-version-init
loop-version-init g c =
    let b = c.args.self.now in
    let n : c.args.first + c.args.count - c.args.first ≡ c.args.count = omega arith in
    ap (λ k. tested (map (sealed_row b.window b.place.size.f) (range_with_len c.args.first k))) n

pub returns-then-shares-faults : goal.returns-then-shares-faults
returns-then-shares-faults g c =
    let b = c.args.self.now in
    let v = c.loop-version.version in
    let few : shares_in b.window v ≤ b.place.size.f = omega (arith, c.shares.ensures.count, c.faults.ensures, c.if-shares-faults.true) in
    ap Err c.at.ensures ∙ sym (unsealed_here b.window b.place.size.f v (c.args.first + c.args.count) c.loop-version-test.true few) ∙ c.loop-version.invariant

pub loop-version-preserved : goal.loop-version-preserved
loop-version-preserved g c =
    let b = c.args.self.now in
    let v = c.loop-version.version in
    let many : b.place.size.f < shares_in b.window v = omega (arith, c.shares.ensures.count, c.faults.ensures, c.if-shares-faults.false) in
    sym (sealed_here b.window b.place.size.f v (c.args.first + c.args.count) c.loop-version-test.true many) ∙ c.loop-version.invariant

pub returns : goal.returns
returns g c =
    let b = c.args.self.now in
    sym (all_sealed b.window b.place.size.f c.loop-version.version (c.args.first + c.args.count) c.loop-version-test.false) ∙ c.loop-version.invariant
