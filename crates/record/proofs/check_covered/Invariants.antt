use Rattle.std.proofs.Common.{◌≡◌, map, drop}
use Rattle.record.specs.Chains.{tested}
use Rattle.record.specs.Rules.{covered}
use Rattle.record.specs.Runs.{spotted}
use Rattle.record.proofs.check_covered.Given as goal

-- what is left decides
abbrev pub invariant-loop-w : goal.invariant-loop-w
invariant-loop-w g l =
    let known = map g.R.Numbered.number l.known in
    let u = g.W.Numbered in
    tested (covered l.layer known (spotted u.number u.place (drop l.w-index l.asked))) ≡ tested (covered l.layer known (spotted u.number u.place l.asked))
