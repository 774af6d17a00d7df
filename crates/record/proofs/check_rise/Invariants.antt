use Rattle.std.proofs.Common.{◌≡◌, drop, None}
use Rattle.record.specs.Chains.{tested}
use Rattle.record.specs.Rules.{rising}
use Rattle.record.specs.Runs.{spotted}
use Rattle.record.proofs.check_rise.Given as goal

-- what is left decides
abbrev pub invariant-loop-r : goal.invariant-loop-r
invariant-loop-r g l =
    let t = g.R.Numbered in
    tested (rising l.layer l.last (spotted t.number t.place (drop l.r-index l.records))) ≡ tested (rising l.layer None (spotted t.number t.place l.records))
