use Rattle.std.proofs.Common.{◌≡◌, ◌+◌, ◌-◌, ◌*◌, ◌≤◌, length}
use Rattle.proof.specs.Ends.{end_of}
use Rattle.proof.specs.Rules.{entries_from}
use Rattle.proof.proofs.scan.read_entries.Given as goal

-- what is left decides
abbrev pub invariant-loop-due : goal.invariant-loop-due
invariant-loop-due l =
    (l.at ≤ 5 + 8715 * (l.due - l.low))
    × (l.at ≤ length l.bytes)
    × (end_of (entries_from 2 l.f l.due (l.low + l.count - l.due)) l.bytes l.at ≡ end_of (entries_from 2 l.f l.low l.count) l.bytes 5)
