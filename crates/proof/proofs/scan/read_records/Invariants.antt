use Rattle.std.proofs.Common.{◌≡◌, ◌+◌, ◌-◌, ◌*◌, ◌≤◌, length, None}
use Rattle.proof.specs.Ends.{end_of, records_to}
use Rattle.proof.proofs.scan.read_records.Given as goal

-- what is left decides
abbrev pub invariant-loop : goal.invariant-loop
invariant-loop l =
    let k = l.kind in
    (l.at ≤ l.start + 33 * l.counter)
    × (l.at ≤ length l.bytes)
    × (end_of (records_to k.top k.size k.boards (l.count - l.counter) l.last) l.bytes l.at ≡ end_of (records_to k.top k.size k.boards l.count None) l.bytes l.start)
