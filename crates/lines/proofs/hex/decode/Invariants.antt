use Rattle.std.proofs.Common.{◌≡◌, ◌*◌, take, drop}
use Rattle.lines.specs.Hex.{before, unhex}
use Rattle.lines.proofs.hex.decode.Given as goal

abbrev pub invariant-loop-i : goal.invariant-loop-i
invariant-loop-i l = unhex l.digits ≡ before (take l.i l.bytes) (unhex (drop (2 * l.i) l.digits))
