use Rattle.std.proofs.Common.{◌≡◌, ◌*◌, ◌++◌, take, drop}
use Rattle.lines.specs.Hex.{hex}
use Rattle.lines.proofs.answer_line.show.encode.Given as goal

abbrev pub invariant-loop-i : goal.invariant-loop-i
invariant-loop-i l = l.out ≡ hex (take l.i l.bytes) ++ drop (2 * l.i) l.initial.out
