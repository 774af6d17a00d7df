use Rattle.std.proofs.Common.{take}
use Rattle.inline_vec.proofs.Keeping.{Keeping}
use Rattle.inline_vec.proofs.InlineVec.retain_by_rest.Given as goal

abbrev pub invariant-loop-i : goal.invariant-loop-i
invariant-loop-i g l = Keeping (g.K.RestTest.told l.test) (take l.len l.initial.self.places) (take l.len l.self.places) l.kept l.i
