use Rattle.std.proofs.Common.{◌≡◌, ◌++◌, map, take, drop}
use lib.Bits.{bit_xor}
use Rattle.hmac.proofs.mask.Given as goal

abbrev pub invariant-loop-b : goal.invariant-loop-b
invariant-loop-b l = l.block ≡ map (bit_xor l.x) (take l.b-index l.initial.block) ++ drop l.b-index l.initial.block
