use Rattle.std.proofs.Common.{◌+◌, length, arith}
use Rattle.siphash.proofs.Little.{pow-le}
use Rattle.siphash.proofs.last_word.Goals as goal

pub overflow_add-result : goal.overflow_add-result
overflow_add-result c = omega (arith, c.joined.ensures.bound, pow-le (length c.args.a.now + length c.args.b.now) 7 c.requires.size)

pub returns : goal.returns
returns c = omega (arith, c.joined.ensures.value)
