use Rattle.std.proofs.Common.{Decides, subst, sym}
use Rattle.numbers.specs.Sequence.{Open}
use Rattle.numbers.proofs.Holding.{held_decides}
use Rattle.numbers.proofs.client.Numbers.is_open.Goals as goal

pub returns : goal.returns
returns c used tr = subst (λ b. Decides b (Open 2 used c.args.s)) (sym c.is_some.ensures) (held_decides 2 c.args.self.now used tr c.args.s c.place.result c.place.ensures)
