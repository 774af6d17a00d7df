use Rattle.std.proofs.Common.{sym, arith}
use Rattle.std.proofs.lemmas.List.{take_all}
use Rattle.request.proofs.Request.covered.Goals as goal

pub returns-then-self : goal.returns-then-self
returns-then-self c = sym (take_all c.args.self.plan.tag_at c.args.self.frame.now (omega arith))
