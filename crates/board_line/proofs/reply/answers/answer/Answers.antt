use Rattle.std.proofs.Common.{arith, take, length-take}
use Rattle.board_line.proofs.reply.answers.answer.Goals as goal

pub returns : goal.returns
returns g c = record {
  bytes = take c.put_line-n.result c.put_line-n.new.out;
  written = c.show.ensures.whole (simp length-take (omega arith));
  served = c.put_line-n.ensures.served;
}
