use Rattle.std.proofs.Common.{[]}
use Rattle.numbers.proofs.Opening.{second_open, after-second}
use Rattle.numbers.proofs.Holding.{used_open}
use Rattle.numbers.proofs.worked.second_used.Goals as goal

pub returns : goal.returns
returns c = record {
  tracks = used_open 2 c.new-numbers.result c.use_up.new.self [] 2 c.use_up.result second_open
      (c.use_up.ensures.used [] c.new-numbers.ensures);
  rule = after-second;
}
