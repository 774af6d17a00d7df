use Rattle.std.proofs.Common.{lit≤}
use Rattle.numbers.proofs.Holding.{tracks-new}
use Rattle.numbers.proofs.client.Numbers.new.Goals as goal

pub returns : goal.returns
returns c = tracks-new 2 (lit≤ tt)
