use Rattle.std.proofs.Common.{sym, length-append}
use Rattle.seal.proofs.whole_length.Goals as goal

pub returns : goal.returns
returns c = sym (length-append c.args.head.now c.args.rest.now)
