use Rattle.std.proofs.Common.{rules}
use Rattle.hmac.specs.Hmac.{HMAC}
use Rattle.hmac.proofs.hmac.Goals as goal

pub returns : goal.returns
unfolding HMAC
returns c = search rules
