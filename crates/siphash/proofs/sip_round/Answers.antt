use Rattle.std.proofs.Common.{rules}
use Rattle.siphash.specs.SipHash.{sip_round}
use Rattle.siphash.proofs.sip_round.Goals as goal

pub returns : goal.returns
unfolding sip_round
returns c = search rules
