use Rattle.std.proofs.Common.{◌≡◌, ℕ, ◌+◌, refl, add-one}
use Rattle.siphash.specs.declared.State.{State}
use Rattle.siphash.specs.SipHash.{sip_round, sip_rounds}
use Rattle.siphash.proofs.rounds.Goals as goal

pub loop-init : goal.loop-init
unfolding sip_rounds
loop-init c = refl

more : (start s r : State) (i : ℕ) → s ≡ sip_rounds i start → r ≡ sip_round s → r ≡ sip_rounds (i + 1) start
unfolding sip_rounds
more start s r i es er = rw add-one (cc)

pub loop-preserved : goal.loop-preserved
loop-preserved c = more c.args.start c.loop.s c.sip_round-s.result c.loop.counter c.loop.invariant c.sip_round-s.ensures
