use Rattle.std.proofs.Common.{◌≡◌}
use Rattle.siphash.specs.SipHash.{sip_rounds}
use Rattle.siphash.proofs.rounds.Given as goal

abbrev pub invariant-loop : goal.invariant-loop
invariant-loop l = l.s ≡ sip_rounds l.counter l.initial.s
