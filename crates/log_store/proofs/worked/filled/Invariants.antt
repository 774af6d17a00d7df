use Rattle.log_store.specs.Logs.{in_use}
use Rattle.log_store.proofs.Filling.{Filling}
use Rattle.log_store.proofs.worked.filled.Given as goal

abbrev pub invariant-loop-number : goal.invariant-loop-number
invariant-loop-number l = Filling (in_use l.log) l.number
