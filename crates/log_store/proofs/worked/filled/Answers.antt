use Rattle.std.proofs.Common.{◌+◌, sym, subst, arith}
use Rattle.log_store.specs.Logs.{in_use}
use Rattle.log_store.specs.declared.Log.{Log}
use Rattle.log_store.proofs.Filling.{Filling, filling-none, filling-more, filling_all}
use Rattle.log_store.proofs.worked.filled.Goals as goal
use Rattle.log_store.proofs.worked.filled.Goals.{in-Ok, in_default}

pub loop-number-init : goal.loop-number-init
loop-number-init c = filling-none _ c.new-log.ensures.1

pub loop-number-preserved : goal.loop-number-preserved
loop-number-preserved c =
    elim c.match-try_from.branch [
      | in-Ok w ↦
          subst (λ (g : Log 65). Filling (in_use g) (c.loop-number.number + 1)) (sym w.log-is)
          (filling-more (in_use c.loop-number.log) _ _ c.loop-number.number c.loop-number-test.true w.in-Ok.ensures w.install.ensures.records c.loop-number.invariant)
      | in_default w ↦ let high = w.in_default.ensures in absurd (omega arith)
    ]

pub returns : goal.returns
returns c = filling_all _ c.loop-number.number (omega arith) c.loop-number.invariant
