use Rattle.promises.proofs.Exampling.{accepted-over_histories}
use Rattle.promises.proofs.Settling.{judged}
use Rattle.promises.proofs.readings.judge.Goals as goal

pub returns : goal.returns
returns g c = record {
  answer = c.check.ensures.answer;
  judged = judged _ _ _ _ _ _ (λ i. (c.type_inv.proof i).fits) c.check.ensures.answer c.check.ensures.held c.check.ensures.decides;
  instance = accepted-over_histories;
}
