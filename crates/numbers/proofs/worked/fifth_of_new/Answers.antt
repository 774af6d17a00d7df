use Rattle.std.proofs.Common.{[], inl, inr, arith}
use Rattle.std.proofs.lemmas.Bool.{cases_Bool}
use Rattle.numbers.proofs.worked.fifth_of_new.Goals as goal

pub returns : goal.returns
returns c = record {
  answer = elim (cases_Bool c.is_open.result) [
    | inl is ↦ absurd (omega (arith, ((c.is_open.ensures [] c.new-numbers.ensures).0 is).0.1))
    | inr not ↦ not
  ];
  rule = λ op. omega (arith, op.0.1);
}
