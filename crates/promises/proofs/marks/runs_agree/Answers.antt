use Rattle.promises.proofs.Comparing.{alike, ordered}
use Rattle.promises.proofs.marks.runs_agree.Goals as goal

pub returns : goal.returns
returns g c =
    let one = c.run_new-mine.ensures in
    let two = c.run_new-theirs.ensures in
    let compared = c.same_marks-same.ensures _ _ _ _ _ _ _ _ one.run.represents two.run.represents in
    record {
      made = _;
      more = _;
      one = one;
      two = two;
      compared = compared;
      order = ordered _ _ _ _ _ _ _ one.run.events two.run.events one.run.lawful two.run.lawful;
      replicas = λ same frames. compared.same (alike _ _ _ _ _ _ _ one.run.events two.run.events one.run.lawful two.run.lawful same frames);
    }
