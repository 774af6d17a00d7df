use Rattle.promises.proofs.readings.run_and_judge.Goals as goal

pub returns : goal.returns
returns g c =
    let runs = c.run_new-board.ensures in
    record { runs = runs; judged = λ few same. c.prove_and_judge-answer.ensures _ _ _ _ runs.run.represents runs.run.sets few same }
