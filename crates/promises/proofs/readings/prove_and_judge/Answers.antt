use Rattle.std.proofs.Common.{sym, refl}
use Rattle.promises.proofs.Owning.{read-judged, read-refused}
use Rattle.promises.proofs.readings.prove_and_judge.Goals as goal

pub returns-in-Ok : goal.returns-in-Ok
returns-in-Ok g c tag f own h st sets few same =
    let found = c.in-Ok.ensures.found in
    read-judged _ _ _ tag f own _ h _ _ c.args.reading.now _ _ _ c.judge_own.result (sym c.in-Ok.ensures.answer) (c.lowest.ensures _ found) (c.highest.ensures _ found)
    (c.judge_own.ensures tag f own h st sets few same)

pub returns-in-Err : goal.returns-in-Err
returns-in-Err g c tag f own h st sets few same =
    read-refused _ _ _ tag f own _ h c.args.reading.now _ _ c.in-Err.fault (sym c.in-Err.ensures.answer) refl
