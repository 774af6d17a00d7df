use Rattle.std.proofs.Common.{length, sym, arith}
use Rattle.std.proofs.lemmas.List.{length-take-le}
use Rattle.promises.proofs.Owning.{judged_at, own_judged, own_refused, proof-fits}
use Rattle.promises.proofs.readings.judge_own.Goals as goal

pub slice_bounds-judge-end-in-Ok : goal.slice_bounds-judge-end-in-Ok
slice_bounds-judge-end-in-Ok g c =
    let b = c.args.board.now in
    let fits = proof-fits b.window b.place.size.f b.count c.args.low c.args.high (length c.args.room.now) c.in-Ok.n c.in-Ok.ensures.answer in
    sym (length-take-le c.in-Ok.n c.proof.new.out (omega (arith, c.proof.auto.out)))

pub returns-in-Ok : goal.returns-in-Ok
returns-in-Ok g c tag f own h st sets few same =
    own_judged _ _ _ tag f own _ h _ _ c.args.reading.now _ _ c.in-Ok.n c.judge.result (c.in-Ok.ensures.history tag f own h st sets) sets
    (judged_at _ _ tag _ f c.args.reading.now _ c.judge.result few same c.judge.ensures.judged)

pub returns-in-Err : goal.returns-in-Err
returns-in-Err g c tag f own h st sets few same =
    own_refused _ _ _ tag f own _ h _ _ c.args.reading.now _ _ c.in-Err.fault (c.in-Err.ensures.history tag f own h st sets) sets
