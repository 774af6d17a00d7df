use Rattle.std.proofs.Common.{◌≡◌, ◌<◌, length, refl, arith}
use Rattle.promises.proofs.Running.{behind_more, run_more, run_none, runs}
use Rattle.promises.proofs.runs.run.Goals as goal

pub loop-i-init : goal.loop-i-init
loop-i-init g c = (λ tag f own h st sets lawful back. run_none _ _ _ tag f own h c.args.room.now c.args.board.now st sets lawful back, refl)

pub loop-i-preserved : goal.loop-i-preserved
loop-i-preserved g c =
    let here : c.loop-i.i < length c.args.calls.now = omega (arith, c.loop-i-test.true, c.min-count.ensures) in
    let room : c.loop-i.i < length c.loop-i.answers = omega (arith, c.loop-i-test.true, c.min-count.ensures, c.loop-i.auto.answers) in (
      λ tag f own h st sets lawful back.
          let run = c.loop-i.invariant.0 tag f own h st sets lawful back in
          run_more _ _ _ tag f own h c.args.calls.now c.loop-i.answers c.loop-i.i _ c.args.room.now c.loop-i.room c.call.new.room
          c.loop-i.board c.call.new.board c.call.result here room run (c.call.ensures.history tag f own _ run.represents run.sets),
      behind_more c.loop-i.answers c.args.answers.now c.loop-i.i c.call.result c.loop-i.invariant.1,
    )

pub returns : goal.returns
returns g c tag f own h st sets lawful back =
    let at : c.loop-i.i ≡ c.min-count.result = omega (arith, c.loop-i-test.false, c.loop-i.auto.i-end) in
    runs _ _ _ tag f own h c.args.calls.now c.args.answers.now c.loop-i.answers c.args.room.now c.loop-i.room c.loop-i.board c.loop-i.i c.min-count.result at
    c.min-count.ensures (c.loop-i.invariant.0 tag f own h st sets lawful back) c.loop-i.invariant.1
