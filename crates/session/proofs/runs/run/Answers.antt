use Rattle.std.proofs.Common.{◌≡◌, ◌<◌, [], ◌++◌, length, take, drop, take_all, Ok, None, ap, ◌∙◌, subst, arith}
use Rattle.std.proofs.lemmas.List.{length-take-le}
use Rattle.fault.specs.declared.Verdict.TheVariants.{Abort}
use Rattle.session.specs.Runs.{Ran, accepted_by, played}
use Rattle.session.specs.Standing.{Represents}
use Rattle.session.specs.declared.replies.Reply.{Reply}
use Rattle.session.proofs.Running.{ran, runs_on}
use Rattle.session.proofs.runs.run.Goals as goal

-- stands where a list of replies has none
no_reply : Reply
no_reply = record { board = 0; verdict = Abort; version = 0 }

pub loop-i-preserved : goal.loop-i-preserved
unfolding no_reply
loop-i-preserved c =
    let f = c.new-session.result.size.f in
    let replies = take c.min-count.result c.args.replies.now in
    let before = c.args.answers.now in
    let i = c.loop-i.i in
    let long = length-take-le c.min-count.result c.args.replies.now (omega (arith, c.min-count.ensures)) in
    let here : i < length replies = c.loop-i-test.true in
    let room : i < length before = omega (arith, here, long, c.min-count.ensures) in
    runs_on f replies i no_reply here before c.loop-i.answers (Ok None) c.reply.result c.reply.new.self room c.loop-i.invariant.1
    (c.reply.ensures.answers f (accepted_by f [] (take i replies)) c.loop-i.invariant.0)

pub returns : goal.returns
returns c =
    let f = c.new-session.result.size.f in
    let n = c.min-count.result in
    let replies = c.args.replies.now in
    let before = c.args.answers.now in
    let long = length-take-le n replies (omega (arith, c.min-count.ensures)) in
    let all = take_all c.loop-i.i (take n replies) c.loop-i-test.false in
    let at : c.loop-i.i ≡ n = omega (arith, c.loop-i-test.false, c.loop-i.auto.i-end, long) in
    let st = subst (λ rs. Represents c.loop-i.session f (accepted_by f [] rs)) all c.loop-i.invariant.0 in
    let is = c.loop-i.invariant.1 ∙ ap (λ rs. played f [] rs ++ drop c.loop-i.i before) all ∙ ap (λ m. played f [] (take n replies) ++ drop m before) at in
    subst (λ g. Ran g replies before c.loop-i.answers c.loop-i.session n) c.new-session.ensures.faults
    (ran f replies before c.loop-i.answers c.loop-i.session n c.min-count.ensures is st)
