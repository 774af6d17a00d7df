use Rattle.std.proofs.Common.{◌<◌, ◌≤◌, Err, sym, ap, ◌∙◌, subst, arith}
use Rattle.cluster_size.specs.Sizes.{members}
use Rattle.session.specs.Standing.{Represents}
use Rattle.session.proofs.Replying.{answer-decided, answer-refused, answer_waiting, means_decided, means_waiting, same-session, stands-decided, stands_waiting}
use Rattle.session.proofs.state.Session.reply.Goals as goal

pub returns-in_default-clause-answers : goal.returns-in_default-clause-answers
returns-in_default-clause-answers c f rs st =
    let s = c.args.self.now in
    let r = c.args.reply in
    let ok = sym c.malformed.ensures ∙ c.if-malformed.false in
    let low : r.board < members s.size.f = omega (arith, c.if-reply-boards.false, c.boards.ensures) in
    let e = c.in_default.ensures in (
      ap Err c.at-in_default.ensures ∙ sym (answer-refused s f rs st r ok low c.take.new.self e.state),
      subst (λ x. Represents x f rs) (sym (same-session r s c.take.new.self e.size e.state)) st,
    )

pub returns-in_default-clause-kept : goal.returns-in_default-clause-kept
returns-in_default-clause-kept c = same-session c.args.reply c.args.self.now c.take.new.self c.in_default.ensures.size c.in_default.ensures.state

pub returns-then-count-from : goal.returns-then-count-from
returns-then-count-from c =
    let s = c.args.self.now in
    let r = c.args.reply in
    let ok = sym c.malformed.ensures ∙ c.if-malformed.false in
    let low : r.board < members s.size.f = omega (arith, c.if-reply-boards.false, c.boards.ensures) in
    let s' = c.take.new.self in
    let e = c.in-Some.ensures in
    let n = c.in-Some.count in
    let d = c.in-Some.decision in
    let few : n ≤ s'.size.f = omega (arith, c.if-count-from.true, c.faults.ensures) in
    record {
      answers = λ f rs st. (sym (answer_waiting s f rs st r ok low s' e.size d n e.state few), stands_waiting s f rs st r ok low s' e.size d n e.state few);
      means = λ f rs st. means_waiting s f rs st r ok low s' e.size d n e.state few;
      kept = tt;
    }

pub returns : goal.returns
returns c =
    let s = c.args.self.now in
    let r = c.args.reply in
    let ok = sym c.malformed.ensures ∙ c.if-malformed.false in
    let low : r.board < members s.size.f = omega (arith, c.if-reply-boards.false, c.boards.ensures) in
    let s' = c.take.new.self in
    let e = c.in-Some.ensures in
    let n = c.in-Some.count in
    let d = c.in-Some.decision in
    let enough : s'.size.f < n = omega (arith, c.if-count-from.false, c.faults.ensures) in
    record {
      answers = λ f rs st. (sym (answer-decided s f rs st r ok low s' e.size d n e.state enough), stands-decided s f rs st r ok low s' e.size d n e.state enough);
      means = λ f rs st. means_decided s f rs st r ok low s' e.size d n e.state enough;
      kept = tt;
    }
