use Rattle.std.proofs.Common.{[], ◌∙◌, ap, subst}
use Rattle.session.specs.Answers.{accepted, answer}
use Rattle.session.specs.Standing.{Represents}
use Rattle.session.proofs.worked.second.Goals as goal

pub returns : goal.returns
returns c =
    let r = c.args.first in
    let new = subst (λ n. Represents c.new-session.result n []) c.in_ok-new.ensures.2 c.new-session.ensures in
    let first = c.reply-first.ensures.answers 1 [] new in
    (c.reply.ensures.answers 1 (accepted [] r c.reply-first.result) first.1).0 ∙ ap (λ a. answer 1 (accepted [] r a) c.args.next) first.0
