use Rattle.std.proofs.Common.{[], ◌∙◌, ap}
use Rattle.session.specs.Answers.{accepted, answer, reply}
use Rattle.session.proofs.Working.{first_waits, three_decides}
use Rattle.session.proofs.worked.two_agree.Goals as goal

pub returns-clause-runs : goal.returns-clause-runs
returns-clause-runs c ok =
    let v = c.args.verdict in
    let k = c.args.version in
    c.second.ensures ∙ ap (λ a. answer 1 (accepted [] (reply 0 v k) a) (reply 3 v k)) (first_waits v k ok) ∙ three_decides v k ok

pub returns-clause-rule : goal.returns-clause-rule
returns-clause-rule c = three_decides c.args.verdict c.args.version
