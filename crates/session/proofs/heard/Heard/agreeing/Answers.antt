use Rattle.std.proofs.Common.{rules, ◌≡◌, length, None}
use Rattle.session.specs.Hearing.{is_said}
use Rattle.session.proofs.Counting.{counted}
use Rattle.session.proofs.heard.Heard.agreeing.Goals as goal

pub returns : goal.returns
returns c =
    let long : length c.args.self.now.said ≡ 16 = search rules in
    search (rules, counted (λ said. is_said said c.args.decision) None c.args.self.now.said 16 long)
