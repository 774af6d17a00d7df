use Rattle.std.proofs.Common.{◌≡◌, ℕ, Some, None, Option, rules}
use Rattle.std.proofs.lemmas.Option.{MatchOption-at_none, MatchOption-at_some}
use Rattle.numbers.specs.Tracking.{Behind}
use Rattle.numbers.proofs.Opening.{steps}
use Rattle.numbers.proofs.Holding.{not_held, tracks-more}
use Rattle.numbers.proofs.client.Numbers.use_up.Goals as goal

pub returns-in_err-at-clause-used : goal.returns-in_err-at-clause-used
returns-in_err-at-clause-used c used tr =
    let none : ◌≡◌ {A = Option ℕ} c.place.result None = search rules in
    let closed = not_held 2 c.args.self.now used tr c.args.s (MatchOption-at_none _ _ none c.place.ensures) in
    search rules

pub returns-in_err-at-clause-steps : goal.returns-in_err-at-clause-steps
returns-in_err-at-clause-steps c used tr op = steps 2 used c.args.s tr.rightly op

pub returns-clause-used : goal.returns-clause-used
returns-clause-used c used tr =
    let some : ◌≡◌ {A = Option ℕ} c.place.result (Some c.in_ok-at.at) = search rules in
    let at = MatchOption-at_some _ _ c.in_ok-at.at some c.place.ensures in
    let behind : Behind 2 c.args.self.now.next c.and_then-self.result = search rules in
    (tr.sound c.in_ok-at.at c.args.s at.0 at.1, tr.next, tracks-more 2 c.args.self.now used tr c.in_ok-at.at c.args.s c.and_then-self.result at.0 at.1 behind)

pub returns-clause-steps : goal.returns-clause-steps
returns-clause-steps c used tr op = steps 2 used c.args.s tr.rightly op
