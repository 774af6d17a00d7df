use Rattle.std.proofs.Common.{◌≡◌, Some, None, rules, sym, subst}
use Rattle.audit.specs.Reports.{Departs}
use Rattle.audit.proofs.track.Track.departure.Goals as goal

pub returns-in_err-wrong : goal.returns-in_err-wrong
returns-in_err-wrong c digest b reports tracks =
    let none : c.args.self.wrong ≡ None = search rules in
    let never : c.from_residual.result ≡ None = search rules in
    subst (Departs digest reports b) (sym never) (tracks.never none)

pub returns : goal.returns
returns c digest b reports tracks =
    let some : c.args.self.wrong ≡ Some c.in_ok-wrong.wrong = search rules in
    (tracks.first c.in_ok-wrong.wrong some, tracks.before c.in_ok-wrong.wrong some)
