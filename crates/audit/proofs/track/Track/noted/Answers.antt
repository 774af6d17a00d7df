use Rattle.std.proofs.Common.{sym, ◌∙◌}
use Rattle.std.proofs.lemmas.Bool.{both_ways}
use Rattle.audit.proofs.Tracking.{is_there, none_there, tracks_departed, tracks_right, tracks-wrong}
use Rattle.audit.proofs.track.Track.noted.Goals as goal

pub returns-then-is_some : goal.returns-then-is_some
returns-then-is_some c digest b reports last tr is whose tells =
    let there = is_there c.args.self.wrong (sym c.is_some.ensures ∙ c.if-is_some.true) in
    tracks_departed digest b reports last c.args.self tr there.0 there.1

pub returns-then-right : goal.returns-then-right
returns-then-right c digest b reports last tr is whose tells =
    tracks_right digest b reports last c.args.self tr (none_there c.args.self.wrong (sym c.is_some.ensures ∙ c.if-is_some.false)) c.args.number is whose (tells.0 c.if-right.true)

pub returns : goal.returns
returns c digest b reports last tr is whose tells =
    tracks-wrong digest b reports last c.args.self tr (none_there c.args.self.wrong (sym c.is_some.ensures ∙ c.if-is_some.false)) c.args.number is whose
    (λ so. both_ways c.args.right c.if-right.false (tells.1 so))
