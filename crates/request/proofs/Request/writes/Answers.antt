use Rattle.std.proofs.Common.{◌∙◌}
use Rattle.record.specs.Shown.{shown}
use Rattle.record.proofs.Shown.{shown-all}
use Rattle.request.specs.Plans.{planned}
use Rattle.request.specs.Requests.{write_in, write_view}
use Rattle.request.proofs.Request.writes.Goals as goal

pub returns : goal.returns
returns c =
    let q = c.args.self.now in
    let marks = c.new.ensures.1 ∙ c.as_slice.ensures.value in
    record { all = λ found. (λ i. shown write_in (c.new.ensures.0 i) (marks i)) ∙ shown-all write_in (write_view q.frame.now) q.frame.now (planned q.plan).writes found }
