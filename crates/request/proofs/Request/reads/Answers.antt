use Rattle.std.proofs.Common.{◌∙◌}
use Rattle.record.specs.Shown.{shown}
use Rattle.record.proofs.Shown.{shown-all}
use Rattle.request.specs.Plans.{planned}
use Rattle.request.specs.Requests.{read_in, read_view}
use Rattle.request.proofs.Request.reads.Goals as goal

pub returns : goal.returns
returns c =
    let q = c.args.self.now in
    let marks = c.new.ensures.1 ∙ c.as_slice.ensures.value in
    record { all = λ found. (λ i. shown read_in (c.new.ensures.0 i) (marks i)) ∙ shown-all read_in (read_view q.frame.now) q.frame.now (planned q.plan).reads found }
