use Rattle.std.proofs.Common.{◌∙◌}
use Rattle.record.specs.Shown.{shown}
use Rattle.record.proofs.Shown.{shown-all}
use Rattle.reading.specs.Plans.{planned}
use Rattle.reading.specs.Readings.{item_in, item_view}
use Rattle.reading.proofs.Reading.items.Goals as goal

pub returns : goal.returns
returns c =
    let q = c.args.self.now in
    let marks = c.new.ensures.1 ∙ c.as_slice.ensures.value in
    record { all = λ found. (λ i. shown item_in (c.new.ensures.0 i) (marks i)) ∙ shown-all item_in (item_view q.frame.now) q.frame.now (planned q.plan).items found }
