use Rattle.std.proofs.Common.{length, ap, ◌∙◌}
use Rattle.inline_vec.specs.Lists.{items}
use Rattle.log_store.proofs.Latest.{kept_latest, length-latest}
use Rattle.log_store.proofs.Log.tidy.Goals as goal

pub returns : goal.returns
returns g c =
    let kept = kept_latest (items c.args.self.now.records) (items c.retain_by_rest.new.self) c.retain_by_rest.ensures in
    record { kept = kept; count = ap length kept ∙ length-latest (items c.args.self.now.records) }
