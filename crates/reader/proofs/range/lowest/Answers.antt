use Rattle.std.proofs.Common.{sym, ap, ◌∙◌, min, rules}
use Rattle.std.specs.List.{reduce}
use Rattle.std.specs.Option.{unwrap_or}
use Rattle.std.proofs.lemmas.Iterator.{YieldsList-from_map}
use Rattle.std.proofs.lemmas.Iterator.Adapters.{option_map_id}
use Rattle.std.proofs.lemmas.Iterator.Consumers.{YieldsList-at, YieldsList-from_first, min_from_yields_List}
use Rattle.reading.specs.Plans.{planned}
use Rattle.reading.specs.Readings.{held, item_shown, item_views, items_left}
use Rattle.reader.proofs.Spots.{View, lowest-picked, versions_seen}
use Rattle.reader.proofs.range.lowest.Goals as goal
use borrow.Author.Tests.{tests}

pub returns : goal.returns
returns c = λ bs found.
    c.unwrap_or.ensures
    ∙ ap (λ r. unwrap_or r 0) (sym (option_map_id c.min.result)
    ∙ min_from_yields_List c.map.result c.min.result c.min.ensures.ran
    (YieldsList-from_map _ (λ (v : View). v.0.version) (YieldsList-at c.map.ensures.source (YieldsList-from_first item_shown items_left (item_views c.args.reading) (c.items.ensures.all found.each_item))) c.map.ensures.closure (λ x r q k. search (rules, tests)))
    ∙ ap (reduce min) (versions_seen c.args.reading.frame.now (planned c.args.reading.plan).items))
    ∙ lowest-picked (held c.args.reading).items
