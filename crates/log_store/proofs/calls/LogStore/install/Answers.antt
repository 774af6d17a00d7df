use Rattle.std.proofs.Common.{◌≡◌, List, [], ◌∷◌, ◌++◌, ap, ◌∙◌, rules}
use Rattle.inline_vec.specs.Lists.{items}
use Rattle.log_store.specs.Records.{item_of, latest, recorded}
use Rattle.log_store.specs.declared.records.LogRecord.{LogRecord}
use Rattle.log_store.proofs.Rows.{push_same, push_other}
use Rattle.log_store.proofs.Latest.{latest-roomy}
use Rattle.log_store.proofs.calls.LogStore.install.Goals as goal

pub returns-clause-sets : goal.returns-clause-sets
returns-clause-sets g c =
    let ys = items c.make_room.new.self.records in
    let r : LogRecord = recorded c.args.item c.args.row in
    let more : items c.push.new.self ≡ ys ++ r ∷ [] = search rules in
    ap (λ (ls : List LogRecord). latest ls (item_of r)) more ∙ push_same ys r

pub returns-clause-others : goal.returns-clause-others
returns-clause-others g c k ne =
    let ys = items c.make_room.new.self.records in
    let r : LogRecord = recorded c.args.item c.args.row in
    let more : items c.push.new.self ≡ ys ++ r ∷ [] = search rules in
    ap (λ (ls : List LogRecord). latest ls k) more ∙ push_other ys r k ne ∙ ap (λ (ls : List LogRecord). latest ls k) c.make_room.ensures.kept ∙ latest-roomy g.row.N _ k
