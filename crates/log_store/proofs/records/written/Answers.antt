use Rattle.std.proofs.Common.{◌≡◌, eqb, ◌∙◌, rules, tests}
use Rattle.std.specs.List.{list_any}
use Rattle.std.proofs.lemmas.Iterator.{YieldsList-from_slice}
use Rattle.std.proofs.lemmas.Iterator.Search.{any_from_yields_List}
use Rattle.log_store.specs.Records.{item_of}
use Rattle.log_store.specs.declared.records.LogRecord.{LogRecord}
use Rattle.log_store.proofs.Rows.{any-has}
use Rattle.log_store.proofs.records.written.Goals as goal

pub returns : goal.returns
returns c =
    let rs = c.args.records.now in
    let x = c.args.item.number in
    let any : c.any.result ≡ list_any (λ r. eqb (item_of r) x) rs =
    any_from_yields_List (λ (r : LogRecord). eqb (item_of r) x) _ _ c.any.result c.any.ensures.ran (YieldsList-from_slice rs cc) (λ r b q k. search (rules, tests)) in
    any ∙ any-has rs x
