use Rattle.std.proofs.Common.{◌≡◌, eqb, find, reverse, ap, sym, ◌∙◌, rules, tests}
use Rattle.std.specs.Option.{option_map}
use Rattle.std.proofs.lemmas.Iterator.Adapters.{YieldsList-from_rev_slice}
use Rattle.std.proofs.lemmas.Iterator.Search.{find_from_yields_List}
use denote.Ref.{Bor}
use Rattle.log_store.specs.Records.{item_of}
use Rattle.log_store.specs.declared.records.LogRecord.{LogRecord}
use Rattle.log_store.proofs.Rows.{latest_none, latest_some}
use Rattle.log_store.proofs.records.newest.Goals as goal

pub returns-in-Some : goal.returns-in-Some
returns-in-Some c =
    let rs = c.args.records.now in
    let x = c.args.item.number in
    let found : option_map (λ (p : Bor LogRecord). p.now) c.find.result ≡ find (λ r. eqb (item_of r) x) (reverse rs) =
    find_from_yields_List (λ (r : LogRecord). eqb (item_of r) x) _ _ c.find.result c.find.ensures.ran (YieldsList-from_rev_slice rs cc) (λ r b q k. search (rules, tests)) in
    latest_some rs x c.in-Some.record.now (sym found ∙ ap (option_map (λ (p : Bor LogRecord). p.now)) c.in-Some.is)

pub returns-in-None : goal.returns-in-None
returns-in-None c =
    let rs = c.args.records.now in
    let x = c.args.item.number in
    let found : option_map (λ (p : Bor LogRecord). p.now) c.find.result ≡ find (λ r. eqb (item_of r) x) (reverse rs) =
    find_from_yields_List (λ (r : LogRecord). eqb (item_of r) x) _ _ c.find.result c.find.ensures.ran (YieldsList-from_rev_slice rs cc) (λ r b q k. search (rules, tests)) in
    c.blank.ensures ∙ latest_none rs x (sym found ∙ ap (option_map (λ (p : Bor LogRecord). p.now)) c.in-None.is)
