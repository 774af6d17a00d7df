use Rattle.std.proofs.Common.{◌≡◌, rules}
use Rattle.std.proofs.lemmas.Iterator.{cases_from_any}
use Rattle.entry.specs.Bodies.{ItemBody}
use Rattle.proof.proofs.Walking.{items_listed}
use Rattle.reader.proofs.Telling.{from-item, to_item, told}
use Rattle.reader.proofs.entries.writes_item.Goals as goal
use borrow.Author.Tests.{tests}

pub returns : goal.returns
returns c = λ f at s h.
    let x = c.args.item in
    told (λ i. i.item ≡ x) s.entry _ (to_item s.entry x) (from-item s.entry x) c.any.result
    (cases_from_any _ _ _ (λ (i : ItemBody). i.item ≡ x) (λ (i : ItemBody). i.item ≡ x → ⊥) c.any.ensures.ran (items_listed s.entry.items _ (c.items.ensures f at s h)) (λ y q k. search (rules, tests)) (λ y q k. search (rules, tests)))
