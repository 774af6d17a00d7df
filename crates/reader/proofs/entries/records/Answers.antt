use Rattle.std.proofs.Common.{◌≡◌, rules}
use Rattle.std.proofs.lemmas.Iterator.{cases_from_any}
use Rattle.entry.specs.Bodies.{ItemBody}
use Rattle.proof.proofs.Walking.{items_listed}
use Rattle.reader.proofs.Telling.{from_record, to_record, told}
use Rattle.reader.proofs.entries.records.Goals as goal
use borrow.Author.Tests.{tests}

pub returns : goal.returns
returns c = λ f at s h.
    let x = c.args.item in
    let d = c.args.digest.now in
    told (λ i. (i.item ≡ x) × (i.digest ≡ d)) s.entry _ (to_record s.entry x d) (from_record s.entry x d) c.any.result
    (cases_from_any _ _ _ (λ (i : ItemBody). (i.item ≡ x) × (i.digest ≡ d)) (λ (i : ItemBody). (i.item ≡ x) × (i.digest ≡ d) → ⊥) c.any.ensures.ran (items_listed s.entry.items _ (c.items.ensures f at s h)) (λ y q k. search (rules, tests)) (λ y q k. search (rules, tests)))
