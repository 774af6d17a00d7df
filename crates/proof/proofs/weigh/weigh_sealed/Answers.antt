use Rattle.std.proofs.Common.{◌≡◌, ◌+◌, length, Some, None, Err, sym, ap, ◌∙◌, arith}
use Rattle.std.proofs.lemmas.Result.{err_from_is_err_and}
use Rattle.record.proofs.Steps.{then_ok, then_err}
use Rattle.entry.specs.Bodies.{entry_body, item_body, pair_body, sealed_body}
use Rattle.proof.specs.Rules.{item_number, pair_number}
use Rattle.proof.specs.Writing.{weigh_records}
use Rattle.proof.proofs.WeighTurns.{weigh_map, sealed_weighed}
use Rattle.proof.proofs.weigh.weigh_sealed.Goals as goal
use Rattle.proof.proofs.weigh.weigh_sealed.Goals.{After-weigh_records}

-- the entry is the sealed one's
same-entry : (c : After-weigh_records) → entry_body c.entry-body.result ≡ (sealed_body c.args.sealed.now).entry
same-entry c = ap entry_body c.entry-body.ensures

count : (c : After-weigh_records) → c.len-count.result ≡ length (sealed_body c.args.sealed.now).entry.items
count c = c.len-count.ensures.0 ∙ ap (λ b. length b.items) (same-entry c)

-- its items are weighed
items_weighed : (c : After-weigh_records) → c.weigh_records.result ≡ weigh_records item_number 63 32 None (length (sealed_body c.args.sealed.now).entry.items) None (sealed_body c.args.sealed.now).entry.items (c.args.at + 2 + 1)
items_weighed c =
    let k = c.items-2.ensures in
    let b = (sealed_body c.args.sealed.now).entry in
    let xs = c.items.result.now in
    let n = count c in
    let start : c.args.at + 3 ≡ c.args.at + 2 + 1 = omega arith in
    c.weigh_records.ensures.answer
    ∙ (λ i. weigh_records (λ x. x.item) (k.0 i) (k.1 i) (k.2 i) (n i) None xs (start i))
    ∙ weigh_map item_body item_number 63 32 None (length b.items) None xs (c.args.at + 2 + 1)
    ∙ ap (λ l. weigh_records item_number 63 32 None (length b.items) None l (c.args.at + 2 + 1)) (c.items.ensures.0 ∙ ap (λ e. e.items) (same-entry c))

pub returns-in_err-pairs_at-clause-answer : goal.returns-in_err-pairs_at-clause-answer
returns-in_err-pairs_at-clause-answer c =
    let w = (goal.at.returns-in_err-pairs_at-clause-answer c).After-weigh_records in
    let b = sealed_body c.args.sealed.now in
    let f = c.args.f in
    let p = err_from_is_err_and c.from_residual.result c.from_residual.ensures.1 in
    let dated : b.entry.version ≡ c.args.due = ap (λ e. e.version) (sym (same-entry w)) ∙ sym c.version.ensures.0 ∙ c.if-version-due.false in
    let all = sealed_weighed 2 f c.args.due b c.args.at dated (omega (arith, count w, c.if-count-lt1.false)) (omega (arith, count w, c.len-count.ensures.1)) in
    p.1 ∙ ap Err p.2 ∙ sym (all ∙ then_err _ (λ e. weigh_records pair_number 255 16 (Some f) (f + 1) None b.pairs e) _ (sym (items_weighed w) ∙ c.in_err-pairs_at.was))

pub returns-clause-answer : goal.returns-clause-answer
returns-clause-answer c =
    let w = (goal.at.returns-clause-answer c).After-weigh_records in
    let b = sealed_body c.args.sealed.now in
    let f = c.args.f in
    let k = c.pairs-2.ensures in
    let mid = c.in_ok-pairs_at.pairs_at in
    let dated : b.entry.version ≡ c.args.due = ap (λ e. e.version) (sym (same-entry w)) ∙ sym c.version.ensures.0 ∙ c.if-version-due.false in
    let all = sealed_weighed 2 f c.args.due b c.args.at dated (omega (arith, count w, c.if-count-lt1.false)) (omega (arith, count w, c.len-count.ensures.1)) in
    let ps = c.pairs.result.now in
    let pairs =
    c.weigh_records-2.ensures.answer
    ∙ (λ i. weigh_records (λ x. x.signer) (k.0 i) (k.1 i) (k.2 i) (f + 1) None ps mid)
    ∙ weigh_map pair_body pair_number 255 16 (Some f) (f + 1) None ps mid
    ∙ ap (λ l. weigh_records pair_number 255 16 (Some f) (f + 1) None l mid) c.pairs.ensures.0
    in
    pairs ∙ sym (all ∙ then_ok _ (λ e. weigh_records pair_number 255 16 (Some f) (f + 1) None b.pairs e) mid (sym (items_weighed w) ∙ c.in_ok-pairs_at.was))
