use Rattle.std.proofs.Common.{◌≡◌, ◌+◌, None, Err, sym, ap, ◌∙◌, arith}
use Rattle.std.proofs.lemmas.Result.{err_from_is_err_and}
use Rattle.record.proofs.Steps.{then_ok, then_err}
use Rattle.proof.specs.Ends.{end_of, records_to, count_of}
use Rattle.proof.proofs.Turns.{sealed_split, records_end, pairs_end}
use Rattle.proof.proofs.scan.read_sealed.Goals as goal

pub returns-in_err-pairs_at-clause-answer : goal.returns-in_err-pairs_at-clause-answer
returns-in_err-pairs_at-clause-answer c =
    let p = err_from_is_err_and c.from_residual-in_err-pairs_at.result c.from_residual-in_err-pairs_at.ensures.1 in
    let bs = c.args.bytes.now in
    let f = c.args.f in
    let n = c.in_ok-count.count in
    let k = c.items.ensures in
    let start : c.args.at + 3 ≡ c.args.at + 2 + 1 = omega arith in
    let items = c.in_err-pairs_at.ensures.answer ∙ (λ i. end_of (records_to (k.0 i) (k.1 i) (k.2 i) n None) bs (start i)) in
    p.1
    ∙ ap Err p.2
    ∙ sym (sealed_split 2 f c.args.due bs c.args.at
    ∙ then_ok (count_of 2 c.args.due bs c.args.at) (records_end f bs (c.args.at + 2 + 1)) n (sym c.in_ok-count.ensures.answer)
    ∙ then_err (end_of (records_to 63 32 None n None) bs (c.args.at + 2 + 1)) (pairs_end f bs) _ (sym items))

pub returns-clause-answer : goal.returns-clause-answer
returns-clause-answer c =
    let bs = c.args.bytes.now in
    let f = c.args.f in
    let n = c.in_ok-count.count in
    let k = c.items.ensures in
    let j = c.pairs.ensures in
    let start : c.args.at + 3 ≡ c.args.at + 2 + 1 = omega arith in
    let items = c.in_ok-pairs_at.ensures.answer ∙ (λ i. end_of (records_to (k.0 i) (k.1 i) (k.2 i) n None) bs (start i)) in
    let mid = c.in_ok-pairs_at.pairs_at in
    let pairs = c.read_records-2.ensures.answer ∙ (λ i. end_of (records_to (j.0 i) (j.1 i) (j.2 i) (f + 1) None) bs mid) in
    pairs
    ∙ sym (sealed_split 2 f c.args.due bs c.args.at
    ∙ then_ok (count_of 2 c.args.due bs c.args.at) (records_end f bs (c.args.at + 2 + 1)) n (sym c.in_ok-count.ensures.answer)
    ∙ then_ok (end_of (records_to 63 32 None n None) bs (c.args.at + 2 + 1)) (pairs_end f bs) mid (sym items))
