use Rattle.std.proofs.Common.{◌≡◌, ℕ, List, ap, ◌∙◌, arith}
use Rattle.siphash.specs.declared.State.{State}
use Rattle.siphash.specs.SipHash.{compressed, finalized, keyed, run}
use Rattle.siphash.proofs.Words.{sip-short, sip-long}
use Rattle.siphash.proofs.siphash.Goals as goal

-- the state after the whole words of the head
begun : (key whole : List ℕ) (n : ℕ) (s v : State) → s ≡ keyed key → v ≡ run 2 s whole n → v ≡ run 2 (keyed key) whole n
begun key whole n s v es ev = ev ∙ ap (λ (x : State). run 2 x whole n) es

pub returns-then-left-rest-lt8 : goal.returns-then-left-rest-lt8
returns-then-left-rest-lt8 c =
    let key : List ℕ = c.args.key.now in
    let head : List ℕ = c.args.head.now in
    let rest : List ℕ = c.args.rest.now in
    let whole : List ℕ = c.split_at.result.0.now in
    let left : List ℕ = c.split_at.result.1.now in
    sip-short key head rest whole left c.absorb-s.result c.length_byte-len.result c.last_word.result c.finalize.result c.split_at.ensures.by_index.0 (omega (arith, c.split_at.ensures.front_len))
    c.if-left-rest-lt8.true c.length_byte-len.ensures
    (begun key whole _ c.begin.result c.absorb-s.result c.begin.ensures c.absorb-s.ensures)
    c.last_word.ensures
    (c.finalize.ensures ∙ ap (finalized 4) c.compress.ensures)

pub returns : goal.returns
returns c =
    let key : List ℕ = c.args.key.now in
    let head : List ℕ = c.args.head.now in
    let rest : List ℕ = c.args.rest.now in
    let whole : List ℕ = c.split_at.result.0.now in
    let left : List ℕ = c.split_at.result.1.now in
    let fill : List ℕ = c.split_at-2.result.0.now in
    let more : List ℕ = c.split_at-2.result.1.now in
    let mid : List ℕ = c.split_at-3.result.0.now in
    let tail : List ℕ = c.split_at-3.result.1.now in
    sip-long key head rest whole left fill more mid tail c.absorb-s.result c.compress-s.result c.absorb.result c.length_byte-len.result c.last_word-2.result c.finalize-2.result
    c.split_at.ensures.by_index.0 (omega (arith, c.split_at.ensures.front_len))
    c.split_at-2.ensures.by_index.0 (omega (arith, c.split_at-2.ensures.front_len))
    c.split_at-3.ensures.by_index.0 (omega (arith, c.split_at-3.ensures.front_len))
    (omega (arith, c.split_at-3.ensures.back_len)) c.length_byte-len.ensures
    (begun key whole _ c.begin.result c.absorb-s.result c.begin.ensures c.absorb-s.ensures)
    (c.compress-s.ensures ∙ ap (λ (k : ℕ). compressed 2 k c.absorb-s.result) c.joined.ensures.value)
    c.absorb.ensures
    c.last_word-2.ensures
    (c.finalize-2.ensures ∙ ap (finalized 4) c.compress-2.ensures)
