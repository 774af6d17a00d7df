use Rattle.std.proofs.Common.{ℕ, ◌<◌, List, ◌++◌, map, length, drop, ap, ◌∙◌, arith}
use lib.Bits.{bit_xor}
use Rattle.std.proofs.lemmas.List.Edits.{map_over_more}
use Rattle.std.proofs.lemmas.List.{take_all, drop_all, append-nil, get_or_default}
use Rattle.hmac.specs.Hmac.{◌⊕◌}
use Rattle.hmac.proofs.mask.Goals as goal

pub loop-b-preserved : goal.loop-b-preserved
loop-b-preserved c =
    let lt : c.loop-b.b-index < length c.args.block.now = omega arith in
    let lk : c.loop-b.b-index < length c.loop-b.block = omega arith in
    map_over_more (bit_xor c.args.x) c.args.block.now c.loop-b.block c.loop-b.b-index _ lt c.loop-b.invariant
    (get_or_default c.loop-b.block c.loop-b.b-index 0 _ lk)

pub returns : goal.returns
unfolding ◌⊕◌
returns c =
    let b : List ℕ = c.args.block.now in
    let t = take_all c.loop-b.b-index b (omega arith) in
    let d = drop_all c.loop-b.b-index b (omega arith) in
    c.loop-b.invariant ∙ ap (λ (xs : List ℕ). map (bit_xor c.args.x) xs ++ drop c.loop-b.b-index b) t
    ∙ ap (λ (ys : List ℕ). map (bit_xor c.args.x) b ++ ys) d ∙ append-nil (map (bit_xor c.args.x) b)
