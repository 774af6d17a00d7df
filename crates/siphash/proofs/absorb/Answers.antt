use Rattle.std.proofs.Common.{ℕ, ◌/◌, ◌<◌, List, length, sym, ap, ◌∙◌, arith}
use Rattle.std.specs.Slice.Iter.{chunks_exact_rest}
use Rattle.siphash.specs.declared.State.{State}
use Rattle.siphash.specs.SipHash.{compressed, run}
use Rattle.siphash.proofs.Words.{one_more, none_left}
use Rattle.siphash.proofs.absorb.Goals as goal

pub loop-block-preserved : goal.loop-block-preserved
loop-block-preserved c =
    let s = c.in-Some.ensures.steps in
    let before = c.loop-block.invariant in
    let left = chunks_exact_rest c.next.new.self in (
      s.0 ∙ before.0,
      ap (λ (v : State). run 2 v left (length left / 8)) (c.compress-s.ensures ∙ ap (λ w. compressed 2 w c.loop-block.s) c.word.ensures)
          ∙ one_more 2 c.loop-block.s c.in-Some.block.now left (s.1.1 ∙ before.0)
          ∙ ap (λ (q : List ℕ). run 2 c.loop-block.s q (length q / 8)) (sym s.1.0) ∙ before.1,
    )

pub returns : goal.returns
returns c =
    let s = c.in-None.ensures.steps in
    let left = chunks_exact_rest c.loop-block.block-iterator in
    let lt : length left < 8 = omega (arith, s.1.0, c.loop-block.invariant.0) in
    none_left 2 c.loop-block.s left lt ∙ c.loop-block.invariant.1
