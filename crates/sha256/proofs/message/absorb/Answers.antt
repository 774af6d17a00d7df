use Rattle.std.proofs.Common.{◌<◌, List, ℕ, length, sym, ap, ◌∙◌, arith}
use Rattle.std.specs.Slice.Iter.{chunks_exact_rest}
use Rattle.sha256.specs.Hash.{after_all}
use Rattle.sha256.proofs.Blocks.{first_block, all_taken}
use Rattle.sha256.proofs.message.absorb.Goals as goal

pub loop-block-preserved : goal.loop-block-preserved
loop-block-preserved c =
    let s = c.in-Some.ensures.steps in
    let before = c.loop-block.invariant in
    let left = chunks_exact_rest c.next.new.self in (
      s.0 ∙ before.0,
      ap (λ (h : List ℕ). after_all h left) c.compress-next.ensures
          ∙ sym (first_block c.loop-block.h c.in-Some.block.now left (s.1.1 ∙ before.0))
          ∙ ap (after_all c.loop-block.h) (sym s.1.0) ∙ before.1,
    )

pub returns : goal.returns
returns c =
    let s = c.in-None.ensures.steps in
    let left = chunks_exact_rest c.loop-block.block-iterator in
    let lt : length left < 64 = omega (arith, s.1.0, c.loop-block.invariant.0) in
    all_taken c.args.start c.args.m.now c.loop-block.h left lt c.loop-block.invariant.1
