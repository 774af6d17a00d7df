use Rattle.std.proofs.Common.{◌≡◌}
use Rattle.std.specs.Slice.Iter.{chunks_exact_rest, chunks_exact_size}
use Rattle.sha256.specs.Hash.{after_all}
use Rattle.sha256.proofs.message.absorb.Given as goal

-- the blocks that are left make of the value so far what all of them make of the first
abbrev pub invariant-loop-block : goal.invariant-loop-block
invariant-loop-block l =
    (chunks_exact_size l.block-iterator ≡ 64) × (after_all l.h (chunks_exact_rest l.block-iterator) ≡ after_all l.initial.h l.m)
