use Rattle.std.proofs.Common.{◌≡◌, ◌/◌, length}
use Rattle.std.specs.Slice.Iter.{chunks_exact_rest, chunks_exact_size}
use Rattle.siphash.specs.SipHash.{run}
use Rattle.siphash.proofs.absorb.Given as goal

-- the words that are left lead from the state so far to where all of them lead from the first
abbrev pub invariant-loop-block : goal.invariant-loop-block
invariant-loop-block l =
    (chunks_exact_size l.block-iterator ≡ 8)
    × (run 2 l.s (chunks_exact_rest l.block-iterator) (length (chunks_exact_rest l.block-iterator) / 8) ≡ run 2 l.initial.s l.m (length l.m / 8))
