use Rattle.std.proofs.Common.{◌≡◌, ℕ, ◌+◌, ◌^◌, ◌<◌, List, ◌++◌, length}
use Rattle.std.specs.Iterator.Adapters.{rev_source}
use Rattle.std.specs.Slice.Iter.{iter_rest}
use Rattle.siphash.specs.SipHash.{little}
use Rattle.siphash.proofs.prefixed.Given as goal

-- the word so far is the bytes that were taken from the back of b, and then `high`
abbrev pub invariant-loop-byte : goal.invariant-loop-byte
invariant-loop-byte l =
    (back : List ℕ) × (l.b ≡ iter_rest (rev_source l.byte-iterator) ++ back)
    × ((t : List ℕ) → l.high ≡ little t → l.w ≡ little (back ++ t))
    × ((k : ℕ) → l.high < 256 ^ k → l.w < 256 ^ (length back + k))
