use Rattle.std.proofs.Common.{◌≡◌, ℕ, ◌<◌, length, get_or}
use Rattle.sha256.specs.Block.{W, rounds}
use Rattle.sha256.proofs.block.compress.Given as goal

-- the words so far are the schedule's, and s is the state after t rounds
abbrev pub invariant-loop-t : goal.invariant-loop-t
invariant-loop-t l =
    (length l.w ≡ 64) × ((k : ℕ) → k < l.t → get_or l.w k 0 ≡ get_or (W l.bytes) k 0)
    × (l.s ≡ rounds (W l.bytes) l.h l.t)
