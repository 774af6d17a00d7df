-- What the proof call does with the board as it is now.
use Rattle.std.specs.Prelude.{ℕ, ◌+◌, max, Bool, cond, ◌&&◌, map, length, take, Ok, Err, Result, nat_le, nat_lt}
use Rattle.fault.specs.declared.Fault.{Fault}
use Rattle.fault.specs.declared.Cause.TheVariants.{Evicted, Malformed, NoRoom, NotCommitted, Unsealed}
use Rattle.fault.specs.declared.Layer.TheVariants.{Board, Frame}
use Rattle.fault.specs.Codes.{fault}
use Rattle.record.specs.Chains.{after, tested}
use Rattle.entry.specs.Bodies.{SealedBody}
use Rattle.window.specs.declared.ring.Window.{Window}
use Rattle.window.specs.Windows.{entry_in, pairs_in, shares_in}
use Rattle.proof.specs.Bodies.{ProofBody, proof_bytes}
use Rattle.proof.specs.Writing.{weigh_proof}
use Rattle.history.specs.Entries.{versions}

-- a range that falls as given, a highest version that is not committed, a lowest that is evicted; a lowest 0 counts as 1
abbrev pub range_now : ℕ → ℕ → ℕ → Result (Unit {0}) Fault
range_now count low high =
    cond (nat_lt high low) (Err (fault Malformed Frame 3))
    (cond (nat_lt count high) (Err (fault NotCommitted Board 0))
    (cond (nat_lt 0 high && nat_le (max 1 low + 32) count) (Err (fault Evicted Board 0)) (Ok tt)))

-- a version has f + 1 shares or more, or it is refused by its number
abbrev pub sealed_row : Window → ℕ → ℕ → Bool × Fault
sealed_row w f v = (nat_lt f (shares_in w v), fault Unsealed Board v)

-- the entry of a version with its shares in order of signer, the first six where there are more
abbrev pub sealed_in : Window → ℕ → SealedBody
sealed_in w v = record { entry = entry_in w v; pairs = take 6 (pairs_in w v) }

-- the proof of the versions from low to high that the window holds
abbrev pub proof_in : Window → ℕ → ℕ → ProofBody
proof_in w low high = record { low = max 1 low; high = high; entries = map (sealed_in w) (versions (max 1 low) high) }

-- the room, then what the frame's writer refuses, else the frame's length
abbrev pub framed_now : ℕ → ProofBody → ℕ → Result ℕ Fault
framed_now f b room = cond (nat_lt room (length (proof_bytes 2 b))) (Err (fault NoRoom Board 0)) (after (weigh_proof 2 f b) (Ok (length (proof_bytes 2 b))))

-- the range, then each version from the lowest on, then the frame
abbrev pub proof_now : Window → ℕ → ℕ → ℕ → ℕ → ℕ → Result ℕ Fault
proof_now w f count low high room =
    after (range_now count low high)
    (after (tested (map (sealed_row w f) (versions (max 1 low) high))) (framed_now f (proof_in w low high) room))
