use Rattle.std.proofs.Common.{◌≡◌, take}
use Rattle.digest.specs.Fnv.{hashed}
use Rattle.digest.proofs.fold.Given as goal

abbrev pub invariant-loop-b : goal.invariant-loop-b
invariant-loop-b l = l.hash ≡ hashed l.start (take l.b-index l.bytes)
