-- Write sets of one write.
use Rattle.std.proofs.Common.{ℕ, ◌≤◌, List, [], ◌∷◌, length, arith}
use Rattle.std.specs.List.Sorted.{IsStrictlyIncreasing}
use Rattle.octets.specs.Numbers.{Bytes}
use Rattle.request.specs.Bodies.{WriteBody}
use Rattle.worked.specs.Requests.{Carried}

abbrev pub one : ℕ → List ℕ → List WriteBody
one x v = record { item = x; value = v } ∷ []

pub one_climbs : (x : ℕ) → IsStrictlyIncreasing (x ∷ [])
one_climbs x k lt = absurd (omega arith)

pub carried_one : (x : ℕ) (v : List ℕ) → x ≤ 63 → length v ≤ 32 → Bytes v → Carried (one x v)
carried_one x v low short bytes = record {
  some = omega arith;
  few = omega arith;
  each = (record { item = low; value = short; bytes = bytes }, tt);
  rise = one_climbs x;
}
