-- How many boards there are.
use Rattle.std.specs.Prelude.{◌≡◌, ℕ, ◌+◌, ◌*◌, ◌≤◌, Ok, Err, Result}
use Rattle.fault.specs.Codes.{fault}
use Rattle.fault.specs.declared.Cause.TheVariants.{NotMember}
use Rattle.fault.specs.declared.Fault.{Fault}
use Rattle.fault.specs.declared.Layer.TheVariants.{Board}
use Rattle.cluster_size.specs.declared.ClusterSize.{ClusterSize}

-- one more than three times the boards that may be faulty
abbrev pub members : ℕ → ℕ
members f = 3 * f + 1

-- A size is made of f where f is 1 to 5, and refused where it is not.
abbrev pub Checked : ℕ → Result ClusterSize Fault → Type 0
Checked f (Ok size) = (1 ≤ f) × (f ≤ 5) × (size.f ≡ f)
Checked f (Err why) = (1 ≤ f → f ≤ 5 → ⊥) × (why ≡ fault NotMember Board 0)
