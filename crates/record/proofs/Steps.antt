-- Chains of checks, one step at a time.
use Rattle.std.proofs.Common.{◌≡◌, ℕ, Bool, true, false, Ok, Err, Result, refl, ap, arith}
use Rattle.fault.specs.declared.Fault.{Fault}
use Rattle.record.specs.Chains.{unless, after, and_then}

module _ {A : Type 0} where
  pub never : {P : Type 0} (f : Fault) (x : A) → Err f ≡ Ok x → P
  never f x e = let z : ◌≡◌ {A = ℕ} 0 1 = cc in absurd (omega arith)

  pub same_ok : (x y : A) → ◌≡◌ {A = Result A Fault} (Ok x) (Ok y) → x ≡ y
  same_ok x y e = cc

  pub pass : (b : Bool) (f : Fault) (r : Result A Fault) → b ≡ true → unless b f r ≡ r
  pass b f r e = ap (λ c. unless c f r) e

  pub refuse : (b : Bool) (f : Fault) (r : Result A Fault) → b ≡ false → unless b f r ≡ Err f
  refuse b f r e = ap (λ c. unless c f r) e

  pub passed : (b : Bool) (f : Fault) (r : Result A Fault) (x : A) → unless b f r ≡ Ok x → (b ≡ true) × (r ≡ Ok x)
  passed true f r x e = (refl, e)
  passed false f r x e = never f x e

  pub then_ok : {B : Type 0} (r : Result A Fault) (k : A → Result B Fault) (x : A) → r ≡ Ok x → and_then r k ≡ k x
  then_ok r k x e = ap (λ s. and_then s k) e

  pub then_err : {B : Type 0} (r : Result A Fault) (k : A → Result B Fault) (f : Fault) → r ≡ Err f → and_then r k ≡ Err f
  then_err r k f e = ap (λ s. and_then s k) e

pub then_some : {A B : Type 0} (r : Result A Fault) (k : A → Result B Fault) (y : B) → and_then r k ≡ Ok y → (x : A) × (r ≡ Ok x) × (k x ≡ Ok y)
then_some (Ok x) k y e = (x, refl, e)
then_some (Err f) k y e = never f y e

pub after-some : {A B : Type 0} (r : Result A Fault) (s : Result B Fault) (y : B) → after r s ≡ Ok y → (x : A) × (r ≡ Ok x) × (s ≡ Ok y)
after-some (Ok x) s y e = (x, refl, e)
after-some (Err f) s y e = never f y e
