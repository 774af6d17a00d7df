-- Rule 1 and then the other rules.
use Rattle.std.proofs.Common.{◌≡◌, ℕ, ◌+◌, Bool, true, false, leb, List, [], ◌∷◌, ◌++◌, length, Ok, Err, Result, sym, refl, ap, ◌∙◌, inl, inr, arith}
use Rattle.fault.specs.declared.Fault.{Fault}
use Rattle.fault.specs.declared.Layer.{Layer}
use Rattle.fault.specs.declared.Cause.TheVariants.{Malformed}
use Rattle.fault.specs.Codes.{fault}
use Rattle.octets.specs.Numbers.{Bytes, number_at}
use Rattle.octets.specs.Parts.{part_at}
use Rattle.record.specs.Chains.{unless, after, and_then, guards}
use Rattle.record.specs.Formats.{Format, number, string, done, ◌>>=◌, walk, closing, no_rules, read_by, formed}
use Rattle.record.specs.Refusals.{Says, Judged}
use Rattle.record.proofs.Steps.{passed, then_ok, then_err}
use Rattle.record.proofs.Paths.{Live}
use Rattle.record.proofs.Rule1.{says, only}

pub unless_then : {A B : Type 0} (b : Bool) (f : Fault) (r : Result A Fault) (g : A → Result B Fault) → and_then (unless b f r) g ≡ unless b f (and_then r g)
unless_then true f r g = refl
unless_then false f r g = refl

module _ {A B C : Type 0} (l : Layer) (bs : List ℕ) (g : B → Result C Fault) where
  -- what comes of a walk comes of its end
  pub walk_then : (f : Format A) (k : A → ℕ → Result B Fault) (m : A → ℕ → Result C Fault) (at : ℕ) → ((a : A) (e : ℕ) → m a e ≡ and_then (k a e) g) → walk l f m bs at ≡ and_then (walk l f k bs at) g
  walk_then (number w ok next) k m at h =
      let v = number_at bs at w in
      let s = fault Malformed l (length bs) in
      let p = fault Malformed l at in
      ap (λ r. unless (leb (at + w) (length bs)) s (unless (ok v) p r)) (walk_then (next v) k m (at + w) h)
      ∙ ap (unless (leb (at + w) (length bs)) s) (sym (unless_then (ok v) p (walk l (next v) k bs (at + w)) g))
      ∙ sym (unless_then (leb (at + w) (length bs)) s (unless (ok v) p (walk l (next v) k bs (at + w))) g)
  walk_then (string n next) k m at h =
      let v = part_at bs at n in
      let s = fault Malformed l (length bs) in
      ap (unless (leb (at + n) (length bs)) s) (walk_then (next v) k m (at + n) h)
      ∙ sym (unless_then (leb (at + n) (length bs)) s (walk l (next v) k bs (at + n)) g)
  walk_then (done a) k m at h = h a at

-- a walk over one format behind another
pub walk_bind : {A B C : Type 0} (l : Layer) (bs : List ℕ) (f : Format A) (h : A → Format B) (k : B → ℕ → Result C Fault) (at : ℕ) → walk l (f >>= h) k bs at ≡ walk l f (λ a e. walk l (h a) k bs e) bs at
walk_bind l bs (number w ok next) h k at = ap (λ r. unless (leb (at + w) (length bs)) (fault Malformed l (length bs)) (unless (ok (number_at bs at w)) (fault Malformed l at) r)) (walk_bind l bs (next (number_at bs at w)) h k (at + w))
walk_bind l bs (string n next) h k at = ap (unless (leb (at + n) (length bs)) (fault Malformed l (length bs))) (walk_bind l bs (next (part_at bs at n)) h k (at + n))
walk_bind l bs (done a) h k at = refl

module _ {A : Type 0} (l : Layer) (f : Format A) (rules : A → List (Bool × Fault)) (bs : List ℕ) where
  -- all of rule 1 first
  pub read_split : read_by l f rules bs ≡ and_then (formed l f bs) (λ a. guards (rules a) (Ok a))
  read_split = walk_then l bs (λ a. guards (rules a) (Ok a)) f (closing l no_rules bs) (closing l rules bs) 0
      (λ a e. sym (unless_then (leb (length bs) e) (fault Malformed l e) (Ok a) (λ x. guards (rules x) (Ok x))))

  pub judged : Live f → Bytes bs → Judged l f rules bs (read_by l f rules bs)
  judged live all = go (formed l f bs) refl (says l f bs live all)
    where
      go : (r : Result A Fault) → formed l f bs ≡ r → Says l f bs r → Judged l f rules bs (read_by l f rules bs)
      go (Ok a) e h = inr (a, h, read_split ∙ then_ok _ _ a e)
      go (Err x) e h = inl (x, read_split ∙ then_err _ _ x e, h)

  -- and rule 1 with the other rules says one thing only
  pub judged-only : (r : Result A Fault) → Live f → Judged l f rules bs r → r ≡ read_by l f rules bs
  judged-only r live (inl h) = h.1 ∙ sym (read_split ∙ then_err _ _ h.0 (sym (only l f bs (Err h.0) live h.2)))
  judged-only r live (inr h) = h.2 ∙ sym (read_split ∙ then_ok _ _ h.0 (sym (only l f bs (Ok h.0) live h.1)))

-- rows that all pass
pub guards_ok : {A : Type 0} (rows : List (Bool × Fault)) (x y : A) → guards rows (Ok x) ≡ Ok y → x ≡ y
guards_ok [] x y e = cc
guards_ok (row ∷ rows) x y e = guards_ok rows x y (passed row.0 row.1 (guards rows (Ok x)) y e).1

pub after-unless : {A B : Type 0} (b : Bool) (f : Fault) (r : Result A Fault) (t : Result B Fault) → after (unless b f r) t ≡ unless b f (after r t)
after-unless true f r t = refl
after-unless false f r t = refl

-- a table, and then another answer
pub guards-after : {A B : Type 0} (rows : List (Bool × Fault)) (x : A) (s : Result B Fault) → after (guards rows (Ok x)) s ≡ guards rows s
guards-after [] x s = refl
guards-after (row ∷ rows) x s = after-unless row.0 row.1 (guards rows (Ok x)) s ∙ ap (unless row.0 row.1) (guards-after rows x s)

pub guards-append : {A : Type 0} (xs ys : List (Bool × Fault)) (r : Result A Fault) → guards (xs ++ ys) r ≡ guards xs (guards ys r)
guards-append [] ys r = refl
guards-append (x ∷ xs) ys r = ap (unless x.0 x.1) (guards-append xs ys r)

pub after_then : {A B : Type 0} (r : Result A Fault) (s : Result B Fault) → and_then r (λ x. s) ≡ after r s
after_then (Ok x) s = refl
after_then (Err f) s = refl

pub then_then : {A B C : Type 0} (r : Result A Fault) (k : A → Result B Fault) (g : B → Result C Fault) → and_then (and_then r k) g ≡ and_then r (λ x. and_then (k x) g)
then_then (Ok x) k g = refl
then_then (Err f) k g = refl

pub then_same : {A B : Type 0} (r : Result A Fault) (k g : A → Result B Fault) → ((x : A) → r ≡ Ok x → k x ≡ g x) → and_then r k ≡ and_then r g
then_same (Ok x) k g h = h x refl
then_same (Err f) k g h = refl

-- every frame of the format has the same length
abbrev pub Fixed : {A : Type 0} → Format A → ℕ → Type 0
Fixed (number w ok next) n = (r : ℕ) × (n ≡ w + r) × ((v : ℕ) → Fixed (next v) r)
Fixed (string m next) n = (r : ℕ) × (n ≡ m + r) × ((s : List ℕ) → Fixed (next s) r)
Fixed (done a) n = n ≡ 0

pub walk_fixed : {A B : Type 0} (l : Layer) (bs : List ℕ) (f : Format A) (k : A → ℕ → Result B Fault) (n at : ℕ) → Fixed f n → walk l f k bs at ≡ walk l f (λ a e. k a (at + n)) bs at
walk_fixed l bs (number w ok next) k n at h =
    let z : at + w + h.0 ≡ at + n = omega (arith, h.1) in
    let v = number_at bs at w in
    ap (λ r. unless (leb (at + w) (length bs)) (fault Malformed l (length bs)) (unless (ok v) (fault Malformed l at) r))
    (walk_fixed l bs (next v) k h.0 (at + w) (h.2 v) ∙ ap (λ j. walk l (next v) (λ a e. k a j) bs (at + w)) z)
walk_fixed l bs (string m next) k n at h =
    let z : at + m + h.0 ≡ at + n = omega (arith, h.1) in
    let v = part_at bs at m in
    ap (unless (leb (at + m) (length bs)) (fault Malformed l (length bs)))
    (walk_fixed l bs (next v) k h.0 (at + m) (h.2 v) ∙ ap (λ j. walk l (next v) (λ a e. k a j) bs (at + m)) z)
walk_fixed l bs (done a) k n at h = let z : at ≡ at + n = omega arith in ap (k a) z
