-- Fields that are to be written, judged from the front, and read where they are written.
use Rattle.std.proofs.Common.{◌≡◌, ℕ, zero, suc, ◌+◌, ◌≤◌, Bool, true, false, leb, List, [], ◌∷◌, ◌++◌, length, Ok, Result, sym, refl, ap, ◌∙◌, subst, arith}
use Rattle.std.specs.List.{flat_map, AllByRecursion}
use Rattle.std.proofs.lemmas.List.{append_assoc, append-nil, length-append}
use Rattle.std.proofs.lemmas.Bool.{leb-true, le-leb}
use Rattle.fault.specs.declared.Fault.{Fault}
use Rattle.fault.specs.declared.Layer.{Layer}
use Rattle.fault.specs.declared.Cause.TheVariants.{Malformed}
use Rattle.fault.specs.Codes.{fault}
use Rattle.octets.specs.Numbers.{Bytes, limit, be, number_at}
use Rattle.octets.specs.Parts.{part_at}
use Rattle.octets.proofs.NumberLaws.{length-be, number-found}
use Rattle.record.specs.Chains.{unless}
use Rattle.record.specs.Formats.{Format, number, string, done, ◌>>=◌, repeat, Field, num, str, written, Fields, walk}
use Rattle.record.specs.Writing.{judge, Fitting}
use Rattle.record.proofs.Steps.{passed, pass}
use Rattle.record.proofs.Walks.{number_step, number_bad, string-step, part_there, fronted, moved, room}

-- each string is of bytes
abbrev pub Strings : List Field → Type 0
Strings [] = Unit {0}
Strings (num w n ∷ fs) = Strings fs
Strings (str s ∷ fs) = Bytes s × Strings fs

front_bytes : (xs ys : List ℕ) → Bytes (xs ++ ys) → Bytes xs
front_bytes [] ys h i = omega arith
front_bytes (x ∷ xs) ys h zero = h 0
front_bytes (x ∷ xs) ys h (suc i) = front_bytes xs ys (λ j. h (suc j)) i

rest-bytes : (xs ys : List ℕ) → Bytes (xs ++ ys) → Bytes ys
rest-bytes [] ys h = h
rest-bytes (x ∷ xs) ys h = rest-bytes xs ys (λ j. h (suc j))

-- what lies in a buffer is of bytes
pub strings : (fs : List Field) (rest : List ℕ) → Bytes (written fs ++ rest) → Strings fs
strings [] rest h = tt
strings (num w n ∷ fs) rest h = strings fs rest (rest-bytes (be w n) (written fs ++ rest) (subst Bytes (append_assoc (be w n) (written fs) rest) h))
strings (str s ∷ fs) rest h =
    let all = subst Bytes (append_assoc s (written fs) rest) h in
    (front_bytes s (written fs ++ rest) all, strings fs rest (rest-bytes s (written fs ++ rest) all))

-- fs are the fields of b, in range or not
abbrev pub Exact : {A : Type 0} → Format A → List Field → A → Type 0
Exact (number w ok next) [] b = ⊥
Exact (number w ok next) (num v n ∷ fs) b = (v ≡ w) × (n ≤ limit w → ok n ≡ true → Exact (next n) fs b)
Exact (number w ok next) (str s ∷ fs) b = ⊥
Exact (string n next) [] b = ⊥
Exact (string n next) (num v m ∷ fs) b = ⊥
Exact (string n next) (str s ∷ fs) b = (length s ≡ n) × Exact (next s) fs b
Exact (done a) [] b = a ≡ b
Exact (done a) (f ∷ fs) b = ⊥

module _ {A B : Type 0} (k : A → Format B) where
  pub exact_bind : (f : Format A) (xs ys : List Field) (a : A) (b : B) → Exact f xs a → Exact (k a) ys b → Exact (f >>= k) (xs ++ ys) b
  exact_bind (number w ok next) [] ys a b h g = absurd h
  exact_bind (number w ok next) (num v n ∷ xs) ys a b h g = (h.0, λ fits e. exact_bind (next n) xs ys a b (h.1 fits e) g)
  exact_bind (number w ok next) (str s ∷ xs) ys a b h g = absurd h
  exact_bind (string n next) [] ys a b h g = absurd h
  exact_bind (string n next) (num v m ∷ xs) ys a b h g = absurd h
  exact_bind (string n next) (str s ∷ xs) ys a b h g = (h.0, exact_bind (next s) xs ys a b h.1 g)
  exact_bind (done c) [] ys a b h g = subst (λ x. Exact (k x) ys b) (sym h) g
  exact_bind (done c) (f ∷ xs) ys a b h g = absurd h

pub exact_repeat : {A : Type 0} (f : Format A) (fields : A → List Field) (Fit : A → Type 0) → ((a : A) → Fit a → Exact f (fields a) a) → (xs : List A) → AllByRecursion Fit xs → Exact (repeat (length xs) f) (flat_map fields xs) xs
exact_repeat f fields Fit c [] h = refl
exact_repeat f fields Fit c (x ∷ xs) h =
    exact_bind (λ y. repeat (length xs) f >>= (λ ys. done (y ∷ ys))) f (fields x) (flat_map fields xs) x (x ∷ xs) (c x h.0)
    (subst (λ l. Exact (repeat (length xs) f >>= (λ ys. done (x ∷ ys))) l (x ∷ xs)) (append-nil (flat_map fields xs))
    (exact_bind (λ ys. done (x ∷ ys)) (repeat (length xs) f) (flat_map fields xs) [] xs (x ∷ xs) (exact_repeat f fields Fit c xs h.1) refl))

module _ {A B : Type 0} (l : Layer) (k : A → List Field → ℕ → Result B Fault) where
  -- fields that pass are a frame in range
  pub judged-frame : (f : Format A) (fs gs : List Field) (b : A) (at : ℕ) (y : B) → Exact f fs b → Strings fs → judge l f k (fs ++ gs) at ≡ Ok y → Fields f fs b × (k b gs (at + length (written fs)) ≡ Ok y)
  judged-frame (number w ok next) [] gs b at y x t h = absurd x
  judged-frame (number w ok next) (num v n ∷ fs) gs b at y x t h =
      let one = passed (leb n (limit w)) (fault Malformed l at) (unless (ok n) (fault Malformed l at) (judge l (next n) k (fs ++ gs) (at + w))) y h in
      let two = passed (ok n) (fault Malformed l at) (judge l (next n) k (fs ++ gs) (at + w)) y one.1 in
      let fits = leb-true n (limit w) one.0 in
      let rec = judged-frame (next n) fs gs b (at + w) y (x.1 fits two.0) t two.1 in
      let e : at + w + length (written fs) ≡ at + length (be v n ++ written fs) = omega (arith, length-append (be v n) (written fs), length-be v n, x.0) in
      ((x.0, fits, two.0, rec.0), ap (k b gs) (sym e) ∙ rec.1)
  judged-frame (number w ok next) (str s ∷ fs) gs b at y x t h = absurd x
  judged-frame (string n next) [] gs b at y x t h = absurd x
  judged-frame (string n next) (num v m ∷ fs) gs b at y x t h = absurd x
  judged-frame (string n next) (str s ∷ fs) gs b at y x t h =
      let one = passed (leb n (length s)) (fault Malformed l (at + length s)) (unless (leb (length s) n) (fault Malformed l (at + n)) (judge l (next s) k (fs ++ gs) (at + n))) y h in
      let two = passed (leb (length s) n) (fault Malformed l (at + n)) (judge l (next s) k (fs ++ gs) (at + n)) y one.1 in
      let rec = judged-frame (next s) fs gs b (at + n) y x.1 t.1 two.1 in
      let e : at + n + length (written fs) ≡ at + length (s ++ written fs) = omega (arith, length-append s (written fs), x.0) in
      ((x.0, t.0, rec.0), ap (k b gs) (sym e) ∙ rec.1)
  judged-frame (done a) [] gs b at y x t h = let e : at ≡ at + 0 = omega arith in (x, (λ i. k (sym x i) gs (sym e i)) ∙ h)
  judged-frame (done a) (f ∷ fs) gs b at y x t h = absurd x

module _ {A B : Type 0} (l : Layer) (k : A → ℕ → Result B Fault) (m : A → List Field → ℕ → Result B Fault) (gs : List Field) where
  shift : (g : Format A) (pre post b r : List ℕ) (w : ℕ) (s : Result B Fault) → length b ≡ w
      → walk l g k ((pre ++ b) ++ (r ++ post)) (length (pre ++ b)) ≡ s
      → walk l g k (pre ++ ((b ++ r) ++ post)) (length pre + w) ≡ s
  shift g pre post b r w s e rec =
      let q = moved pre post b r in
      let x : length (pre ++ b) ≡ length pre + w = length-append pre b ∙ ap (λ j. length pre + j) e in
      (λ i. walk l g k (sym q i) (sym x i)) ∙ rec

  -- a reader says of the bytes what the judge says of the fields
  pub same_place : (f : Format A) (pre post : List ℕ) (fs : List Field) (b : A) → Exact f fs b → Fitting fs → ((e : ℕ) → e ≡ length pre + length (written fs) → k b e ≡ m b gs e) → walk l f k (pre ++ (written fs ++ post)) (length pre) ≡ judge l f m (fs ++ gs) (length pre)
  same_place (number w ok next) pre post [] b x t h = absurd x
  same_place (number w ok next) pre post (num v n ∷ fs) b x t h = by_test (ok n) refl (λ e. same_place (next n) (pre ++ be v n) post fs b (x.1 fits e) t.1 (λ j q. h j (q ∙ ends)))
    where
      bytes : List ℕ
      bytes = pre ++ ((be v n ++ written fs) ++ post)

      fits : n ≤ limit w
      fits = subst (λ y. n ≤ limit y) x.0 t.0

      wide : length (be v n) ≡ w
      wide = length-be v n ∙ x.0

      ends : length (pre ++ be v n) + length (written fs) ≡ length pre + length (be v n ++ written fs)
      ends = omega (arith, length-append pre (be v n), length-append (be v n) (written fs))

      there : number_at bytes (length pre) w ≡ n
      there = subst (λ y. number_at bytes (length pre) y ≡ n) x.0 (subst (λ q. number_at q (length pre) v ≡ n) (fronted pre post (be v n) (written fs)) (number-found pre (written fs ++ post) v n t.0))

      space : length pre + w ≤ length bytes
      space = omega (arith, room pre post (be v n) (written fs), wide)

      fault_here : Fault
      fault_here = fault Malformed l (length pre)

      by_test : (c : Bool) → ok n ≡ c
          → (ok n ≡ true → walk l (next n) k ((pre ++ be v n) ++ (written fs ++ post)) (length (pre ++ be v n)) ≡ judge l (next n) m (fs ++ gs) (length (pre ++ be v n)))
          → walk l (number w ok next) k bytes (length pre) ≡ judge l (number w ok next) m (num v n ∷ (fs ++ gs)) (length pre)
      by_test true e rec =
          let at : length (pre ++ be v n) ≡ length pre + w = length-append pre (be v n) ∙ ap (λ j. length pre + j) wide in
          let rest = judge l (next n) m (fs ++ gs) (length pre + w) in
          number_step l k bytes (length pre) w n ok next space there e
          ∙ shift (next n) pre post (be v n) (written fs) w rest wide (rec e ∙ ap (judge l (next n) m (fs ++ gs)) at)
          ∙ sym (pass (leb n (limit w)) fault_here (unless (ok n) fault_here rest) (le-leb n (limit w) fits) ∙ pass (ok n) fault_here rest e)
      by_test false e rec =
          let rest = judge l (next n) m (fs ++ gs) (length pre + w) in
          number_bad l k bytes (length pre) w n ok next space there e
          ∙ sym (pass (leb n (limit w)) fault_here (unless (ok n) fault_here rest) (le-leb n (limit w) fits) ∙ ap (λ c. unless c fault_here rest) e)
  same_place (number w ok next) pre post (str s ∷ fs) b x t h = absurd x
  same_place (string n next) pre post [] b x t h = absurd x
  same_place (string n next) pre post (num v q ∷ fs) b x t h = absurd x
  same_place (string n next) pre post (str s ∷ fs) b x t h =
      let bytes = pre ++ ((s ++ written fs) ++ post) in
      let ends : length (pre ++ s) + length (written fs) ≡ length pre + length (s ++ written fs) = omega (arith, length-append pre s, length-append s (written fs)) in
      let there = subst (λ q. part_at q (length pre) n ≡ s) (fronted pre post s (written fs)) (part_there pre (written fs ++ post) s n x.0) in
      let space : length pre + n ≤ length bytes = omega (arith, room pre post s (written fs), x.0) in
      let at : length (pre ++ s) ≡ length pre + n = length-append pre s ∙ ap (λ j. length pre + j) x.0 in
      let rest = judge l (next s) m (fs ++ gs) (length pre + n) in
      let short = fault Malformed l (length pre + length s) in
      let long = fault Malformed l (length pre + n) in
      string-step l k bytes (length pre) n s next space there
      ∙ shift (next s) pre post s (written fs) n rest x.0 (same_place (next s) (pre ++ s) post fs b x.1 t (λ j q. h j (q ∙ ends)) ∙ ap (judge l (next s) m (fs ++ gs)) at)
      ∙ sym (pass (leb n (length s)) short (unless (leb (length s) n) long rest) (le-leb n (length s) (omega (arith, x.0))) ∙ pass (leb (length s) n) long rest (le-leb (length s) n (omega (arith, x.0))))
  same_place (done a) pre post [] b x t h = let z : length pre ≡ length pre + 0 = omega arith in (λ i. k (x i) (length pre)) ∙ h (length pre) z ∙ (λ i. m (sym x i) gs (length pre))
  same_place (done a) pre post (f ∷ fs) b x t h = absurd x
