-- Records and the fields of their frames.
use Rattle.std.proofs.Common.{◌≡◌, ℕ, zero, suc, ◌≤◌, true, List, [], ◌∷◌, ◌++◌, length, sym, refl, ap, ◌∙◌, subst, arith}
use Rattle.std.specs.List.{flat_map, AllByRecursion}
use Rattle.std.proofs.lemmas.List.{append-nil}
use Rattle.octets.specs.Numbers.{Bytes, limit}
use Rattle.record.specs.Formats.{Format, number, string, done, ◌>>=◌, repeat, Field, num, str, Fields}

-- a frame's fields one by one: the value and its range, then the fields behind it
abbrev pub Opened : {A : Type 0} → Format A → List Field → A → Type 0
Opened (number w ok next) fs a = (n : ℕ) × (n ≤ limit w) × (ok n ≡ true) × ((gs : List Field) × (fs ≡ num w n ∷ gs) × Opened (next n) gs a)
Opened (string n next) fs a = (s : List ℕ) × (length s ≡ n) × Bytes s × ((gs : List Field) × (fs ≡ str s ∷ gs) × Opened (next s) gs a)
Opened (done b) fs a = (fs ≡ []) × (b ≡ a)

pub opened : {A : Type 0} (f : Format A) (fs : List Field) (a : A) → Fields f fs a → Opened f fs a
opened (number w ok next) [] a h = absurd h
opened (number w ok next) (num v n ∷ fs) a h = (n, h.1, h.2, (fs, ap (λ x. num x n ∷ fs) h.0, opened (next n) fs a h.3))
opened (number w ok next) (str s ∷ fs) a h = absurd h
opened (string n next) [] a h = absurd h
opened (string n next) (num v m ∷ fs) a h = absurd h
opened (string n next) (str s ∷ fs) a h = (s, h.0, h.1, (fs, refl, opened (next s) fs a h.2))
opened (done b) [] a h = (refl, h)
opened (done b) (f ∷ fs) a h = absurd h

-- the fields of one format behind another
pub record Two {A B : Type 0} (f : Format A) (k : A → Format B) (fs : List Field) (b : B) : Type 0 where
  pub front : List Field
  pub rest : List Field
  pub is : fs ≡ front ++ rest
  pub holds : A
  pub first : Fields f front holds
  pub second : Fields (k holds) rest b

module _ {A B : Type 0} (k : A → Format B) where
  pub two : (f : Format A) (fs : List Field) (b : B) → Fields (f >>= k) fs b → Two f k fs b
  two (number w ok next) [] b h = absurd h
  two (number w ok next) (num v n ∷ fs) b h =
      let t = two (next n) fs b h.3 in
      record { front = num v n ∷ t.front; rest = t.rest; is = ap (λ l. num v n ∷ l) t.is; holds = t.holds; first = (h.0, h.1, h.2, t.first); second = t.second }
  two (number w ok next) (str s ∷ fs) b h = absurd h
  two (string n next) [] b h = absurd h
  two (string n next) (num v m ∷ fs) b h = absurd h
  two (string n next) (str s ∷ fs) b h =
      let t = two (next s) fs b h.2 in
      record { front = str s ∷ t.front; rest = t.rest; is = ap (λ l. str s ∷ l) t.is; holds = t.holds; first = (h.0, h.1, t.first); second = t.second }
  two (done a) fs b h = record { front = []; rest = fs; is = refl; holds = a; first = refl; second = h }

  pub joins : (f : Format A) (xs ys : List Field) (a : A) (b : B) → Fields f xs a → Fields (k a) ys b → Fields (f >>= k) (xs ++ ys) b
  joins (number w ok next) [] ys a b h g = absurd h
  joins (number w ok next) (num v n ∷ xs) ys a b h g = (h.0, h.1, h.2, joins (next n) xs ys a b h.3 g)
  joins (number w ok next) (str s ∷ xs) ys a b h g = absurd h
  joins (string n next) [] ys a b h g = absurd h
  joins (string n next) (num v m ∷ xs) ys a b h g = absurd h
  joins (string n next) (str s ∷ xs) ys a b h g = (h.0, h.1, joins (next s) xs ys a b h.2 g)
  joins (done c) [] ys a b h g = subst (λ x. Fields (k x) ys b) (sym h) g
  joins (done c) (f ∷ xs) ys a b h g = absurd h

-- a format's frames in range are the fields of the records in range
pub record Coding {A : Type 0} (f : Format A) (fields : A → List Field) (In : A → Type 0) : Type 0 where
  pub of : (fs : List Field) (a : A) → Fields f fs a → (fs ≡ fields a) × In a
  pub to : (a : A) → In a → Fields f (fields a) a

module _ {A : Type 0} (f : Format A) (fields : A → List Field) (In : A → Type 0) (c : Coding f fields In) where
  all_of : (n : ℕ) (fs : List Field) (xs : List A) → Fields (repeat n f) fs xs → (fs ≡ flat_map fields xs) × (length xs ≡ n) × AllByRecursion In xs
  all_of zero fs [] h = ((opened (done []) fs [] h).0, refl, tt)
  all_of zero fs (x ∷ xs) h = let z : ◌≡◌ {A = List A} [] (x ∷ xs) = (opened (done []) fs (x ∷ xs) h).1 in let y : ◌≡◌ {A = ℕ} 0 1 = cc in absurd (omega arith)
  all_of (suc n) fs xs h =
      let t = two (λ y. repeat n f >>= (λ ys. done (y ∷ ys))) f fs xs h in
      let u = two (λ ys. done (t.holds ∷ ys)) (repeat n f) t.rest xs t.second in
      let v = opened (done (t.holds ∷ u.holds)) u.rest xs u.second in
      let one = c.of t.front t.holds t.first in
      let rest = all_of n u.front u.holds u.first in
      let same : t.rest ≡ flat_map fields u.holds = u.is ∙ ap (λ l. u.front ++ l) v.0 ∙ append-nil u.front ∙ rest.0 in
      subst (λ ys. (fs ≡ flat_map fields ys) × (length ys ≡ suc n) × AllByRecursion In ys) v.1
      (t.is ∙ (λ i. one.0 i ++ same i), ap suc rest.1, (one.1, rest.2))

  all_to : (n : ℕ) (xs : List A) → length xs ≡ n → AllByRecursion In xs → Fields (repeat n f) (flat_map fields xs) xs
  all_to zero [] e h = refl
  all_to zero (x ∷ xs) e h = absurd (omega arith)
  all_to (suc n) [] e h = absurd (omega arith)
  all_to (suc n) (x ∷ xs) e h =
      joins (λ y. repeat n f >>= (λ ys. done (y ∷ ys))) f (fields x) (flat_map fields xs) x (x ∷ xs) (c.to x h.0)
      (subst (λ l. Fields (repeat n f >>= (λ ys. done (x ∷ ys))) l (x ∷ xs)) (append-nil (flat_map fields xs))
      (joins (λ ys. done (x ∷ ys)) (repeat n f) (flat_map fields xs) [] xs (x ∷ xs) (all_to n xs (omega arith) h.1) refl))

  pub repeated : (n : ℕ) → Coding (repeat n f) (flat_map fields) (λ xs. (length xs ≡ n) × AllByRecursion In xs)
  repeated n = record { of = λ fs xs h. ((all_of n fs xs h).0, ((all_of n fs xs h).1, (all_of n fs xs h).2)); to = λ xs h. all_to n xs h.0 h.1 }
