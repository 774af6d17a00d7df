-- Tables of rows: the first that fails decides.
use Rattle.std.proofs.Common.{◌≡◌, ℕ, ◌≤◌, Bool, true, false, ◌⊎◌, List, [], ◌∷◌, ◌++◌, Ok, Err, Result, sym, refl, ap, ◌∙◌, subst, inl, inr, arith}
use Rattle.std.specs.List.{AllByRecursion}
use Rattle.std.proofs.lemmas.Bool.{true≢false}
use Rattle.fault.specs.declared.Fault.{Fault}
use Rattle.fault.specs.declared.Layer.{Layer}
use Rattle.fault.specs.Codes.{number}
use Rattle.record.specs.Chains.{unless, guards}
use Rattle.record.proofs.Steps.{passed, pass, refuse}
use Rattle.ruled.specs.Standing.{Among, Passes, Before}

pub among-left : {X : Type 0} (x : X) (xs ys : List X) → Among x xs → Among x (xs ++ ys)
among-left x [] ys h = absurd h
among-left x (y ∷ xs) ys (inl e) = inl e
among-left x (y ∷ xs) ys (inr h) = inr (among-left x xs ys h)

pub among_right : {X : Type 0} (x : X) (xs ys : List X) → Among x ys → Among x (xs ++ ys)
among_right x [] ys h = h
among_right x (y ∷ xs) ys h = inr (among_right x xs ys h)

pub among_cases : {X : Type 0} (x : X) (xs ys : List X) → Among x (xs ++ ys) → Among x xs ⊎ Among x ys
among_cases x [] ys h = inr h
among_cases x (y ∷ xs) ys (inl e) = inl (inl e)
among_cases x (y ∷ xs) ys (inr h) = elim (among_cases x xs ys h) [ inl a ↦ inl (inr a) | inr a ↦ inr a ]

pub every_append : {X : Type 0} (P : X → Type 0) (xs ys : List X) → AllByRecursion P xs → AllByRecursion P ys → AllByRecursion P (xs ++ ys)
every_append P [] ys h g = g
every_append P (x ∷ xs) ys h g = (h.0, every_append P xs ys h.1 g)

pub every-left : {X : Type 0} (P : X → Type 0) (xs ys : List X) → AllByRecursion P (xs ++ ys) → AllByRecursion P xs
every-left P [] ys h = tt
every-left P (x ∷ xs) ys h = (h.0, every-left P xs ys h.1)

pub every_right : {X : Type 0} (P : X → Type 0) (xs ys : List X) → AllByRecursion P (xs ++ ys) → AllByRecursion P ys
every_right P [] ys h = h
every_right P (x ∷ xs) ys h = every_right P xs ys h.1

-- a row that fails is not among rows that pass
pub none_fails : (rows : List (Bool × Fault)) (e : Fault) → AllByRecursion Passes rows → Among (false, e) rows → ⊥
none_fails [] e h a = a
none_fails (row ∷ rows) e h (inl same) = true≢false (sym h.0 ∙ ap (λ r. r.0) same)
none_fails (row ∷ rows) e h (inr a) = none_fails rows e h.1 a

module _ {B : Type 0} where
  pub guards-append : (xs ys : List (Bool × Fault)) (r : Result B Fault) → guards (xs ++ ys) r ≡ guards xs (guards ys r)
  guards-append [] ys r = refl
  guards-append (x ∷ xs) ys r = ap (unless x.0 x.1) (guards-append xs ys r)

  pub guards_pass : (rows : List (Bool × Fault)) (r : Result B Fault) → AllByRecursion Passes rows → guards rows r ≡ r
  guards_pass [] r h = refl
  guards_pass (row ∷ rows) r h = pass row.0 row.1 (guards rows r) h.0 ∙ guards_pass rows r h.1

  pub guards_passed : (rows : List (Bool × Fault)) (r : Result B Fault) (y : B) → guards rows r ≡ Ok y → AllByRecursion Passes rows × (r ≡ Ok y)
  guards_passed [] r y e = (tt, e)
  guards_passed (row ∷ rows) r y e =
      let p = passed row.0 row.1 (guards rows r) y e in
      let q = guards_passed rows r y p.1 in
      ((p.0, q.0), q.1)

  -- either all pass, or one fails and is answered
  pub record Fails (rows : List (Bool × Fault)) (r : Result B Fault) : Type 0 where
    pub fault : Fault
    pub row : Among (false, fault) rows
    pub answer : guards rows r ≡ Err fault

  pub cases_rows : (rows : List (Bool × Fault)) (r : Result B Fault) → AllByRecursion Passes rows ⊎ Fails rows r
  cases_rows [] r = inl tt
  cases_rows (row ∷ rows) r = by_test row.0 refl (cases_rows rows r)
    where
      by_test : (b : Bool) → row.0 ≡ b → AllByRecursion Passes rows ⊎ Fails rows r → AllByRecursion Passes (row ∷ rows) ⊎ Fails (row ∷ rows) r
      by_test true e (inl h) = inl (e, h)
      by_test true e (inr h) = inr (record { fault = h.fault; row = inr h.row; answer = pass row.0 row.1 (guards rows r) e ∙ h.answer })
      by_test false e h = inr (record { fault = row.1; row = inl (λ i. (e i, row.1)); answer = refuse row.0 row.1 (guards rows r) e })

-- rows on a number of w bytes at a place: each of the layer, at the place, in the order of their causes; w is 1 where there are any
abbrev pub Neat : Layer → ℕ → ℕ → ℕ → List (Bool × Fault) → Type 0
Neat l w at low [] = Unit {0}
Neat l w at low (row ∷ rows) = (w ≡ 1) × (row.1.layer ≡ l) × (row.1.place ≡ at) × (low ≤ number row.1.cause) × Neat l w at (number row.1.cause) rows

pub record Neatly (l : Layer) (w at low : ℕ) (e : Fault) : Type 0 where
  pub one : w ≡ 1
  pub layer : e.layer ≡ l
  pub place : e.place ≡ at
  pub cause : low ≤ number e.cause

module _ (l : Layer) (w at : ℕ) where
  pub neatly : (low : ℕ) (rows : List (Bool × Fault)) (b : Bool) (e : Fault) → Neat l w at low rows → Among (b, e) rows → Neatly l w at low e
  neatly low [] b e h a = absurd a
  neatly low (row ∷ rows) b e h (inl same) =
      let is : row.1 ≡ e = ap (λ r. r.1) same in
      record {
        one = h.0;
        layer = ap (λ x. x.layer) (sym is) ∙ h.1;
        place = ap (λ x. x.place) (sym is) ∙ h.2;
        cause = subst (λ x. low ≤ number x.cause) is h.3;
      }
  neatly low (row ∷ rows) b e h (inr a) =
      let n = neatly (number row.1.cause) rows b e h.4 a in
      record { one = n.one; layer = n.layer; place = n.place; cause = omega (arith, h.3, n.cause) }

  -- a row that fails: the answer is that fault or one before it
  pub record First {B : Type 0} (rows : List (Bool × Fault)) (r : Result B Fault) (d : Fault) : Type 0 where
    pub fault : Fault
    pub answer : guards rows r ≡ Err fault
    pub before : Before fault d

  pub neat_first : {B : Type 0} (low : ℕ) (rows : List (Bool × Fault)) (r : Result B Fault) (d : Fault) → Neat l w at low rows → Among (false, d) rows → First rows r d
  neat_first low [] r d h a = absurd a
  neat_first {B} low (row ∷ rows) r d h a = by_test row.0 refl (λ m. neat_first (number row.1.cause) rows r d h.4 m) a
    where
      by_test : (b : Bool) → row.0 ≡ b → (Among (false, d) rows → First rows r d) → Among (false, d) (row ∷ rows) → First (row ∷ rows) r d
      by_test true e rec (inl same) = absurd (true≢false (sym e ∙ ap (λ x. x.0) same))
      by_test true e rec (inr m) =
          let f = rec m in
          record { fault = f.fault; answer = pass row.0 row.1 (guards rows r) e ∙ f.answer; before = f.before }
      by_test false e rec (inl same) =
          let is : row.1 ≡ d = ap (λ x. x.1) same in
          record { fault = row.1; answer = refuse row.0 row.1 (guards rows r) e; before = inr (ap (λ x. x.place) is, subst (λ x. number row.1.cause ≤ number x.cause) is (omega arith)) }
      by_test false e rec (inr m) =
          let n = neatly (number row.1.cause) rows false d h.4 m in
          record { fault = row.1; answer = refuse row.0 row.1 (guards rows r) e; before = inr (h.2 ∙ sym n.place, n.cause) }
