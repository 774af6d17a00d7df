-- An answer under a table of refusals, where no row's condition holds.
use Rattle.std.proofs.Common.{◌≡◌, ℕ, zero, suc, ◌+◌, ◌<◌, ◌≤◌, List, [], ◌∷◌, ◌++◌, length, get_or, take, Ok, Err, Result, ap, subst, inl, inr, arith}
use Rattle.std.specs.List.{flat_map, AllByRecursion as All}
use Rattle.std.proofs.lemmas.List.{length-append}
use Rattle.std.specs.Str.{bytes_eq}
use Rattle.std.proofs.lemmas.Slice.Eq.{bytes_eq-Decides}
use Rattle.std.proofs.lemmas.Bool.{cases_eq, cases_lt, cases_Bool, both_ways}
use Rattle.fault.specs.declared.Fault.{Fault}
use Rattle.history.specs.Tables.{Case, Succeeds, Under}
use Rattle.reader.specs.Checks.{along}

pub ok_err : {A : Type 0} (a : A) (e : Fault) → ◌≡◌ {A = Result A Fault} (Ok a) (Err e) → ⊥
ok_err a e q = let z : ◌≡◌ {A = ℕ} 0 1 = cc in omega arith

-- no condition of a table holds
abbrev pub Clear : List Case → Type 0
Clear [] = Unit {0}
Clear (c ∷ cs) = (c.condition → ⊥) × Clear cs

pub clear_append : (cs ds : List Case) → Clear cs → Clear ds → Clear (cs ++ ds)
clear_append [] ds tt d = d
clear_append (c ∷ cs) ds (n, h) d = (n, clear_append cs ds h d)

pub clear_parts : (cs ds : List Case) → Clear (cs ++ ds) → Clear cs × Clear ds
clear_parts [] ds d = (tt, d)
clear_parts (c ∷ cs) ds (n, h) = let k = clear_parts cs ds h in ((n, k.0), k.1)

module _ {A : Type 0} (P : A → Type 0) where
  -- a success shows that the table is clear
  pub ok_clear : (cs : List Case) (a : A) → Under cs P (Ok a) → Clear cs × P a
  ok_clear [] a u = (tt, u)
  ok_clear (c ∷ cs) a (refuses, next) =
      let n : c.condition → ⊥ = λ h. ok_err a c.refusal (refuses h) in
      let k = ok_clear cs a (next n) in
      ((n, k.0), k.1)

  -- under a clear table a success is the answer, and every answer is a success
  pub clear_ok : (cs : List Case) (a : A) → Clear cs → P a → Under cs P (Ok a)
  clear_ok [] a none p = p
  clear_ok (c ∷ cs) a (n, h) p = (λ k. absurd (n k), λ m. clear_ok cs a h p)

  pub clear_answer : (cs : List Case) (r : Result A Fault) → Clear cs → Under cs P r → Succeeds P r
  clear_answer [] r tt u = u
  clear_answer (c ∷ cs) r (n, h) (refuses, next) = clear_answer cs r h (next n)

-- a refusal by the first rows is one by all of them
module _ {A B : Type 0} (P : A → Type 0) (Q : B → Type 0) where
  other_err : (d e : Fault) → ◌≡◌ {A = Result A Fault} (Err d) (Err e) → ◌≡◌ {A = Result B Fault} (Err d) (Err e)
  other_err d e q = let same : d ≡ e = cc in ap Err same

  pub refused-first : (cs ds : List Case) (e : Fault) → Under cs P (Err e) → Under (cs ++ ds) Q (Err e)
  refused-first [] ds e u = absurd u
  refused-first (c ∷ cs) ds e (refuses, next) = (λ h. other_err e c.refusal (refuses h), λ n. refused-first cs ds e (next n))

-- behind rows that are clear the others decide
pub clear_then : {A : Type 0} (P : A → Type 0) (cs ds : List Case) (r : Result A Fault) → Clear cs → Under ds P r → Under (cs ++ ds) P r
clear_then P [] ds r none u = u
clear_then P (c ∷ cs) ds r (n, h) u = (λ k. absurd (n k), λ m. clear_then P cs ds r h u)

-- rows over records one behind the other
module _ {X : Type 0} (bytes : X → List ℕ) (rows : ℕ → X → List Case) (Q : X → Type 0) where
  pub along_clear : ((at : ℕ) (x : X) → Q x → Clear (rows at x)) → (at : ℕ) (xs : List X) → All Q xs → Clear (along bytes rows at xs)
  along_clear clear at [] none = tt
  along_clear clear at (x ∷ xs) (q, qs) =
      clear_append (rows at x) (along bytes rows (at + length (bytes x)) xs) (clear at x q) (along_clear clear (at + length (bytes x)) xs qs)

  pub clear_along : ((at : ℕ) (x : X) → Clear (rows at x) → Q x) → (at : ℕ) (xs : List X) → Clear (along bytes rows at xs) → All Q xs
  clear_along says at [] none = tt
  clear_along says at (x ∷ xs) c =
      let k = clear_parts (rows at x) (along bytes rows (at + length (bytes x)) xs) c in
      (says at x k.0, clear_along says (at + length (bytes x)) xs k.1)

  -- the rows before a record are clear, and its own rows refuse
  pub along-refused : {A : Type 0} (P : A → Type 0) → ((at : ℕ) (x : X) → Q x → Clear (rows at x)) → (at k : ℕ) (xs : List X) (d : X) (e : Fault) → k < length xs → All Q (take k xs) → Under (rows (at + length (flat_map bytes (take k xs))) (get_or xs k d)) P (Err e) → Under (along bytes rows at xs) P (Err e)
  along-refused P clear at k [] d e lt qs u = absurd (omega arith)
  along-refused P clear at zero (x ∷ xs) d e lt qs u =
      let here : at + 0 ≡ at = omega arith in
      refused-first P P (rows at x) (along bytes rows (at + length (bytes x)) xs) e (subst (λ (n : ℕ). Under (rows n x) P (Err e)) here u)
  along-refused P clear at (suc k) (x ∷ xs) d e lt (q, qs) u =
      let there : at + length (bytes x ++ flat_map bytes (take k xs)) ≡ at + length (bytes x) + length (flat_map bytes (take k xs)) = let n = length-append (bytes x) (flat_map bytes (take k xs)) in omega arith in
      clear_then P (rows at x) (along bytes rows (at + length (bytes x)) xs) (Err e) (clear at x q)
      (along-refused P clear (at + length (bytes x)) k xs d e (omega arith) qs (subst (λ (n : ℕ). Under (rows n (get_or xs k d)) P (Err e)) there u))

-- what is not refuted, over lists
pub all_unrefuted : {X : Type 0} (P : X → Type 0) (xs : List X) → All (λ x. (P x → ⊥) → ⊥) xs → (All P xs → ⊥) → ⊥
all_unrefuted P [] tt n = n tt
all_unrefuted P (x ∷ xs) (h, hs) n = h (λ p. all_unrefuted P xs hs (λ ps. n (p, ps)))

pub all_stable : {X : Type 0} (P : X → Type 0) → ((x : X) → ((P x → ⊥) → ⊥) → P x) → (xs : List X) → ((All P xs → ⊥) → ⊥) → All P xs
all_stable P st [] n = tt
all_stable P st (x ∷ xs) n = (st x (λ q. n (λ h. q h.0)), all_stable P st xs (λ q. n (λ h. q h.1)))

-- orders and equations of numbers and byte strings hold unless they are refuted
pub le_stable : (m n : ℕ) → ((m ≤ n → ⊥) → ⊥) → m ≤ n
le_stable m n h = elim (cases_lt n m) [ inl lt ↦ absurd (h (λ le. omega arith)) | inr le ↦ le ]

pub eq_stable : (m n : ℕ) → ((m ≡ n → ⊥) → ⊥) → m ≡ n
eq_stable m n h = elim (cases_eq m n) [ inl e ↦ e | inr ne ↦ absurd (h ne) ]

pub bytes_stable : (xs ys : List ℕ) → ((xs ≡ ys → ⊥) → ⊥) → xs ≡ ys
bytes_stable xs ys h = elim (cases_Bool (bytes_eq xs ys)) [
  | inl t ↦ (bytes_eq-Decides xs ys).0 t
  | inr f ↦ absurd (h (λ e. both_ways (bytes_eq xs ys) f ((bytes_eq-Decides xs ys).1 e)))
]
