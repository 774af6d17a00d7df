-- What commits leave in an item, by its last write.
use Rattle.std.proofs.Common.{◌≡◌, ℕ, ◌+◌, ◌-◌, ◌<◌, ◌≤◌, ◌⊎◌, List, [], ◌∷◌, ◌++◌, length, get_or, Some, None, Option, sym, refl, ap, ◌∙◌, subst, inl, inr, arith}
use Rattle.std.proofs.lemmas.List.{append-nil, append_assoc, length_push, get_or_push, get_or_append_left}
use Rattle.std.proofs.lemmas.Bool.{cases_lt, cases_order}
use Rattle.request.specs.Bodies.{WriteBody}
use Rattle.history.specs.Commits.{Left, Wrote, fresh, leave, left, left_from, written}

-- the version and the value are those of the last write, or 0 and empty
pub record Leaves (cs : List (List WriteBody)) (x : ℕ) (l : Left) : Type 0 where
  pub above : (j : ℕ) (v : List ℕ) → l.version < j → Wrote cs j x v → ⊥
  pub wrote : ((l.version ≡ 0) × (l.value ≡ [])) ⊎ Wrote cs l.version x l.value

pub some-none : (o : Option (List ℕ)) (v : List ℕ) → o ≡ None → o ≡ Some v → ⊥
some-none o v p q = let z : ◌≡◌ {A = ℕ} 0 1 = cc in omega arith

pub some_same : (o : Option (List ℕ)) (v u : List ℕ) → o ≡ Some v → o ≡ Some u → v ≡ u
some_same o v u p q = cc

-- a write of an earlier commit, in the longer list
keeps : (cs : List (List WriteBody)) (ws : List WriteBody) (i x : ℕ) (v : List ℕ) → Wrote cs i x v → Wrote (cs ++ ws ∷ []) i x v
keeps cs ws i x v (p, q, r) =
    let lt : i - 1 < length cs = omega arith in
    let n = length_push cs ws in
    (p, omega arith, ap (λ w. written w x) (get_or_append_left cs (ws ∷ []) [] (i - 1) lt) ∙ r)

drops : (cs : List (List WriteBody)) (ws : List WriteBody) (i x : ℕ) (v : List ℕ) → i ≤ length cs → Wrote (cs ++ ws ∷ []) i x v → Wrote cs i x v
drops cs ws i x v le (p, q, r) =
    let lt : i - 1 < length cs = omega arith in
    (p, le, sym (ap (λ w. written w x) (get_or_append_left cs (ws ∷ []) [] (i - 1) lt)) ∙ r)

last : (cs : List (List WriteBody)) (ws : List WriteBody) (i x : ℕ) (v : List ℕ) → length cs < i → Wrote (cs ++ ws ∷ []) i x v → written ws x ≡ Some v
last cs ws i x v lt (p, q, r) =
    let n = length_push cs ws in
    let at : length cs ≡ i - 1 = omega arith in
    sym (ap (λ w. written w x) (get_or_push cs ws [] (i - 1) at)) ∙ r

leaves_step : (cs : List (List WriteBody)) (ws : List WriteBody) (x : ℕ) (l : Left) (o : Option (List ℕ)) → written ws x ≡ o → Leaves cs x l → Leaves (cs ++ ws ∷ []) x (leave (length cs + 1) o l)
leaves_step cs ws x l None e h = record {
  above = λ j v lt w. elim (cases_lt (length cs) j) [ inl far ↦ some-none (written ws x) v e (last cs ws j x v far w) | inr near ↦ h.above j v lt (drops cs ws j x v near w) ];
  wrote = elim h.wrote [ inl z ↦ inl z | inr w ↦ inr (keeps cs ws l.version x l.value w) ];
}
leaves_step cs ws x l (Some v) e h =
    let n = length_push cs ws in
    let at : length cs ≡ length cs + 1 - 1 = omega arith in
    record {
      above = λ j u lt w. let le : j ≤ length (cs ++ ws ∷ []) = w.1 in omega arith;
      wrote = inr (omega arith, omega arith, ap (λ w. written w x) (get_or_push cs ws [] (length cs + 1 - 1) at) ∙ e);
    }

leaves_from : (done rest : List (List WriteBody)) (x : ℕ) (l : Left) → Leaves done x l → Leaves (done ++ rest) x (left_from (length done + 1) l rest x)
unfolding left_from
leaves_from done [] x l h = rw append-nil h
leaves_from done (ws ∷ cs) x l h =
    let step = leaves_step done ws x l (written ws x) refl h in
    let more = leaves_from (done ++ ws ∷ []) cs x (leave (length done + 1) (written ws x) l) step in
    rw (append_assoc done (ws ∷ []) cs, length_push done ws) at more

pub leaves : (cs : List (List WriteBody)) (x : ℕ) → Leaves cs x (left cs x)
leaves cs x = leaves_from [] cs x fresh (record { above = λ j v lt w. let le : j ≤ 0 = w.1 in omega arith; wrote = inl (refl, refl) })

pub left-same : (a b : Left) → a.version ≡ b.version → a.value ≡ b.value → a ≡ b
left-same a b e v = ap (λ n. record { version = n; value = a.value }) e ∙ ap (λ u. record { version = b.version; value = u }) v

-- two descriptions of the last write are one
pub leaves_once : (cs : List (List WriteBody)) (x : ℕ) (a b : Left) → Leaves cs x a → Leaves cs x b → a ≡ b
leaves_once cs x a b p q = elim (cases_order a.version b.version) [
  | inl e ↦ left-same a b e (value e p.wrote q.wrote)
  | inr (inl lt) ↦ elim q.wrote [ inl z ↦ let y = z.0 in absurd (omega arith) | inr w ↦ absurd (p.above b.version b.value lt w) ]
  | inr (inr gt) ↦ elim p.wrote [ inl z ↦ let y = z.0 in absurd (omega arith) | inr w ↦ absurd (q.above a.version a.value gt w) ]
]
  where
    value : a.version ≡ b.version → ((a.version ≡ 0) × (a.value ≡ [])) ⊎ Wrote cs a.version x a.value → ((b.version ≡ 0) × (b.value ≡ [])) ⊎ Wrote cs b.version x b.value → a.value ≡ b.value
    value e (inl u) (inl v) = u.1 ∙ sym v.1
    value e (inl u) (inr v) = let y = u.0 in let z : 1 ≤ b.version = v.0 in absurd (omega arith)
    value e (inr u) (inl v) = let y = v.0 in let z : 1 ≤ a.version = u.0 in absurd (omega arith)
    value e (inr u) (inr v) = some_same _ _ _ u.2 (subst (λ i. written (get_or cs (i - 1) []) x ≡ Some b.value) (sym e) v.2)
