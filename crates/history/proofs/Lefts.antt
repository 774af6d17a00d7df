-- What commits leave in an item is its last write.
use Rattle.std.proofs.Common.{◌≡◌, ℕ, ◌+◌, ◌-◌, ◌<◌, ◌≤◌, ◌⊎◌, List, [], ◌∷◌, ◌++◌, length, get_or, take, Some, None, Option, sym, refl, ap, ◌∙◌, subst, inl, inr, arith}
use Rattle.std.proofs.lemmas.List.{append-nil, append_assoc, length-append, length_push, length-take, length-take-le, get_or_push, get_or-take, get_or_append_left, take_all, take_more, take-append-le}
use Rattle.std.proofs.lemmas.Bool.{cases_lt, cases_order}
use Rattle.request.specs.Bodies.{WriteBody}
use Rattle.history.specs.Commits.{Left, Wrote, fresh, leave, left, left_after, left_from, written}

left-from_push : (k : ℕ) (l : Left) (cs : List (List WriteBody)) (ws : List WriteBody) (x : ℕ) → left_from k l (cs ++ ws ∷ []) x ≡ leave (k + length cs) (written ws x) (left_from k l cs x)
unfolding left_from
left-from_push k l [] ws x = ap (λ n. leave n (written ws x) l) (omega arith)
left-from_push k l (vs ∷ cs) ws x =
    left-from_push (k + 1) (leave k (written vs x) l) cs ws x
    ∙ ap (λ n. leave n (written ws x) (left_from (k + 1) (leave k (written vs x) l) cs x)) (omega arith)

pub left-none : (x : ℕ) → left [] x ≡ fresh
unfolding left_from
left-none x = refl

-- one commit more
pub left_push : (cs : List (List WriteBody)) (ws : List WriteBody) (x : ℕ) → left (cs ++ ws ∷ []) x ≡ leave (length cs + 1) (written ws x) (left cs x)
left_push cs ws x = left-from_push 1 fresh cs ws x ∙ ap (λ n. leave n (written ws x) (left cs x)) (omega arith)

-- no commit above i wrote the item
abbrev pub NoneAbove : List (List WriteBody) → ℕ → ℕ → Type 0
NoneAbove cs i x = (j : ℕ) (v : List ℕ) → i < j → Wrote cs j x v → ⊥

-- no commit wrote it
abbrev pub Unwritten : List (List WriteBody) → ℕ → Type 0
Unwritten cs x = (j : ℕ) (v : List ℕ) → Wrote cs j x v → ⊥

some-none : (o : Option (List ℕ)) (v : List ℕ) → o ≡ None → o ≡ Some v → ⊥
some-none o v p q = let z : ◌≡◌ {A = ℕ} 0 1 = cc in omega arith

pub some_same : (o : Option (List ℕ)) (v u : List ℕ) → o ≡ Some v → o ≡ Some u → v ≡ u
some_same o v u p q = cc

pub same_left : (l : Left) (i : ℕ) (v : List ℕ) → l.version ≡ i → l.value ≡ v → l ≡ record { version = i; value = v }
same_left l i v p q = λ t. record { version = p t; value = q t }

-- what was written, in a longer list and in a shorter one
module _ (cs : List (List WriteBody)) (i x : ℕ) (v : List ℕ) where
  pub wrote-append : (more : List (List WriteBody)) → Wrote cs i x v → Wrote (cs ++ more) i x v
  wrote-append more (p, q, r) =
      let lt : i - 1 < length cs = omega arith in
      let n = length-append cs more in
      (p, omega arith, ap (λ w. written w x) (get_or_append_left cs more [] (i - 1) lt) ∙ r)

  pub wrote_front : (more : List (List WriteBody)) → i ≤ length cs → Wrote (cs ++ more) i x v → Wrote cs i x v
  wrote_front more le (p, q, r) =
      let lt : i - 1 < length cs = omega arith in
      (p, le, sym (ap (λ w. written w x) (get_or_append_left cs more [] (i - 1) lt)) ∙ r)

  pub wrote_last : (ws : List WriteBody) → length cs < i → Wrote (cs ++ ws ∷ []) i x v → (i ≡ length cs + 1) × (written ws x ≡ Some v)
  wrote_last ws lt (p, q, r) =
      let n = length_push cs ws in
      let at : length cs ≡ i - 1 = omega arith in
      (omega arith, sym (ap (λ w. written w x) (get_or_push cs ws [] (i - 1) at)) ∙ r)

  pub wrote-take : (k : ℕ) → i ≤ k → Wrote cs i x v → Wrote (take k cs) i x v
  wrote-take k le (p, q, r) =
      let n = length-take k cs in
      let lt : i - 1 < k = omega arith in
      (p, omega arith, ap (λ w. written w x) (get_or-take k cs (i - 1) [] lt) ∙ r)

  pub wrote-from-take : (k : ℕ) → Wrote (take k cs) i x v → (i ≤ k) × Wrote cs i x v
  wrote-from-take k (p, q, r) =
      let n = length-take k cs in
      let le : i ≤ k = omega arith in
      let lt : i - 1 < k = omega arith in
      (le, (p, omega arith, sym (ap (λ w. written w x) (get_or-take k cs (i - 1) [] lt)) ∙ r))

pub wrote_push : (cs : List (List WriteBody)) (ws : List WriteBody) (x : ℕ) (v : List ℕ) → written ws x ≡ Some v → Wrote (cs ++ ws ∷ []) (length cs + 1) x v
wrote_push cs ws x v e =
    let n = length_push cs ws in
    let at : length cs ≡ length cs + 1 - 1 = omega arith in
    (omega arith, omega arith, ap (λ w. written w x) (get_or_push cs ws [] (length cs + 1 - 1) at) ∙ e)

-- the version and the value are those of the last write, or 0 and empty
pub record Leaves (cs : List (List WriteBody)) (x : ℕ) (l : Left) : Type 0 where
  pub above : NoneAbove cs l.version x
  pub wrote : (l ≡ fresh) ⊎ Wrote cs l.version x l.value

leaves_step : (cs : List (List WriteBody)) (ws : List WriteBody) (x : ℕ) (l : Left) (o : Option (List ℕ)) → written ws x ≡ o → Leaves cs x l → Leaves (cs ++ ws ∷ []) x (leave (length cs + 1) o l)
leaves_step cs ws x l None e h = record {
  above = λ j v lt w. elim (cases_lt (length cs) j) [
    | inl far ↦ some-none (written ws x) v e (wrote_last cs j x v ws far w).1
    | inr near ↦ h.above j v lt (wrote_front cs j x v (ws ∷ []) near w)
  ];
  wrote = elim h.wrote [ inl z ↦ inl z | inr w ↦ inr (wrote-append cs l.version x l.value (ws ∷ []) w) ];
}
leaves_step cs ws x l (Some v) e h =
    let n = length_push cs ws in
    record {
      above = λ j u lt w. let le : j ≤ length (cs ++ ws ∷ []) = w.1 in omega arith;
      wrote = inr (wrote_push cs ws x v e);
    }

leaves_from : (done rest : List (List WriteBody)) (x : ℕ) (l : Left) → Leaves done x l → Leaves (done ++ rest) x (left_from (length done + 1) l rest x)
unfolding left_from
leaves_from done [] x l h = rw append-nil h
leaves_from done (ws ∷ cs) x l h =
    let step = leaves_step done ws x l (written ws x) refl h in
    let more = leaves_from (done ++ ws ∷ []) cs x (leave (length done + 1) (written ws x) l) step in
    rw (append_assoc done (ws ∷ []) cs, length_push done ws) at more

pub leaves : (cs : List (List WriteBody)) (x : ℕ) → Leaves cs x (left cs x)
leaves cs x = leaves_from [] cs x fresh (record { above = λ j v lt w. let le : j ≤ 0 = w.1 in omega arith; wrote = inl refl })

module _ (cs : List (List WriteBody)) (x : ℕ) where
  pub left-version : (left cs x).version ≤ length cs
  left-version = elim (leaves cs x).wrote [
    | inl z ↦ let e : (left cs x).version ≡ 0 = ap (λ (l : Left). l.version) z in omega arith
    | inr w ↦ w.1
  ]

  -- nothing wrote the item and it is as at the start, or its last write is what is left
  pub left_cases : ((left cs x ≡ fresh) × Unwritten cs x) ⊎ (Wrote cs (left cs x).version x (left cs x).value × NoneAbove cs (left cs x).version x)
  left_cases = elim (leaves cs x).wrote [
    | inl z ↦ inl (
      z,
      λ j v w.
          let e : (left cs x).version ≡ 0 = ap (λ (l : Left). l.version) z in
          let p : 1 ≤ j = w.0 in
          (leaves cs x).above j v (omega arith) w,
    )
    | inr w ↦ inr (w, (leaves cs x).above)
  ]

  pub left_unwritten : Unwritten cs x → left cs x ≡ fresh
  left_unwritten none = elim (leaves cs x).wrote [ inl z ↦ z | inr w ↦ absurd (none (left cs x).version (left cs x).value w) ]

  -- a write that nothing newer follows is what is left
  pub left_unique : (i : ℕ) (v : List ℕ) → Wrote cs i x v → NoneAbove cs i x → left cs x ≡ record { version = i; value = v }
  left_unique i v w none =
      let p : 1 ≤ i = w.0 in
      elim (leaves cs x).wrote [
        | inl z ↦
            let e : (left cs x).version ≡ 0 = ap (λ (l : Left). l.version) z in
            absurd ((leaves cs x).above i v (omega arith) w)
        | inr u ↦ elim (cases_order (left cs x).version i) [
          | inl e ↦ same_left (left cs x) i v e (some_same (written (get_or cs (i - 1) []) x) (left cs x).value v
              (subst (λ j. written (get_or cs (j - 1) []) x ≡ Some (left cs x).value) e u.2) w.2)
          | inr (inl lt) ↦ absurd ((leaves cs x).above i v lt w)
          | inr (inr gt) ↦ absurd (none (left cs x).version (left cs x).value gt u)
        ]
      ]

-- the state after k commits
module _ (k : ℕ) (cs : List (List WriteBody)) (x : ℕ) where
  pub left-after_all : length cs ≤ k → left_after k cs x ≡ left cs x
  left-after_all le = ap (λ ds. left ds x) (take_all k cs le)

  pub left-after-more : k < length cs → left_after (k + 1) cs x ≡ leave (k + 1) (written (get_or cs k []) x) (left_after k cs x)
  left-after-more lt =
      let le : k ≤ length cs = omega arith in
      ap (λ ds. left ds x) (take_more cs k [] lt)
      ∙ left_push (take k cs) (get_or cs k []) x
      ∙ ap (λ n. leave (n + 1) (written (get_or cs k []) x) (left_after k cs x)) (length-take-le k cs le)

  pub left-after-append : (more : List (List WriteBody)) → k ≤ length cs → left_after k (cs ++ more) x ≡ left_after k cs x
  left-after-append more le = ap (λ ds. left ds x) (take-append-le k cs more le)

  pub left-after-version : (left_after k cs x).version ≤ k
  left-after-version = omega (arith, left-version (take k cs) x, length-take k cs)

  pub left-after_cases :
      ((left_after k cs x ≡ fresh) × ((j : ℕ) (v : List ℕ) → j ≤ k → Wrote cs j x v → ⊥))
      ⊎ (Wrote cs (left_after k cs x).version x (left_after k cs x).value × ((j : ℕ) (v : List ℕ) → (left_after k cs x).version < j → j ≤ k → Wrote cs j x v → ⊥))
  left-after_cases = elim (left_cases (take k cs) x) [
    | inl (z, none) ↦ inl (z, λ j v le w. none j v (wrote-take cs j x v k le w))
    | inr (w, none) ↦ inr ((wrote-from-take cs (left_after k cs x).version x (left_after k cs x).value k w).1, λ j v lt le u. none j v lt (wrote-take cs j x v k le u))
  ]

  pub left-after_unwritten : ((j : ℕ) (v : List ℕ) → j ≤ k → Wrote cs j x v → ⊥) → left_after k cs x ≡ fresh
  left-after_unwritten none = left_unwritten (take k cs) x (λ j v w. let u = wrote-from-take cs j x v k w in none j v u.0 u.1)

  pub left-after_unique : (i : ℕ) (v : List ℕ) → i ≤ k → Wrote cs i x v → ((j : ℕ) (u : List ℕ) → i < j → j ≤ k → Wrote cs j x u → ⊥)
      → left_after k cs x ≡ record { version = i; value = v }
  left-after_unique i v le w none =
      left_unique (take k cs) x i v (wrote-take cs i x v k le w) (λ j u lt y. let z = wrote-from-take cs j x u k y in none j u lt z.0 z.1)

  -- where nothing above k wrote the item, it is as after k commits
  pub left-after_still : NoneAbove cs k x → left cs x ≡ left_after k cs x
  left-after_still none = elim (left_cases cs x) [
    | inl (z, free) ↦ z ∙ sym (left-after_unwritten (λ j v le w. free j v w))
    | inr (w, above) ↦ elim (cases_lt k (left cs x).version) [
      | inl lt ↦ absurd (none (left cs x).version (left cs x).value lt w)
      | inr le ↦ sym (left-after_unique (left cs x).version (left cs x).value le w (λ j u lt _ y. above j u lt y))
    ]
  ]
