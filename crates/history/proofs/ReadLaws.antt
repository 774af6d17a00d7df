-- A read passes exactly when it had what the commits left.
use Rattle.std.proofs.Common.{◌≡◌, ℕ, ◌≤◌, cond, eqb, List, [], ◌∷◌, sym, refl, ap, ◌∙◌, subst, inl, inr, arith}
use Rattle.std.specs.List.{AllByRecursion as All}
use Rattle.std.proofs.ByRecursion.{All-weaker}
use Rattle.std.proofs.lemmas.Bool.{cases_eq, ne_eqb}
use Rattle.store.specs.Slot.{Slot, blank}
use Rattle.request.specs.Bodies.{ReadBody, WriteBody}
use Rattle.history.specs.Commits.{HadRead, Left, Passes, Wrote, fresh, kept, left, shown}
use Rattle.history.proofs.Deciding.{Either, either_and, either_same}
use Rattle.history.proofs.Lefts.{left_cases, left_unique, left_unwritten}

module _ (digest : List ℕ → List ℕ) (cs : List (List WriteBody)) where
  pub passes_had : (r : ReadBody) → Passes digest cs r → HadRead digest cs r
  passes_had r (none, inl (v, (w, d))) =
      let e = left_unique cs r.item r.version v w none in
      (sym (ap (λ (l : Left). l.version) e), d ∙ sym (ap (λ (l : Left). digest l.value) e))
  passes_had r (none, inr (z, d)) =
      let e = left_unwritten cs r.item (λ j v w. let p : 1 ≤ j = w.0 in none j v (omega arith) w) in
      (z ∙ sym (ap (λ (l : Left). l.version) e), d ∙ sym (ap (λ (l : Left). digest l.value) e))

  pub had_passes : (r : ReadBody) → HadRead digest cs r → Passes digest cs r
  had_passes r (p, d) = elim (left_cases cs r.item) [
    | inl (z, none) ↦ (λ j v lt w. none j v w, inr (p ∙ ap (λ (l : Left). l.version) z, d ∙ ap (λ (l : Left). digest l.value) z))
    | inr (w, none) ↦ (
      λ j v lt u. none j v (omega arith) u,
      inl ((left cs r.item).value, (subst (λ i. Wrote cs i r.item (left cs r.item).value) (sym p) w, d)),
    )
  ]

  pub all_passes_had : (rs : List ReadBody) → All (Passes digest cs) rs → All (HadRead digest cs) rs
  all_passes_had rs all = All-weaker (Passes digest cs) (HadRead digest cs) passes_had rs all

  pub all_had_passes : (rs : List ReadBody) → All (HadRead digest cs) rs → All (Passes digest cs) rs
  all_had_passes rs all = All-weaker (HadRead digest cs) (Passes digest cs) had_passes rs all

  -- so whether reads pass can be decided
  either_had : (r : ReadBody) → Either (HadRead digest cs r)
  either_had r = either_and (cases_eq r.version (left cs r.item).version) (either_same r.digest (digest (left cs r.item).value))

  pub either_passes : (r : ReadBody) → Either (Passes digest cs r)
  either_passes r = elim (either_had r) [ inl had ↦ inl (had_passes r had) | inr not' ↦ inr (λ p. not' (passes_had r p)) ]

  pub either_all_pass : (rs : List ReadBody) → Either (All (Passes digest cs) rs)
  either_all_pass [] = inl tt
  either_all_pass (r ∷ rs) = either_and (either_passes r) (either_all_pass rs)

-- what a store means for what commits left

pub kept_fresh : (digest : List ℕ → List ℕ) → kept digest fresh ≡ blank
kept_fresh digest = refl

pub kept-write : (digest : List ℕ → List ℕ) (k : ℕ) (v : List ℕ) → 1 ≤ k → kept digest (record { version = k; value = v }) ≡ record { version = k; value = v; digest = digest v }
kept-write digest k v le = ap (λ b. record { version = k; value = v; digest = cond b blank.digest (digest v) }) (ne_eqb k 0 (λ e. omega arith))

-- the digest of the value left, from what a store means: at version 0 the empty value's
pub kept-digest : (digest : List ℕ → List ℕ) (cs : List (List WriteBody)) (x : ℕ)
    → cond (eqb (left cs x).version 0) (digest []) (kept digest (left cs x)).digest ≡ digest (left cs x).value
kept-digest digest cs x = elim (left_cases cs x) [
  | inl (z, none) ↦ subst (λ (l : Left). cond (eqb l.version 0) (digest []) (kept digest l).digest ≡ digest l.value) (sym z) refl
  | inr (w, none) ↦
      let p : 1 ≤ (left cs x).version = w.0 in
      ap (λ b. cond b (digest []) (cond b blank.digest (digest (left cs x).value))) (ne_eqb (left cs x).version 0 (λ e. omega arith))
]

-- so what is shown of an item follows from what a store means for it
pub shown-kept : (digest : List ℕ → List ℕ) (cs : List (List WriteBody)) (x : ℕ) (s : Slot) → s ≡ kept digest (left cs x)
    → record { version = s.version; value = s.value; digest = cond (eqb s.version 0) (digest []) s.digest } ≡ shown digest (left cs x)
shown-kept digest cs x s e =
    ap (λ (u : Slot). record { version = u.version; value = u.value; digest = cond (eqb u.version 0) (digest []) u.digest }) e
    ∙ ap (λ d. record { version = (left cs x).version; value = (left cs x).value; digest = d }) (kept-digest digest cs x)
