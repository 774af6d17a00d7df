-- A write set and its entry.
use Rattle.std.proofs.Common.{◌≡◌, ℕ, ◌<◌, Bool, true, false, cond, eqb, List, [], ◌∷◌, map, Some, None, Option, sym, refl, ap, ◌∙◌, subst, inl, inr, arith}
use Rattle.std.specs.List.Sorted.{IsStrictlyIncreasing}
use Rattle.std.specs.List.{ContainsAt as Has}
use Rattle.std.proofs.ByRecursion.{all-has}
use Rattle.std.proofs.lemmas.Bool.{eqb-true, eq-eqb}
use Rattle.entry.specs.Bodies.{ItemBody}
use Rattle.request.specs.Bodies.{WriteBody}
use Rattle.history.specs.Commits.{written}
use Rattle.history.specs.Entries.{recorded}
use Rattle.reader.specs.Checks.{item_of}
use Rattle.reader.proofs.Lefts.{some-none, some_same}
use Rattle.reader.proofs.Members.{has_cases, has_here, has-map, has-none, has_there}
use Rattle.reader.proofs.Quorums.{climbs_first, climbs_rest}

-- a later write counts, else this one
later-some : (w : WriteBody) (ws : List WriteBody) (x : ℕ) (v : List ℕ) → written ws x ≡ Some v → written (w ∷ ws) x ≡ Some v
unfolding written
later-some w ws x v e = rw e

later-none : (w : WriteBody) (ws : List WriteBody) (x : ℕ) → written ws x ≡ None → written (w ∷ ws) x ≡ cond (eqb w.item x) (Some w.value) None
unfolding written
later-none w ws x e = rw e

none-some : (v : List ℕ) → ◌≡◌ {A = Option (List ℕ)} None (Some v) → ⊥
none-some v e = some-none None v refl e

nothing_written : (x : ℕ) (v : List ℕ) → written [] x ≡ Some v → ⊥
unfolding written
nothing_written x v e = none-some v e

module _ (digest : List ℕ → List ℕ) where
  -- what was written is recorded
  pub recorded-has : (ws : List WriteBody) (x : ℕ) (v : List ℕ) → written ws x ≡ Some v → Has (map (recorded digest) ws) (record { item = x; digest = digest v })
  recorded-has [] x v e = absurd (nothing_written x v e)
  recorded-has (w ∷ ws) x v e = go (written ws x) refl (recorded-has ws x)
    where
      this : (b : Bool) → eqb w.item x ≡ b → cond b (Some w.value) None ≡ Some v → Has (recorded digest w ∷ map (recorded digest) ws) (record { item = x; digest = digest v })
      this true q r =
          let i : w.item ≡ x = eqb-true _ _ q in
          let u : w.value ≡ v = some_same _ _ _ refl r in
          let same : recorded digest w ≡ record { item = x; digest = digest v } = cc in
          subst (λ (y : ItemBody). Has (recorded digest w ∷ map (recorded digest) ws) y) same (has_here (recorded digest w) (map (recorded digest) ws))
      this false q r = absurd (none-some v r)

      go : (o : Option (List ℕ)) → written ws x ≡ o → ((u : List ℕ) → written ws x ≡ Some u → Has (map (recorded digest) ws) (record { item = x; digest = digest u })) → Has (recorded digest w ∷ map (recorded digest) ws) (record { item = x; digest = digest v })
      go (Some u) q ih =
          let same : u ≡ v = some_same _ _ _ (later-some w ws x u q) e in
          has_there _ _ _ (ih v (q ∙ ap Some same))
      go None q ih = this (eqb w.item x) refl (sym (later-none w ws x q) ∙ e)

  -- an item that is recorded was written
  pub recorded-wrote : (ws : List WriteBody) (x : ℕ) → Has (map item_of (map (recorded digest) ws)) x → (v : List ℕ) × (written ws x ≡ Some v)
  recorded-wrote [] x m = absurd (has-none x m)
  recorded-wrote (w ∷ ws) x m = go (written ws x) refl (recorded-wrote ws x)
    where
      go : (o : Option (List ℕ)) → written ws x ≡ o → (Has (map item_of (map (recorded digest) ws)) x → (v : List ℕ) × (written ws x ≡ Some v)) → (v : List ℕ) × (written (w ∷ ws) x ≡ Some v)
      go (Some u) q ih = (u, later-some w ws x u q)
      go None q ih = elim (has_cases w.item x (map item_of (map (recorded digest) ws)) m) [
        | inl e ↦ (w.value, later-none w ws x q ∙ ap (λ b. cond b (Some w.value) None) (eq-eqb _ _ e))
        | inr n ↦ let u = ih n in absurd (some-none (written ws x) u.0 q u.1)
      ]

  -- where the items rise, the digest that is recorded is that of the value written
  pub recorded-value : (ws : List WriteBody) (x : ℕ) (d : List ℕ) → IsStrictlyIncreasing (map item_of (map (recorded digest) ws)) → Has (map (recorded digest) ws) (record { item = x; digest = d }) → (v : List ℕ) × ((written ws x ≡ Some v) × (digest v ≡ d))
  recorded-value [] x d c m = absurd (has-none (record { item = x; digest = d }) m)
  recorded-value (w ∷ ws) x d c m = elim (has_cases (recorded digest w) (record { item = x; digest = d }) (map (recorded digest) ws) m) [
    | inl e ↦ (w.value, (alone (written ws x) refl (ap (λ (i : ItemBody). i.item) e), ap (λ (i : ItemBody). i.digest) e))
    | inr n ↦ let u = recorded-value ws x d (climbs_rest w.item (map item_of (map (recorded digest) ws)) c) n in (u.0, (later-some w ws x u.0 u.1.0, u.1.1))
  ]
    where
      alone : (o : Option (List ℕ)) → written ws x ≡ o → w.item ≡ x → written (w ∷ ws) x ≡ Some w.value
      alone None q e = later-none w ws x q ∙ ap (λ b. cond b (Some w.value) None) (eq-eqb _ _ e)
      alone (Some u) q e =
          let has = recorded-has ws x u q in
          let up : w.item < x = all-has (λ y. w.item < y) (map item_of (map (recorded digest) ws)) x (climbs_first w.item (map item_of (map (recorded digest) ws)) c) (has-map item_of (map (recorded digest) ws) (record { item = x; digest = digest u }) has) in
          absurd (omega arith)
