-- The numbers that are open, verdict by verdict.
use Rattle.std.proofs.Common.{◌≡◌, ℕ, ◌+◌, ◌<◌, ◌≤◌, leb, ◌⊎◌, List, [], ◌∷◌, ◌++◌, length, Some, None, Option, sym, ap, ◌∙◌, subst, inl, inr, not-suc-le-zero, arith, lit≤}
use Rattle.std.specs.List.{ContainsAt as Has}
use Rattle.std.proofs.ByRecursion.{has_append_left, has_push, has_push_cases}
use Rattle.std.proofs.lemmas.List.{length_push}
use Rattle.std.proofs.lemmas.Option.{cond_some}
use Rattle.std.proofs.lemmas.Bool.{cases_lt, cond-true, cond-false, le-leb, leb-true, lt-leb}
use Rattle.octets.specs.Numbers.{limit}
use Rattle.numbers.specs.Sequence.{Open, Rightly, Steps, opens}
use Rattle.numbers.specs.Tracking.{Behind}

module _ (w : ℕ) (used : List ℕ) where
  pub opens-next : 5 + length used ≤ limit w → opens w used ≡ Some (5 + length used)
  opens-next room = cond-true (leb (5 + length used) (limit w)) (Some (5 + length used)) None (le-leb (5 + length used) (limit w) room)

  pub opens-none : limit w < 5 + length used → opens w used ≡ None
  opens-none full = cond-false (leb (5 + length used) (limit w)) (Some (5 + length used)) None (lt-leb (5 + length used) (limit w) full)

  -- a number that is opened is the lowest never opened
  pub opened_is : (t : ℕ) → opens w used ≡ Some t → (t ≡ 5 + length used) × (5 + length used ≤ limit w)
  opened_is t e =
      let parts = cond_some (leb (5 + length used) (limit w)) (5 + length used) t e in
      (sym parts.1, leb-true (5 + length used) (limit w) parts.0)

module _ (w : ℕ) (used : List ℕ) (s : ℕ) where
  -- the number behind the one that is opened is the one to be opened next
  pub opens-behind : (next : Option ℕ) → Behind w (opens w used) next → next ≡ opens w (used ++ s ∷ [])
  opens-behind next behind =
      let long = length_push used s in
      elim (cases_lt (limit w) (5 + length used)) [
        | inl past ↦
            let none : next ≡ None = subst (λ o. Behind w o next) (opens-none w used past) behind in
            none ∙ sym (opens-none w (used ++ s ∷ []) (omega arith))
        | inr room ↦
            let here : Behind w (Some (5 + length used)) next = subst (λ o. Behind w o next) (opens-next w used room) behind in
            elim (cases_lt (limit w) (6 + length used)) [
              | inl full ↦ here.0 (omega arith) ∙ sym (opens-none w (used ++ s ∷ []) (omega arith))
              | inr free ↦ here.1 (omega arith) ∙ sym (opens-next w (used ++ s ∷ []) (omega arith) ∙ ap Some (omega arith))
            ]
      ]

  module _ (right : Rightly w used) (is : Open w used s) where
    closes : (t : ℕ) → Open w (used ++ s ∷ []) t → (Open w used t × (t ≡ s → ⊥)) ⊎ (opens w used ≡ Some t)
    closes t (ever, fresh) =
        let long = length_push used s in
        elim (cases_lt t (5 + length used)) [
          | inl low ↦ inl (((ever.0, omega (arith, ever.1)), λ h. fresh (has_append_left used (s ∷ []) t h)), λ e. fresh (subst (Has (used ++ s ∷ [])) (sym e) (has_push used s)))
          | inr high ↦ inr (opens-next w used (omega (arith, ever.1)) ∙ ap Some (omega (arith, ever.1)))
        ]

    stays : (t : ℕ) → (Open w used t × (t ≡ s → ⊥)) ⊎ (opens w used ≡ Some t) → Open w (used ++ s ∷ []) t
    stays t (inl ((ever, fresh), other)) =
        let long = length_push used s in
        ((ever.0, omega (arith, ever.1)), λ h. elim (has_push_cases used s t h) [ inl old ↦ fresh old | inr new ↦ other (sym new) ])
    stays t (inr e) =
        let long = length_push used s in
        let lowest = opened_is w used t e in (
          (omega (arith, lowest.0), omega (arith, lowest.0, lowest.1)),
          λ h. elim (has_push_cases used s t h) [
            | inl old ↦ omega (arith, lowest.0, (right t old).1)
            | inr new ↦ omega (arith, new, lowest.0, is.0.1)
          ],
        )

    pub steps : Steps w used s
    steps t = (closes t, stays t)

    pub rightly-more : Rightly w (used ++ s ∷ [])
    rightly-more t h =
        let long = length_push used s in
        elim (has_push_cases used s t h) [
          | inl old ↦ ((right t old).0, omega (arith, (right t old).1))
          | inr new ↦ (omega (arith, new, is.0.0), omega (arith, new, is.0.1))
        ]

pub second_open : Open 2 [] 2
second_open = ((lit≤ tt, lit≤ tt), λ h. not-suc-le-zero h.1)

second_closed : (t : ℕ) → Open 2 (2 ∷ []) t → t ≡ 2 → ⊥
second_closed t op e = op.1 (subst (Has {X = ℕ} (2 ∷ [])) (sym e) (has_push {X = ℕ} [] 2))

rest_open : (t : ℕ) → 1 ≤ t → t ≤ 5 → (t ≡ 2 → ⊥) → Open 2 (2 ∷ []) t
rest_open t low high other = ((low, high), λ h. elim (has_push_cases {X = ℕ} [] 2 t h) [ inl none ↦ not-suc-le-zero none.1 | inr e ↦ other (sym e) ])

-- what is open when the second number is used
pub after-second : (t : ℕ) → (Open 2 (2 ∷ []) t → (t ≡ 1) ⊎ ((t ≡ 3) ⊎ ((t ≡ 4) ⊎ (t ≡ 5)))) × ((t ≡ 1) ⊎ ((t ≡ 3) ⊎ ((t ≡ 4) ⊎ (t ≡ 5))) → Open 2 (2 ∷ []) t)
after-second t = (
  λ op. let low : 1 ≤ t = op.0.0 in let high : t ≤ 5 = op.0.1 in let other = second_closed t op in grind arith,
  λ is. rest_open t (grind arith) (grind arith) (grind arith),
)
