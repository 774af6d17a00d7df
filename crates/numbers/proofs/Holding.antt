-- What is held of a client, and what after one more verdict.
use Rattle.std.proofs.Common.{◌≡◌, ℕ, zero, suc, ◌+◌, ◌-◌, ◌<◌, ◌≤◌, List, [], ◌∷◌, ◌++◌, length, get_or, set, is_some, Some, None, Decides, MatchOption, Option, Ok, Err, Result, sym, refl, ap, ◌∙◌, subst, inl, inr, not-suc-le-zero, arith}
use Rattle.std.proofs.lemmas.List.{get_or-set_same, get_or-set_other, length-set}
use Rattle.std.proofs.lemmas.Option.{none-some, same_Some}
use Rattle.std.proofs.lemmas.Bool.{cases_eq, false≢true}
use Rattle.octets.specs.Numbers.{limit}
use Rattle.numbers.specs.Sequence.{Open, opens}
use Rattle.numbers.specs.Tracking.{held_at, Behind, Tracks, UsesUp}
use Rattle.numbers.specs.declared.client.NotOpen.{NotOpen}
use Rattle.numbers.specs.declared.client.Numbers.{Numbers}
use Rattle.numbers.proofs.Opening.{opened_is, opens-behind, opens-next, rightly-more, steps}

-- the numbers left when the one at a place is used up
abbrev pub renewed : Numbers → ℕ → Option ℕ → Numbers
renewed n i next = record { next = next; held = set n.held i n.next }

abbrev first_four : List (Option ℕ)
first_four = Some 1 ∷ Some 2 ∷ Some 3 ∷ Some 4 ∷ []

first : (i s : ℕ) → get_or first_four i None ≡ Some s → s ≡ i + 1
first zero s e = sym (same_Some _ _ e)
first (suc zero) s e = sym (same_Some _ _ e)
first (suc (suc zero)) s e = sym (same_Some _ _ e)
first (suc (suc (suc zero))) s e = sym (same_Some _ _ e)
first (suc (suc (suc (suc i)))) s e = absurd (none-some s e)

first-held : (i : ℕ) → i < 4 → get_or first_four i None ≡ Some (i + 1)
first-held zero lt = refl
first-held (suc zero) lt = refl
first-held (suc (suc zero)) lt = refl
first-held (suc (suc (suc zero))) lt = refl
first-held (suc (suc (suc (suc i)))) lt = absurd (omega arith)

-- a new client's numbers
pub tracks-new : (w : ℕ) → 5 ≤ limit w → Tracks w (record { next = Some 5; held = first_four }) []
tracks-new w room = record {
  rightly = λ s h. absurd (not-suc-le-zero h.1);
  next = sym (opens-next w [] room);
  four = refl;
  sound = λ i s lt is. ((omega (arith, first i s is), omega (arith, first i s is)), λ h. not-suc-le-zero h.1);
  complete = λ s op. let lt : s - 1 < 4 = omega (arith, op.0.1, op.0.0) in (s - 1, lt, first-held (s - 1) lt ∙ ap Some (omega (arith, op.0.0)));
  apart = λ i j s lti ltj is js. omega (arith, first i s is, first j s js);
}

module _ (w : ℕ) (n : Numbers) (used : List ℕ) (tr : Tracks w n used) where
  pub not_held : (s : ℕ) → ((k : ℕ) → k < 4 → held_at n k ≡ Some s → ⊥) → Open w used s → ⊥
  not_held s none op = let at = tr.complete s op in none at.0 at.1 at.2

  -- a number is open where it is held
  pub held_decides : (s : ℕ) (r : Option ℕ) → MatchOption r ((k : ℕ) → k < 4 → held_at n k ≡ Some s → ⊥) (λ i. (i < 4) × (held_at n i ≡ Some s)) → Decides (is_some r) (Open w used s)
  held_decides s (Some i) is = (λ e. tr.sound i s is.0 is.1, λ op. refl)
  held_decides s None none = (λ e. absurd (false≢true e), λ op. absurd (not_held s none op))

  module _ (i s : ℕ) (next : Option ℕ) (lt : i < 4) (is : held_at n i ≡ Some s) (behind : Behind w n.next next) where
    after : Numbers
    after = renewed n i next

    here : held_at after i ≡ n.next
    unfolding after
    here = let long : i < length n.held = omega (arith, tr.four) in get_or-set_same n.held i n.next None long

    there : (j : ℕ) → (j ≡ i → ⊥) → held_at after j ≡ held_at n j
    unfolding after
    there j ne = get_or-set_other n.held i j n.next None ne

    op : Open w used s
    op = tr.sound i s lt is

    -- what is held there now is the number that was opened
    new-there : (j t : ℕ) → j ≡ i → held_at after j ≡ Some t → opens w used ≡ Some t
    new-there j t e at = sym tr.next ∙ sym here ∙ ap (held_at after) (sym e) ∙ at

    -- the number that came in is above every number that is held
    above : (j t : ℕ) → j < 4 → opens w used ≡ Some t → held_at n j ≡ Some t → ⊥
    above j t ltj new same =
        let old = tr.sound j t ltj same in
        let lowest = opened_is w used t new in
        omega (arith, old.0.1, lowest.0)

    sound : (j t : ℕ) → j < 4 → held_at after j ≡ Some t → Open w (used ++ s ∷ []) t
    sound j t ltj at = elim (cases_eq j i) [
      | inl e ↦ (steps w used s tr.rightly op t).1 (inr (new-there j t e at))
      | inr ne ↦
          let old = sym (there j ne) ∙ at in
          (steps w used s tr.rightly op t).1 (inl (tr.sound j t ltj old, λ e. ne (tr.apart j i t ltj lt old (is ∙ ap Some (sym e)))))
    ]

    complete : (t : ℕ) → Open w (used ++ s ∷ []) t → (j : ℕ) × (j < 4) × (held_at after j ≡ Some t)
    complete t left = elim ((steps w used s tr.rightly op t).0 left) [
      | inl (old, ne) ↦
          let at = tr.complete t old in
          (at.0, at.1, there at.0 (λ e. ne (same_Some _ _ (sym at.2 ∙ ap (held_at n) e ∙ is))) ∙ at.2)
      | inr new ↦ (i, lt, here ∙ tr.next ∙ new)
    ]

    apart : (j k t : ℕ) → j < 4 → k < 4 → held_at after j ≡ Some t → held_at after k ≡ Some t → j ≡ k
    apart j k t ltj ltk aj ak = elim (cases_eq j i) [
      | inl ej ↦ elim (cases_eq k i) [
        | inl ek ↦ ej ∙ sym ek
        | inr nk ↦ absurd (above k t ltk (new-there j t ej aj) (sym (there k nk) ∙ ak))
      ]
      | inr nj ↦ elim (cases_eq k i) [
        | inl ek ↦ absurd (above j t ltj (new-there k t ek ak) (sym (there j nj) ∙ aj))
        | inr nk ↦ tr.apart j k t ltj ltk (sym (there j nj) ∙ aj) (sym (there k nk) ∙ ak)
      ]
    ]

    pub tracks-more : Tracks w (renewed n i next) (used ++ s ∷ [])
    unfolding after sound complete apart
    tracks-more = record {
      rightly = rightly-more w used s tr.rightly op;
      next = opens-behind w used s next (subst (λ m. Behind w m next) tr.next behind);
      four = length-set n.held i n.next ∙ tr.four;
      sound = sound;
      complete = complete;
      apart = apart;
    }

-- using an open number leaves what its verdict leaves
pub used_open : (w : ℕ) (n more : Numbers) (used : List ℕ) (s : ℕ) (r : Result (Option ℕ) NotOpen) → Open w used s → UsesUp w n more used s r → Tracks w more (used ++ s ∷ [])
used_open w n more used s (Ok opened) is (was, new, tr) = tr
used_open w n more used s (Err e) is (closed, same) = absurd (closed is)
