-- One client's numbers among those of all.
use Rattle.std.proofs.Common.{◌≡◌, ℕ, ◌<◌, List, [], ◌∷◌, ◌++◌, length, set, Option, Ok, Err, Result, sym, ap, ◌∙◌, subst, inl, inr}
use Rattle.std.proofs.lemmas.List.{get_or-set_same, get_or-set_other, set-get_or}
use Rattle.std.proofs.lemmas.Bool.{cases_eq}
use Rattle.numbers.specs.Clients.{TracksAll, UsedMore, UsesUpOf, no_numbers, numbers_of}
use Rattle.numbers.specs.Tracking.{Tracks, Untouched, UsesUp}
use Rattle.numbers.specs.declared.client.NotOpen.{NotOpen}
use Rattle.numbers.specs.declared.client.Numbers.{Numbers}
use Rattle.numbers.specs.declared.clients.Clients.{Clients}

abbrev pub replaced : Clients → ℕ → Numbers → Clients
replaced c client n = record { numbers = set c.numbers client n }

module _ (c : Clients) (client : ℕ) (n : Numbers) where
  pub others-kept : (k : ℕ) → (k ≡ client → ⊥) → numbers_of (replaced c client n) k ≡ numbers_of c k
  others-kept k ne = get_or-set_other c.numbers client k n no_numbers ne

  same : n ≡ numbers_of c client → replaced c client n ≡ c
  same e = let put : List Numbers → Clients = λ xs. record { numbers = xs } in
      ap put (ap (set c.numbers client) e ∙ set-get_or c.numbers client no_numbers)

  pub all_untouched : (r : Result (Option ℕ) NotOpen) → Untouched (numbers_of c client) n r → Untouched c (replaced c client n) r
  all_untouched (Ok opened) u = tt
  all_untouched (Err none) e = same e

  module _ (w s : ℕ) (below : client < 16) (there : client < length c.numbers) (used : ℕ → List ℕ) (tr : TracksAll w c used) where
    all_more : Tracks w n (used client ++ s ∷ []) → (more : ℕ → List ℕ) → UsedMore used client s more → TracksAll w (replaced c client n) more
    all_more one more (this, rest) k lt = elim (cases_eq k client) [
      | inl e ↦
          let v : n ≡ numbers_of (replaced c client n) k = sym (ap (numbers_of (replaced c client n)) e ∙ get_or-set_same c.numbers client n no_numbers there) in
          let u : used client ++ s ∷ [] ≡ more k = sym (ap more e ∙ this) in
          subst (Tracks w (numbers_of (replaced c client n) k)) u (subst (λ m. Tracks w m (used client ++ s ∷ [])) v one)
      | inr ne ↦
          let v : numbers_of c k ≡ numbers_of (replaced c client n) k = sym (others-kept k ne) in
          subst (Tracks w (numbers_of (replaced c client n) k)) (sym (rest k ne)) (subst (λ m. Tracks w m (used k)) v (tr k lt))
    ]

    pub all_uses : (r : Result (Option ℕ) NotOpen) → UsesUp w (numbers_of c client) n (used client) s r → UsesUpOf w c (replaced c client n) used client s r
    all_uses (Ok opened) (op, is, one) = (below, op, is, all_more one)
    all_uses (Err none) (closed, e) = (λ _. closed, same e)
