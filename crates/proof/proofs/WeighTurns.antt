-- One turn of the loops over records and entries that are to be written.
use Rattle.std.proofs.Common.{◌≡◌, ℕ, zero, suc, ◌+◌, ◌-◌, ◌<◌, ◌≤◌, Bool, leb, List, [], ◌∷◌, map, length, get_or, drop, Some, None, Ok, Err, Option, Result, sym, refl, ap, ◌∙◌, arith}
use Rattle.std.proofs.lemmas.List.{at_drop_more, at_drop_all}
use Rattle.std.proofs.lemmas.Bool.{le-leb, eq-eqb, and_from}
use Rattle.fault.specs.declared.Fault.{Fault}
use Rattle.fault.specs.declared.Layer.TheVariants.{Proof}
use Rattle.fault.specs.declared.Cause.TheVariants.{Malformed}
use Rattle.fault.specs.Codes.{fault}
use Rattle.record.specs.Chains.{unless, and_then, guards, tested}
use Rattle.record.specs.Formats.{is, up_to, within}
use Rattle.record.proofs.Steps.{pass, then_ok, then_err}
use Rattle.entry.specs.Bodies.{SealedBody, sealed_body}
use Rattle.entry.specs.declared.parts.SealedEntry.{SealedEntry}
use Rattle.proof.specs.Rules.{numbered, item_number, pair_number}
use Rattle.proof.specs.Writing.{weigh_records, weigh_sealed, weigh_entries}
use Rattle.proof.proofs.Turns.{judged_ok, judged_err}

-- the records' numbers are all that counts
pub weigh_map : {X B : Type 0} (body : X → B) (key : B → ℕ) (top size : ℕ) (asked : Option ℕ) (n : ℕ) (last : Option ℕ) (xs : List X) (at : ℕ) → weigh_records (λ x. key (body x)) top size asked n last xs at ≡ weigh_records key top size asked n last (map body xs) at
weigh_map body key top size asked zero last [] at = refl
weigh_map body key top size asked zero last (x ∷ xs) at = refl
weigh_map body key top size asked (suc n) last [] at = refl
weigh_map body key top size asked (suc n) last (x ∷ xs) at =
    ap (λ r. unless (up_to top (key (body x))) (fault Malformed Proof at) (guards (numbered asked last (key (body x)) at) r))
    (weigh_map body key top size asked n (Some (key (body x))) xs (at + 1 + size))

module _ {R : Type 0} (key : R → ℕ) (top size : ℕ) (asked last : Option ℕ) (xs : List R) (i : ℕ) (n at : ℕ) where
  abbrev pub left : Result ℕ Fault
  left = weigh_records key top size asked n last (drop i xs) at

  module _ (x : R) (within : i < length xs) (is : x ≡ get_or xs i x) where
    here : left ≡ weigh_records key top size asked n last (x ∷ drop (i + 1) xs) at
    here =
        at_drop_more (λ l. weigh_records key top size asked n last l at) xs i x within
        ∙ ap (λ y. weigh_records key top size asked n last (y ∷ drop (i + 1) xs) at) (sym is)

    pub too_many : n ≡ 0 → left ≡ Err (fault Malformed Proof at)
    too_many z = here ∙ ap (λ m. weigh_records key top size asked m last (x ∷ drop (i + 1) xs) at) z

    abbrev rows : List (Bool × Fault)
    rows = numbered asked last (key x) at

    abbrev rest : Result ℕ Fault
    rest = weigh_records key top size asked (n - 1) (Some (key x)) (drop (i + 1) xs) (at + 1 + size)

    judged : 0 < n → left ≡ unless (up_to top (key x)) (fault Malformed Proof at) (guards rows rest)
    judged h = let m : n ≡ suc (n - 1) = omega arith in here ∙ ap (λ k. weigh_records key top size asked k last (x ∷ drop (i + 1) xs) at) m

    pub bad_one : (f : Fault) → 0 < n → unless (up_to top (key x)) (fault Malformed Proof at) (tested rows) ≡ Err f → left ≡ Err f
    bad_one f h e = judged h ∙ judged_err rest (up_to top (key x)) (fault Malformed Proof at) rows f e

    pub next_one : 0 < n → unless (up_to top (key x)) (fault Malformed Proof at) (tested rows) ≡ Ok tt → left ≡ rest
    next_one h e = judged h ∙ judged_ok rest (up_to top (key x)) (fault Malformed Proof at) rows e

  pub too_few : length xs ≤ i → 0 < n → left ≡ Err (fault Malformed Proof at)
  too_few h z =
      let m : n ≡ suc (n - 1) = omega arith in
      at_drop_all (λ l. weigh_records key top size asked n last l at) xs i h ∙ ap (λ k. weigh_records key top size asked k last [] at) m

  pub all_there : length xs ≤ i → n ≡ 0 → left ≡ Ok at
  all_there h z = at_drop_all (λ l. weigh_records key top size asked n last l at) xs i h ∙ ap (λ k. weigh_records key top size asked k last [] at) z

module _ (w f due : ℕ) (xs : List SealedEntry) (i at : ℕ) where
  abbrev pub entries-left : Result ℕ Fault
  entries-left = weigh_entries w f due (map sealed_body (drop i xs)) at

  module _ (x : SealedEntry) (within : i < length xs) (is : x ≡ get_or xs i x) where
    entry_here : entries-left ≡ and_then (weigh_sealed w f due (sealed_body x) at) (λ e. weigh_entries w f (due + 1) (map sealed_body (drop (i + 1) xs)) e)
    entry_here =
        at_drop_more (λ l. weigh_entries w f due (map sealed_body l) at) xs i x within
        ∙ ap (λ y. weigh_entries w f due (map sealed_body (y ∷ drop (i + 1) xs)) at) (sym is)

    pub bad_sealed : (d : Fault) → weigh_sealed w f due (sealed_body x) at ≡ Err d → entries-left ≡ Err d
    bad_sealed d q = entry_here ∙ then_err (weigh_sealed w f due (sealed_body x) at) (λ e. weigh_entries w f (due + 1) (map sealed_body (drop (i + 1) xs)) e) d q

    pub next-sealed : (e : ℕ) → weigh_sealed w f due (sealed_body x) at ≡ Ok e → entries-left ≡ weigh_entries w f (due + 1) (map sealed_body (drop (i + 1) xs)) e
    next-sealed e q = entry_here ∙ then_ok (weigh_sealed w f due (sealed_body x) at) (λ e. weigh_entries w f (due + 1) (map sealed_body (drop (i + 1) xs)) e) e q

  pub no_sealed : length xs ≤ i → entries-left ≡ Ok at
  no_sealed h = at_drop_all (λ l. weigh_entries w f due (map sealed_body l) at) xs i h

-- a sealed entry whose version and count pass
pub sealed_weighed : (w f due : ℕ) (s : SealedBody) (at : ℕ) → s.entry.version ≡ due → 1 ≤ length s.entry.items → length s.entry.items ≤ 8
    → weigh_sealed w f due s at ≡ and_then (weigh_records item_number 63 32 None (length s.entry.items) None s.entry.items (at + w + 1)) (λ e. weigh_records pair_number 255 16 (Some f) (f + 1) None s.pairs e)
sealed_weighed w f due s at dated some few =
    let n = length s.entry.items in
    let r = and_then (weigh_records item_number 63 32 None n None s.entry.items (at + w + 1)) (λ e. weigh_records pair_number 255 16 (Some f) (f + 1) None s.pairs e) in
    pass (is due s.entry.version) (fault Malformed Proof at) (unless (within 1 8 n) (fault Malformed Proof (at + w)) r) (eq-eqb s.entry.version due dated)
    ∙ pass (within 1 8 n) (fault Malformed Proof (at + w)) r (and_from (leb 1 n) (leb n 8) (le-leb 1 n some) (le-leb n 8 few))
