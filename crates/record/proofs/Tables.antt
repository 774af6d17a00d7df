-- One turn of the loops that go through a table of tests, and their ends.
use Rattle.std.proofs.Common.{◌≡◌, ℕ, ◌+◌, ◌<◌, ◌≤◌, true, false, ◌||◌, eqb, List, map, length, get_or, drop, Some, Ok, Err, Option, Result, sym, ap, ◌∙◌}
use Rattle.std.proofs.lemmas.List.{at_drop_more, at_drop_all}
use Rattle.std.proofs.lemmas.Bool.{eq-eqb, ne_eqb}
use Rattle.fault.specs.declared.Fault.{Fault}
use Rattle.fault.specs.declared.Layer.{Layer}
use Rattle.fault.specs.declared.Cause.TheVariants.{NotRising, Unread}
use Rattle.fault.specs.Codes.{fault}
use Rattle.record.specs.Chains.{unless, tested}
use Rattle.record.specs.Rules.{above, rising, among, covered}
use Rattle.record.specs.Runs.{spotted}

module _ {R : Type 0} (l : Layer) (number place : R → ℕ) (xs : List R) (i : ℕ) (last : Option ℕ) (x : R) (within : i < length xs) (is : x ≡ get_or xs i x) where
  abbrev rise-left : List R → Option ℕ → Result (Unit {0}) Fault
  rise-left rs m = tested (rising l m (spotted number place rs))

  rise-next : rise-left (drop i xs) last ≡ unless (above last (number x)) (fault NotRising l (place x)) (rise-left (drop (i + 1) xs) (Some (number x)))
  rise-next =
      at_drop_more (λ rs. rise-left rs last) xs i x within
      ∙ ap (λ y. unless (above last (number y)) (fault NotRising l (place y)) (rise-left (drop (i + 1) xs) (Some (number y)))) (sym is)

  pub rise_turn : above last (number x) ≡ true → tested (rising l (Some (number x)) (spotted number place (drop (i + 1) xs))) ≡ tested (rising l last (spotted number place (drop i xs)))
  rise_turn h = sym (rise-next ∙ ap (λ b. unless b (fault NotRising l (place x)) (rise-left (drop (i + 1) xs) (Some (number x)))) h)

  pub rise_stop : above last (number x) ≡ false → Err (fault NotRising l (place x)) ≡ tested (rising l last (spotted number place (drop i xs)))
  rise_stop h = sym (rise-next ∙ ap (λ b. unless b (fault NotRising l (place x)) (rise-left (drop (i + 1) xs) (Some (number x)))) h)

pub rise-end : {R : Type 0} (l : Layer) (number place : R → ℕ) (xs : List R) (i : ℕ) (last : Option ℕ) → length xs ≤ i → Ok tt ≡ tested (rising l last (spotted number place (drop i xs)))
rise-end l number place xs i last h = sym (at_drop_all (λ rs. tested (rising l last (spotted number place rs))) xs i h)

module _ {R : Type 0} (number : R → ℕ) (key : ℕ) (xs : List R) (i : ℕ) (x : R) (within : i < length xs) (is : x ≡ get_or xs i x) where
  next-has : among key (map number (drop i xs)) ≡ (eqb (number x) key || among key (map number (drop (i + 1) xs)))
  next-has = at_drop_more (λ rs. among key (map number rs)) xs i x within ∙ ap (λ y. eqb (number y) key || among key (map number (drop (i + 1) xs))) (sym is)

  pub key_found : number x ≡ key → true ≡ among key (map number (drop i xs))
  key_found h = sym (next-has ∙ ap (λ b. b || among key (map number (drop (i + 1) xs))) (eq-eqb (number x) key h))

  pub key_passed : (number x ≡ key → ⊥) → among key (map number (drop (i + 1) xs)) ≡ among key (map number (drop i xs))
  key_passed h = sym (next-has ∙ ap (λ b. b || among key (map number (drop (i + 1) xs))) (ne_eqb (number x) key h))

pub key_none : {R : Type 0} (number : R → ℕ) (key : ℕ) (xs : List R) (i : ℕ) → length xs ≤ i → false ≡ among key (map number (drop i xs))
key_none number key xs i h = sym (at_drop_all (λ rs. among key (map number rs)) xs i h)

module _ {W : Type 0} (l : Layer) (known : List ℕ) (number place : W → ℕ) (ws : List W) (i : ℕ) (w : W) (within : i < length ws) (is : w ≡ get_or ws i w) where
  abbrev cover_left : List W → Result (Unit {0}) Fault
  cover_left rs = tested (covered l known (spotted number place rs))

  cover_next : cover_left (drop i ws) ≡ unless (among (number w) known) (fault Unread l (place w)) (cover_left (drop (i + 1) ws))
  cover_next =
      at_drop_more cover_left ws i w within
      ∙ ap (λ y. unless (among (number y) known) (fault Unread l (place y)) (cover_left (drop (i + 1) ws))) (sym is)

  pub cover_turn : among (number w) known ≡ true → tested (covered l known (spotted number place (drop (i + 1) ws))) ≡ tested (covered l known (spotted number place (drop i ws)))
  cover_turn h = sym (cover_next ∙ ap (λ b. unless b (fault Unread l (place w)) (cover_left (drop (i + 1) ws))) h)

  pub cover_stop : among (number w) known ≡ false → Err (fault Unread l (place w)) ≡ tested (covered l known (spotted number place (drop i ws)))
  cover_stop h = sym (cover_next ∙ ap (λ b. unless b (fault Unread l (place w)) (cover_left (drop (i + 1) ws))) h)

pub cover_end : {W : Type 0} (l : Layer) (known : List ℕ) (number place : W → ℕ) (ws : List W) (i : ℕ) → length ws ≤ i → Ok tt ≡ tested (covered l known (spotted number place (drop i ws)))
cover_end l known number place ws i h = sym (at_drop_all (λ rs. tested (covered l known (spotted number place rs))) ws i h)
