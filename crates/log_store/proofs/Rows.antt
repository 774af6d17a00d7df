-- What a row of records means, one record at a time.
use Rattle.std.proofs.Common.{◌≡◌, ℕ, Bool, true, false, cond, ◌||◌, eqb, List, [], ◌∷◌, ◌++◌, find, reverse, Some, None, Option, sym, refl, ap, ◌∙◌}
use Rattle.std.specs.List.{list_any}
use Rattle.std.specs.Option.{option_or}
use Rattle.std.proofs.lemmas.List.{reverse-append}
use Rattle.std.proofs.lemmas.List.Folds.{find-append}
use Rattle.std.proofs.lemmas.Bool.{eq-eqb, ne_eqb, or_parts}
use Rattle.store.specs.Slot.{Slot, slot, blank}
use Rattle.log_store.specs.Records.{item_of, has, last_or, latest}
use Rattle.log_store.specs.declared.records.LogRecord.{LogRecord}

pub last_none : (s : Slot) (rs : List LogRecord) (x : ℕ) → has rs x ≡ false → last_or s rs x ≡ s
last_none s [] x e = refl
last_none s (r ∷ rs) x e =
    let parts = or_parts (eqb (item_of r) x) (has rs x) e in
    ap (λ b. last_or (cond b (slot r.row) s) rs x) parts.0 ∙ last_none s rs x parts.1

pub last_split : (s : Slot) (before after : List LogRecord) (r : LogRecord) → has after (item_of r) ≡ false → last_or s (before ++ r ∷ after) (item_of r) ≡ slot r.row
last_split s [] after r e = ap (λ b. last_or (cond b (slot r.row) s) after (item_of r)) (eq-eqb (item_of r) (item_of r) refl) ∙ last_none (slot r.row) after (item_of r) e
last_split s (q ∷ before) after r e = last_split (cond (eqb (item_of q) (item_of r)) (slot q.row) s) before after r e

-- one of the records is the item's
pub any-has : (rs : List LogRecord) (x : ℕ) → list_any (λ r. eqb (item_of r) x) rs ≡ has rs x
any-has [] x = refl
any-has (r ∷ rs) x = ap (λ b. eqb (item_of r) x || b) (any-has rs x)

-- what the first record of the item from the end says, or s where there is none
pub told_by : Slot → Option LogRecord → Slot
told_by s (Some r) = slot r.row
told_by s None = s

told_last : (s : Slot) (r : LogRecord) (b : Bool) (found : Option LogRecord) → told_by s (option_or found (cond b (Some r) None)) ≡ told_by (cond b (slot r.row) s) found
unfolding told_by
told_last s r true (Some q) = refl
told_last s r false (Some q) = refl
told_last s r true None = refl
told_last s r false None = refl

last-found : (s : Slot) (rs : List LogRecord) (x : ℕ) → told_by s (find (λ r. eqb (item_of r) x) (reverse rs)) ≡ last_or s rs x
unfolding told_by
last-found s [] x = refl
last-found s (r ∷ rs) x =
    ap (λ (ls : List LogRecord). told_by s (find (λ q. eqb (item_of q) x) ls)) (reverse-append (r ∷ []) rs)
    ∙ ap (told_by s) (find-append (λ q. eqb (item_of q) x) (reverse rs) (r ∷ []))
    ∙ told_last s r (eqb (item_of r) x) (find (λ q. eqb (item_of q) x) (reverse rs))
    ∙ last-found (cond (eqb (item_of r) x) (slot r.row) s) rs x

pub latest_some : (rs : List LogRecord) (x : ℕ) (r : LogRecord) → find (λ q. eqb (item_of q) x) (reverse rs) ≡ Some r → slot r.row ≡ latest rs x
unfolding told_by
latest_some rs x r e = sym (ap (told_by blank) e) ∙ last-found blank rs x

pub latest_none : (rs : List LogRecord) (x : ℕ) → find (λ q. eqb (item_of q) x) (reverse rs) ≡ None → blank ≡ latest rs x
unfolding told_by
latest_none rs x e = sym (ap (told_by blank) e) ∙ last-found blank rs x

-- one record more
pub last_push : (s : Slot) (rs : List LogRecord) (r : LogRecord) (x : ℕ) → last_or s (rs ++ r ∷ []) x ≡ cond (eqb (item_of r) x) (slot r.row) (last_or s rs x)
last_push s [] r x = refl
last_push s (q ∷ rs) r x = last_push (cond (eqb (item_of q) x) (slot q.row) s) rs r x

pub push_same : (rs : List LogRecord) (r : LogRecord) → latest (rs ++ r ∷ []) (item_of r) ≡ slot r.row
push_same rs r = last_push blank rs r (item_of r) ∙ ap (λ b. cond b (slot r.row) (latest rs (item_of r))) (eq-eqb (item_of r) (item_of r) refl)

pub push_other : (rs : List LogRecord) (r : LogRecord) (x : ℕ) → (x ≡ item_of r → ⊥) → latest (rs ++ r ∷ []) x ≡ latest rs x
push_other rs r x ne = last_push blank rs r x ∙ ap (λ b. cond b (slot r.row) (latest rs x)) (ne_eqb (item_of r) x (λ e. ne (sym e)))
