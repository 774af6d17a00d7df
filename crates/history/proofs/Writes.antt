-- What a write set writes to an item, write by write, and a store that installs one write after the other.
use Rattle.std.proofs.Common.{◌≡◌, ℕ, zero, suc, ◌<◌, Bool, true, false, cond, eqb, List, [], ◌∷◌, ◌++◌, length, get_or, Some, None, Option, sym, refl, ap, ◌∙◌, inl, inr, le_of_suc-le-suc, not-suc-le-zero, arith}
use Rattle.std.specs.List.{ContainsAt as Has, AllByRecursion as All}
use Rattle.std.proofs.ByRecursion.{All-from_get_or, has_append_right}
use Rattle.std.proofs.lemmas.Bool.{cases_eq, eq-eqb, ne_eqb}
use Rattle.request.specs.Bodies.{WriteBody}
use Rattle.history.specs.Commits.{Left, leave, written}
use Rattle.history.proofs.Deciding.{has_head}

-- the value of one write, if it is to this item
abbrev pub one_write : WriteBody → ℕ → Option (List ℕ)
one_write w x = cond (eqb w.item x) (Some w.value) None

abbrev pub or_else : Option (List ℕ) → Option (List ℕ) → Option (List ℕ)
or_else (Some v) o = Some v
or_else None o = o

or_cond : (b : Bool) (v : List ℕ) (o p : Option (List ℕ)) → or_else (cond b (Some v) o) p ≡ cond b (Some v) (or_else o p)
or_cond true v o p = refl
or_cond false v o p = refl

pub written_none : (x : ℕ) → written [] x ≡ None
unfolding written
written_none x = refl

pub written_cons : (w : WriteBody) (ws : List WriteBody) (x : ℕ) → written (w ∷ ws) x ≡ or_else (written ws x) (one_write w x)
unfolding written
written_cons w ws x =
    elim (written ws x) as (λ o. (elim o [ Some v ↦ Some v | None ↦ one_write w x ]) ≡ or_else o (one_write w x)) [ Some v ↦ refl | None ↦ refl ]

-- the last write to an item counts
pub written_push : (ws : List WriteBody) (w : WriteBody) (x : ℕ) → written (ws ++ w ∷ []) x ≡ cond (eqb w.item x) (Some w.value) (written ws x)
unfolding written
written_push [] w x = refl
written_push (u ∷ ws) w x =
    written_cons u (ws ++ w ∷ []) x
    ∙ ap (λ o. or_else o (one_write u x)) (written_push ws w x)
    ∙ or_cond (eqb w.item x) w.value (written ws x) (one_write u x)
    ∙ ap (λ o. cond (eqb w.item x) (Some w.value) o) (sym (written_cons u ws x))

pub written_push_same : (ws : List WriteBody) (w : WriteBody) (x : ℕ) → x ≡ w.item → written (ws ++ w ∷ []) x ≡ Some w.value
written_push_same ws w x e = written_push ws w x ∙ ap (λ b. cond b (Some w.value) (written ws x)) (eq-eqb w.item x (sym e))

pub written_push_other : (ws : List WriteBody) (w : WriteBody) (x : ℕ) → (x ≡ w.item → ⊥) → written (ws ++ w ∷ []) x ≡ written ws x
written_push_other ws w x ne =
    written_push ws w x ∙ ap (λ b. cond b (Some w.value) (written ws x)) (ne_eqb w.item x (λ e. ne (sym e)))

-- no write to the item
pub written_missing : (ws : List WriteBody) (x : ℕ) → All (λ w. w.item ≡ x → ⊥) ws → written ws x ≡ None
written_missing [] x all = written_none x
written_missing (w ∷ ws) x (ne, all) =
    written_cons w ws x
    ∙ ap (λ o. or_else o (one_write w x)) (written_missing ws x all)
    ∙ ap (λ b. cond b (Some w.value) None) (ne_eqb w.item x ne)

-- a write to whose item no later one writes, as where items rise
pub written_at : (ws : List WriteBody) (i : ℕ) (d : WriteBody) → i < length ws
    → ((j : ℕ) → i < j → j < length ws → (get_or ws j d).item ≡ (get_or ws i d).item → ⊥)
    → written ws (get_or ws i d).item ≡ Some (get_or ws i d).value
written_at [] i d lt apart = absurd (not-suc-le-zero lt)
written_at (w ∷ ws) zero d lt apart =
    let later = All-from_get_or (λ u. u.item ≡ w.item → ⊥) ws d (λ j below. apart (suc j) (omega arith) (omega arith)) in
    written_cons w ws w.item
    ∙ ap (λ o. or_else o (one_write w w.item)) (written_missing ws w.item later)
    ∙ ap (λ b. cond b (Some w.value) None) (eq-eqb w.item w.item refl)
written_at (w ∷ ws) (suc i) d lt apart =
    let x = (get_or ws i d).item in
    written_cons w ws x ∙ ap (λ o. or_else o (one_write w x)) (written_at ws i d (le_of_suc-le-suc lt) (λ j past below. apart (suc j) (omega arith) (omega arith)))

-- what is written to an item is some write's value
abbrev pub FromWrite : List WriteBody → ℕ → List ℕ → Type 0
FromWrite ws x v = (w : WriteBody) × (Has ws w × (w.item ≡ x) × (w.value ≡ v))

from_step : (w : WriteBody) (ws : List WriteBody) (x : ℕ) (v : List ℕ) (o : Option (List ℕ)) → (o ≡ Some v → FromWrite ws x v) → or_else o (one_write w x) ≡ Some v → FromWrite (w ∷ ws) x v
from_step w ws x v (Some u) before e =
    let (y, (h, p, q)) = before e in (y, (has_append_right (w ∷ []) ws y h, p, q))
from_step w ws x v None before e = elim (cases_eq w.item x) [
  | inl same ↦ (w, (has_head w ws, same, let s : Some w.value ≡ Some v = sym (ap (λ b. cond b (Some w.value) None) (eq-eqb w.item x same)) ∙ e in cc))
  | inr ne ↦
      let s : ◌≡◌ {A = Option (List ℕ)} None (Some v) = sym (ap (λ b. cond b (Some w.value) None) (ne_eqb w.item x ne)) ∙ e in
      let z : ◌≡◌ {A = ℕ} 0 1 = cc in
      absurd (omega arith)
]

pub written_from : (ws : List WriteBody) (x : ℕ) (v : List ℕ) → written ws x ≡ Some v → FromWrite ws x v
written_from [] x v e =
    let s : ◌≡◌ {A = Option (List ℕ)} None (Some v) = sym (written_none x) ∙ e in
    let z : ◌≡◌ {A = ℕ} 0 1 = cc in
    absurd (omega arith)
written_from (w ∷ ws) x v e = from_step w ws x v (written ws x) (written_from ws x v) (sym (written_cons w ws x) ∙ e)

-- A loop over the writes of commit k, at one item x: m says what is held for what is left there, l is what was left before the loop, done the writes so far.
module _ {Y : Type 0} (m : Left → Y) (k : ℕ) (x : ℕ) (l : Left) where
  pub install_none : m l ≡ m (leave k (written [] x) l)
  unfolding written
  install_none = refl

  pub install_more : (done : List WriteBody) (w : WriteBody) (mid new : Y)
      → mid ≡ m (leave k (written done x) l)
      → (x ≡ w.item → new ≡ m (record { version = k; value = w.value }))
      → ((x ≡ w.item → ⊥) → new ≡ mid)
      → new ≡ m (leave k (written (done ++ w ∷ []) x) l)
  install_more done w mid new is sets others = elim (cases_eq x w.item) [
    | inl e ↦ sets e ∙ sym (ap (λ o. m (leave k o l)) (written_push_same done w x e))
    | inr ne ↦ others ne ∙ is ∙ sym (ap (λ o. m (leave k o l)) (written_push_other done w x ne))
  ]

-- one write of commit k, put over what the items hold
abbrev pub put : ℕ → WriteBody → (ℕ → Left) → ℕ → Left
put k w old x = cond (eqb w.item x) (record { version = k; value = w.value }) (old x)

-- the writes put one after the other
unfoldable pub overlaid : ℕ → List WriteBody → (ℕ → Left) → ℕ → Left
overlaid k [] old x = old x
overlaid k (w ∷ ws) old x = overlaid k ws (put k w old) x

leave-cond : (k : ℕ) (o : Option (List ℕ)) (b : Bool) (v : List ℕ) (l : Left) → leave k o (cond b (record { version = k; value = v }) l) ≡ leave k (or_else o (cond b (Some v) None)) l
leave-cond k (Some u) b v l = refl
leave-cond k None true v l = refl
leave-cond k None false v l = refl

pub overlaid_leaves : (k : ℕ) (ws : List WriteBody) (old : ℕ → Left) (x : ℕ) → overlaid k ws old x ≡ leave k (written ws x) (old x)
unfolding overlaid written
overlaid_leaves k [] old x = refl
overlaid_leaves k (w ∷ ws) old x =
    overlaid_leaves k ws (put k w old) x
    ∙ leave-cond k (written ws x) (eqb w.item x) w.value (old x)
    ∙ ap (λ o. leave k o (old x)) (sym (written_cons w ws x))
