-- A search through the writes of an entry, as they stand in the frame.
use Rattle.std.proofs.Common.{◌≡◌, ℕ, ◌<◌, Bool, true, false, List, [], map, length, get_or, sym, refl, subst, arith}
use Rattle.std.specs.Bool.{Decides, MatchBool}
use Rattle.std.specs.List.{AllWithin, ContainsAt as Has, HoldsAt}
use Rattle.std.proofs.ByRecursion.{has_get_or}
use Rattle.std.proofs.lemmas.Bool.{false≢true}
use Rattle.entry.specs.Bodies.{EntryBody, ItemBody}
use Rattle.reader.specs.Checks.{Writes, item_of}
use Rattle.reader.specs.Entries.{Records}
use Rattle.reader.proofs.Members.{has-map, has_unmap}

-- one write was found, or each was passed over: what is looked for is true of the entry, or is not
module _ (P : ItemBody → Type 0) (e : EntryBody) (R : Type 0) (to : (i : ItemBody) → Has e.items i → P i → R) (from : R → (i : ItemBody) × (Has e.items i × P i)) where
  pub told : (r : Bool) → MatchBool r ((k : ℕ) × (k < length e.items) × HoldsAt P e.items k) (AllWithin (λ i. P i → ⊥) e.items 0 (length e.items)) → Decides r R
  told true (k, lt, there) = (λ t. to (get_or e.items k nothing) (has_get_or e.items k nothing lt) (there nothing), λ h. refl)
    where
      nothing : ItemBody
      nothing = record { item = 0; digest = [] }
  told false none = (
    λ t. absurd (false≢true t),
    λ h. let w = from h in let (k, lt, is) = w.1.0 in absurd (none k w.0 (omega arith) lt (subst P (sym (is w.0)) w.1.1)),
  )

-- the two searches
module _ (e : EntryBody) (x : ℕ) where
  pub to_item : (i : ItemBody) → Has e.items i → i.item ≡ x → Writes e x
  to_item i m q = subst (λ (y : ℕ). Has (map item_of e.items) y) q (has-map item_of e.items i m)

  pub from-item : Writes e x → (i : ItemBody) × (Has e.items i × (i.item ≡ x))
  from-item w = has_unmap item_of e.items x w

  module _ (d : List ℕ) where
    pub to_record : (i : ItemBody) → Has e.items i → (i.item ≡ x) × (i.digest ≡ d) → Records e x d
    to_record i m (q, r) = subst (λ (j : ItemBody). Has e.items j) (λ k. record { item = q k; digest = r k }) m

    pub from_record : Records e x d → (i : ItemBody) × (Has e.items i × ((i.item ≡ x) × (i.digest ≡ d)))
    from_record m = (record { item = x; digest = d }, (m, (refl, refl)))
