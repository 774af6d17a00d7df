-- One slot of a window is changed in its place.
use Rattle.std.proofs.Common.{◌≡◌, ℕ, ◌%◌, ◌<◌, List, length, get_or, set, sym, ap, ◌∙◌, subst}
use Rattle.std.proofs.lemmas.List.{get_or_default, get_or-set_same, get_or-set_other, set-get_or}
use Rattle.window.specs.Shares.{shares_of}
use Rattle.window.specs.Windows.{Added, AddedTo, no_slot, slot_in, tag_in, tag_of}
use Rattle.window.specs.declared.ring.Window.{Window}
use Rattle.window.specs.declared.slot.Slot.{Slot}
use Rattle.window.proofs.ShareLaws.{shares-added}

module _ (w : Window) (v p : ℕ) (place : p ≡ v % 32) (was now : Slot) (lt : p < length w.slots) where
  after : Window
  after = record { slots = set w.slots p now }

  here : slot_in after v ≡ now
  unfolding after
  here = ap (λ k. get_or (set w.slots p now) k no_slot) (sym place) ∙ get_or-set_same w.slots p now no_slot lt

  before : get_or w.slots p was ≡ slot_in w v
  before = get_or_default w.slots p was no_slot lt ∙ ap (λ k. get_or w.slots k no_slot) place

  pub added : (signer : ℕ) (tag : List ℕ) (answer : ℕ) → AddedTo (get_or w.slots p was) now signer tag → answer ≡ shares_of (tag_of now)
      → Added w (record { slots = set w.slots p now }) v signer tag answer
  unfolding after here
  added signer tag answer to count =
      let this : AddedTo (slot_in w v) (slot_in after v) signer tag = subst (λ s. AddedTo (slot_in w v) s signer tag) (sym here) (subst (λ s. AddedTo s now signer tag) before to) in
      let counted : answer ≡ shares_of (tag_in after v) = count ∙ ap (λ (s : Slot). shares_of (tag_of s)) (sym here) in
      let put : List Slot → Window = λ xs. record { slots = xs } in
      record {
        this = this;
        others = λ u ne. get_or-set_other w.slots p (u % 32) now no_slot (λ e. ne (e ∙ place));
        none = λ past. ap put (ap (set w.slots p) (to.none past) ∙ set-get_or w.slots p was);
        count = counted;
        more = λ below none. counted ∙ shares-added (tag_in w v) (tag_in after v) 16 signer tag below none (this.tagged below) this.signers;
      }
