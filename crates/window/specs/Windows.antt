-- What a window holds for each version, and what its calls change.
use Rattle.std.specs.Prelude.{◌≡◌, ℕ, ◌+◌, ◌%◌, ◌<◌, ◌≤◌, List, replicate, Some, None, Option, ◌≢◌, slice_index_or, refl}
use Rattle.std.proofs.Common.{zero-le}
use Rattle.entry.specs.declared.parts.Entry.{Entry}
use Rattle.entry.specs.Bodies.{EntryBody, PairBody, entry_body}
use Rattle.window.specs.Shares.{pairs_of, shares_of}
use Rattle.window.specs.declared.ring.Window.{Window}
use Rattle.window.specs.declared.slot.Slot.{Slot}

-- stands where a list of slots has none
abbrev pub no_slot : Slot
no_slot = record {
  entry = record {
    version = 0;
    items = record {
      places = replicate 8 (record { item = 0; digest = replicate 32 0; whole = refl });
      len = 0;
      within = zero-le;
      whole = refl;
    };
    fits = zero-le;
  };
  tags = replicate 16 None;
  whole = refl;
}

-- the tag of a signer in a slot
abbrev pub tag_of : Slot → ℕ → Option (List ℕ)
tag_of slot s = slice_index_or slot.tags s None

-- the slot of a version: 32 versions apart share one
abbrev pub slot_in : Window → ℕ → Slot
slot_in w v = slice_index_or w.slots (v % 32) no_slot

-- the entry in that slot
abbrev pub entry_in : Window → ℕ → EntryBody
entry_in w v = entry_body (slot_in w v).entry

-- the tag of a signer there
abbrev pub tag_in : Window → ℕ → ℕ → Option (List ℕ)
tag_in w v = tag_of (slot_in w v)

-- how many shares it has
abbrev pub shares_in : Window → ℕ → ℕ
shares_in w v = shares_of (tag_in w v)

-- its shares in order of signer
abbrev pub pairs_in : Window → ℕ → List PairBody
pairs_in w v = pairs_of (tag_in w v)

-- The slots of all versions but those that share one with v are as they were.
abbrev pub OthersKept : Window → Window → ℕ → Type 0
OthersKept before after v = (u : ℕ) → (u % 32 ≢ v % 32) → slot_in after u ≡ slot_in before u

-- An entry was kept: its slot holds it, with no shares, and no other slot changed.
pub record Kept (before after : Window) (entry : Entry) : Type 0 where
  pub this : (slot_in after entry.version).entry ≡ entry
  pub body : entry_in after entry.version ≡ entry_body entry
  pub none : (s : ℕ) → tag_in after entry.version s ≡ None
  pub others : OthersKept before after entry.version

-- A share was put into a slot: the tag of that one signer is now this, also where it had sent one before.
-- A signer that there is not changes nothing.
pub record AddedTo (before after : Slot) (signer : ℕ) (tag : List ℕ) : Type 0 where
  pub tagged : signer < 16 → tag_of after signer ≡ Some tag
  pub signers : (s : ℕ) → (s ≢ signer) → tag_of after s ≡ tag_of before s
  pub entry : after.entry ≡ before.entry
  pub none : 16 ≤ signer → after ≡ before

-- A share was added to the entry of a version: no other signer and no other entry changed, and the answer is the number of shares.
pub record Added (before after : Window) (v signer : ℕ) (tag : List ℕ) (answer : ℕ) : Type 0 where
  pub this : AddedTo (slot_in before v) (slot_in after v) signer tag
  pub others : OthersKept before after v
  pub none : 16 ≤ signer → after ≡ before
  pub count : answer ≡ shares_in after v
  pub more : signer < 16 → tag_in before v signer ≡ None → answer ≡ shares_in before v + 1
