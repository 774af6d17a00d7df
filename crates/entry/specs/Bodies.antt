-- What an entry says, and the bytes that are sealed and chained for it.
use Rattle.std.specs.Prelude.{◌≡◌, ℕ, ◌<◌, ◌≤◌, List, [], ◌∷◌, ◌++◌, map, length, Some, None, Option, Ok, Err, Result, slice_index_or}
use Rattle.std.specs.List.{flat_map}
use Rattle.inline_vec.specs.Lists.{items}
use Rattle.inline_vec.specs.declared.calls.Full.{Full}
use Rattle.octets.specs.Numbers.{be}
use Rattle.entry.specs.declared.parts.ItemDigest.{ItemDigest}
use Rattle.entry.specs.declared.parts.Pair.{Pair}
use Rattle.entry.specs.declared.parts.Entry.{Entry}
use Rattle.entry.specs.declared.parts.SealedEntry.{SealedEntry}

-- a write, as an entry records it: the item and the digest of the value
pub record ItemBody : Type 0 where
  pub item : ℕ
  pub digest : List ℕ

-- an entry: the version and its writes
pub record EntryBody : Type 0 where
  pub version : ℕ
  pub items : List ItemBody

-- a share, as a proof carries it: who signed, and the tag
pub record PairBody : Type 0 where
  pub signer : ℕ
  pub tag : List ℕ

-- an entry with shares
pub record SealedBody : Type 0 where
  pub entry : EntryBody
  pub pairs : List PairBody

-- the bytes of an entry, with versions of w bytes: version, count of writes, item and digest of each
abbrev pub item_bytes : ItemBody → List ℕ
item_bytes i = i.item ∷ i.digest

abbrev pub head_bytes : ℕ → ℕ → ℕ → List ℕ
head_bytes w version count = be w version ++ count ∷ []

abbrev pub entry_bytes : ℕ → EntryBody → List ℕ
entry_bytes w e = head_bytes w e.version (length e.items) ++ flat_map item_bytes e.items

-- the bytes of a share, and of an entry with its shares
abbrev pub pair_bytes : PairBody → List ℕ
pair_bytes p = p.signer ∷ p.tag

abbrev pub sealed_bytes : ℕ → SealedBody → List ℕ
sealed_bytes w s = entry_bytes w s.entry ++ flat_map pair_bytes s.pairs

-- what the code's records say
abbrev pub item_body : ItemDigest → ItemBody
item_body i = record { item = i.item; digest = i.digest }

abbrev pub entry_body : Entry → EntryBody
entry_body e = record { version = e.version; items = map item_body (items e.items) }

abbrev pub pair_body : Pair → PairBody
pair_body p = record { signer = p.signer; tag = p.tag }

abbrev pub sealed_body : SealedEntry → SealedBody
sealed_body s = record { entry = entry_body s.entry; pairs = map pair_body (items s.pairs) }

-- One more behind the others, or, where there are as many as there is room for, all as it was.
abbrev pub Pushed : {X B : Type 0} → (X → B) → ℕ → List B → List B → X → Result (Unit {0}) Full → Type 0
Pushed body room before after x (Ok done) = (length before < room) × (after ≡ before ++ body x ∷ [])
Pushed body room before after x (Err full) = (room ≤ length before) × (after ≡ before)

-- The one at a place, or none behind the last.
abbrev pub Found : {X B : Type 0} → (X → B) → List B → ℕ → Option X → Type 0
Found {B = B} body bs i (Some x) = (i < length bs) × ((d : B) → slice_index_or bs i d ≡ body x)
Found {B = B} body bs i None = length bs ≤ i
