-- The reader's check: which proof it asks for, what it asks of each tag and of each item read, and its answer.
use Rattle.std.specs.Prelude.{◌≡◌, ℕ, ◌+◌, ◌<◌, ◌≤◌, min, max, ◌⊎◌, List, [], ◌∷◌, ◌++◌, map, length, Result}
use Rattle.std.specs.List.{ContainsAt as Has, AllByRecursion}
use Rattle.fault.specs.declared.Fault.{Fault}
use Rattle.fault.specs.declared.Cause.TheVariants.{Stale, Unmatched, WrongRange, WrongTag}
use Rattle.fault.specs.declared.Layer.TheVariants.{Reader, Seal}
use Rattle.fault.specs.Codes.{fault}
use Rattle.label.specs.declared.Label.TheVariants.{Entry}
use Rattle.label.specs.Labels.{labelled}
use Rattle.entry.specs.Bodies.{EntryBody, ItemBody, PairBody, SealedBody, entry_bytes}
use Rattle.record.specs.Formats.{written}
use Rattle.reading.specs.Bodies.{ReadingItemBody, reading_item_fields, reading_of}
use Rattle.entry.specs.Bodies.{pair_bytes, sealed_bytes}
use Rattle.proof.specs.Rules.{entries_at, proof_of}
use Rattle.history.specs.Events.{width}
use Rattle.history.specs.Tables.{Case, Read, Under, when}

-- the highest and the lowest version read
abbrev pub highest : List ReadingItemBody → ℕ
highest [] = 0
highest (p ∷ ps) = max p.version (highest ps)

abbrev pub lowest : List ReadingItemBody → ℕ
lowest [] = 0
lowest (p ∷ []) = p.version
lowest (p ∷ (q ∷ ps)) = min p.version (lowest (q ∷ ps))

-- The proof goes from the lowest version read, a lowest 0 counting as 1, to the highest.
abbrev pub RightRange : ℕ → ℕ → List ReadingItemBody → Type 0
RightRange low high ps = (low ≡ max 1 (lowest ps)) × (high ≡ highest ps)

-- an entry writes an item
abbrev pub item_of : ItemBody → ℕ
item_of i = i.item

abbrev pub Writes : EntryBody → ℕ → Type 0
Writes e x = Has (map item_of e.items) x

-- The reader's test of an item read, first predicate: the entry of the version read, and no other, has the item with the value's digest;
-- or the version is 0 and the value empty.
abbrev pub Matched : (List ℕ → List ℕ) → List SealedBody → ReadingItemBody → Type 0
Matched digest es p =
    ((1 ≤ p.version) × ((s : SealedBody) × (Has es s × (s.entry.version ≡ p.version) × Has s.entry.items (record { item = p.item; digest = digest p.value }))))
    ⊎ ((p.version ≡ 0) × (p.value ≡ []))

-- Second predicate: no entry above the version read writes the item.
abbrev pub NothingNewer : List SealedBody → ReadingItemBody → Type 0
NothingNewer es p = AllByRecursion (λ (s : SealedBody). p.version < s.entry.version → Writes s.entry p.item → ⊥) es

-- A tag passes for its signer over the entry under its label; `passes` says which tags pass for a signer and a string.
abbrev pub Tagged : (ℕ → List ℕ → List ℕ → Type 0) → EntryBody → PairBody → Type 0
Tagged passes e p = passes p.signer (labelled Entry (entry_bytes width e)) p.tag

-- rows over records that stand one behind the other from a place on
abbrev pub along : {X : Type 0} → (X → List ℕ) → (ℕ → X → List Case) → ℕ → List X → List Case
along bytes rows at [] = []
along bytes rows at (x ∷ xs) = rows at x ++ along bytes rows (at + length (bytes x)) xs

-- the bytes of an item read; the first begins behind the kind and the count
abbrev pub read_item_bytes : ReadingItemBody → List ℕ
read_item_bytes p = written (reading_item_fields width p)

abbrev pub items_at : ℕ
items_at = 2

-- a wrong tag is named by its place in the proof's frame, behind the signer
abbrev pub pair_rows : (ℕ → List ℕ → List ℕ → Type 0) → EntryBody → ℕ → PairBody → List Case
pair_rows passes e at p = when (Tagged passes e p → ⊥) (fault WrongTag Seal (at + 1)) ∷ []

abbrev pub sealed_rows : (ℕ → List ℕ → List ℕ → Type 0) → ℕ → SealedBody → List Case
sealed_rows passes at s = along pair_bytes (pair_rows passes s.entry) (at + length (entry_bytes width s.entry)) s.pairs

-- an item read is judged by the one predicate and then by the other, and named by its place in the reading's frame
abbrev pub item_rows : (List ℕ → List ℕ) → List SealedBody → ℕ → ReadingItemBody → List Case
item_rows digest es at p = when (Matched digest es p → ⊥) (fault Unmatched Reader at) ∷ when (NothingNewer es p → ⊥) (fault Stale Reader at) ∷ []

module _ (digest : List ℕ → List ℕ) (passes : ℕ → List ℕ → List ℕ → Type 0) where
  -- What is refused behind the two frames' readers: the wrong range, then each tag from the front, then each item read.
  abbrev pub check_table : ℕ → ℕ → List SealedBody → List ReadingItemBody → List Case
  check_table low high es ps =
      when (RightRange low high ps → ⊥) (fault WrongRange Reader 1)
      ∷ (along (sealed_bytes width) (sealed_rows passes) (entries_at width) es ++ along read_item_bytes (item_rows digest es) items_at ps)

  -- The answer: what the reading's reader refuses, what the proof's reader refuses, then the table; acceptance answers the highest version read.
  abbrev pub CheckAnswers : ℕ → List ℕ → List ℕ → Result ℕ Fault → Type 0
  CheckAnswers f reading proof r =
      Read (reading_of width reading) (λ q.
      Read (proof_of width f proof) (λ b.
      Under (check_table b.low b.high b.entries q.items) (λ m. m ≡ highest q.items))) r
