-- A tag, an entry and an item read, and the rows over them.
use Rattle.std.proofs.Common.{ℕ, ◌+◌, List, length}
use Rattle.std.specs.List.{AllByRecursion as All}
use Rattle.entry.specs.Bodies.{EntryBody, PairBody, SealedBody, entry_bytes}
use Rattle.entry.specs.Bodies.{pair_bytes}
use Rattle.reading.specs.Bodies.{ReadingItemBody}
use Rattle.history.specs.Events.{width}
use Rattle.reader.specs.Checks.{Matched, NothingNewer, Tagged, item_rows, pair_rows, sealed_rows}
use Rattle.reader.proofs.Clear.{Clear, all_unrefuted, along_clear, clear_along}

module _ (passes : ℕ → List ℕ → List ℕ → Type 0) where
  pub pair_clear : (e : EntryBody) (at : ℕ) (p : PairBody) → Tagged passes e p → Clear (pair_rows passes e at p)
  pair_clear e at p t = (λ n. n t, tt)

  pub sealed_clear : (at : ℕ) (s : SealedBody) → All (Tagged passes s.entry) s.pairs → Clear (sealed_rows passes at s)
  sealed_clear at s ts = along_clear pair_bytes (pair_rows passes s.entry) (Tagged passes s.entry) (pair_clear s.entry) (at + length (entry_bytes width s.entry)) s.pairs ts

  -- no tag of an entry is refuted
  abbrev pub Unrefuted : SealedBody → Type 0
  Unrefuted s = All (λ (p : PairBody). (Tagged passes s.entry p → ⊥) → ⊥) s.pairs

  pub clear_sealed : (at : ℕ) (s : SealedBody) → Clear (sealed_rows passes at s) → Unrefuted s
  clear_sealed at s c = clear_along pair_bytes (pair_rows passes s.entry) (λ p. (Tagged passes s.entry p → ⊥) → ⊥) (λ n p c. c.0) (at + length (entry_bytes width s.entry)) s.pairs c

  pub unrefuted_clear : (at : ℕ) (s : SealedBody) → Unrefuted s → Clear (sealed_rows passes at s)
  unrefuted_clear at s u = along_clear pair_bytes (pair_rows passes s.entry) (λ p. (Tagged passes s.entry p → ⊥) → ⊥) (λ n p h. (h, tt)) (at + length (entry_bytes width s.entry)) s.pairs u

  pub sealed_unrefuted : (at : ℕ) (s : SealedBody) → Clear (sealed_rows passes at s) → (All (Tagged passes s.entry) s.pairs → ⊥) → ⊥
  sealed_unrefuted at s c = all_unrefuted (Tagged passes s.entry) s.pairs (clear_sealed at s c)

pub item_clear : (digest : List ℕ → List ℕ) (es : List SealedBody) (at : ℕ) (p : ReadingItemBody) → Matched digest es p × NothingNewer es p → Clear (item_rows digest es at p)
item_clear digest es at p (m, n) = (λ h. h m, (λ h. h n, tt))
