-- The iterators over the parts of a proof: before which part one stands, and what a call of it gives.
use Rattle.std.specs.Prelude.{◌≡◌, ℕ, ◌+◌, ◌*◌, ◌≤◌, List, length, drop, Option}
use Rattle.std.specs.Option.{IfSome}
use Rattle.std.specs.List.{flat_map, AllByRecursion}
use Rattle.entry.specs.Bodies.{ItemBody, PairBody, SealedBody, entry_bytes, item_bytes, pair_bytes}
use Rattle.proof.specs.Bodies.{ItemIn, PairIn, ProofBody}
use Rattle.proof.specs.Parts.{FoundAt, Holds, ItemHolds, PairHolds, PartHolds, entry_place}
use Rattle.proof.specs.declared.part.ItemPart.{ItemPart}
use Rattle.proof.specs.declared.part.Items.{Items}
use Rattle.proof.specs.declared.part.PairPart.{PairPart}
use Rattle.proof.specs.declared.part.Pairs.{Pairs}
use Rattle.proof.specs.declared.part.SealedPart.{SealedPart}
use Rattle.proof.specs.declared.read.walk.Entries.{Entries}

-- before entry k of a proof that holds b
pub record BeforeEntry (f : ℕ) (b : ProofBody) (k : ℕ) (it : Entries) : Type 0 where
  pub holds : Holds f it.proof b
  pub place : it.at ≡ entry_place 2 b k
  pub left : it.left + k ≡ length b.entries

-- before write k of an entry's
pub record BeforeItem (is : List ItemBody) (k : ℕ) (it : Items) : Type 0 where
  pub left : it.left.now ≡ flat_map item_bytes (drop k is)
  pub inside : k ≤ length is
  pub in_range : AllByRecursion ItemIn is

-- a write as its part shows it
abbrev pub item_seen : ItemPart → ItemBody
item_seen x = record { item = x.item; digest = x.digest.now }

-- before pair k of an entry's, whose pairs begin at a place
pub record BeforePair (at : ℕ) (ps : List PairBody) (k : ℕ) (it : Pairs) : Type 0 where
  pub left : it.left.now ≡ flat_map pair_bytes (drop k ps)
  pub place : it.place ≡ at + 17 * k
  pub near : at ≤ 1000267
  pub inside : k ≤ length ps
  pub in_range : AllByRecursion PairIn ps

-- where the pairs of an entry that begins at a place begin
abbrev pub pairs_place : ℕ → ℕ → SealedBody → ℕ
pairs_place w at s = at + length (entry_bytes w s.entry)

-- A call gives the part before which the iterator stands, and then it stands before the next; or it gives none, behind the last.
abbrev pub GivesEntry : Entries → Option SealedPart → Entries → Type 0
GivesEntry it r then =
    (f : ℕ) (b : ProofBody) (k : ℕ) → BeforeEntry f b k it → FoundAt (PartHolds f (entry_place 2 b k)) b.entries k r × IfSome r (λ _. BeforeEntry f b (k + 1) then)

-- what comes has a digest or a tag of its length, whatever bytes are walked; the place of a tag is known of the first 256
abbrev pub GivesItem : Items → Option ItemPart → Items → Type 0
GivesItem it r then =
    IfSome r (λ x. length x.digest.now ≡ 32)
    × ((is : List ItemBody) (k : ℕ) → BeforeItem is k it → FoundAt ItemHolds is k r × IfSome r (λ _. BeforeItem is (k + 1) then))

abbrev pub GivesPair : Pairs → Option PairPart → Pairs → Type 0
GivesPair it r then =
    IfSome r (λ x. length x.tag.now ≡ 16)
    × ((at : ℕ) (ps : List PairBody) (k : ℕ) → k ≤ 255 → BeforePair at ps k it → FoundAt (PairHolds (at + 17 * k + 1)) ps k r × IfSome r (λ _. BeforePair at ps (k + 1) then))
