-- What a proof that is read in place holds, and its parts one by one.
use Rattle.std.specs.Prelude.{◌≡◌, ℕ, ◌+◌, ◌*◌, ◌<◌, ◌≤◌, List, length, take, Some, None, Ok, Err, Option, Result, slice_index_or}
use Rattle.std.specs.List.{flat_map}
use Rattle.fault.specs.declared.Fault.{Fault}
use Rattle.entry.specs.Bodies.{ItemBody, PairBody, SealedBody, entry_bytes, sealed_bytes, pair_bytes}
use Rattle.proof.specs.Bodies.{ProofBody, ProofIn, SealedIn, proof_bytes}
use Rattle.proof.specs.Rules.{entries_at}
use Rattle.proof.specs.declared.read.Proof.{Proof}
use Rattle.proof.specs.declared.part.SealedPart.{SealedPart}
use Rattle.proof.specs.declared.part.ItemPart.{ItemPart}
use Rattle.proof.specs.declared.part.PairPart.{PairPart}

-- a decoded proof, among the boards of f, holds b: its frame has b's bytes
pub record Holds (f : ℕ) (p : Proof) (b : ProofBody) : Type 0 where
  pub among : p.f ≡ f
  pub byte : f ≤ 255
  pub frame : p.frame.now ≡ proof_bytes 2 b
  pub in_range : ProofIn 2 f b
  pub low : p.low ≡ b.low
  pub high : p.high ≡ b.high

-- what was read, as the answer of the rules: the same refusal, or a proof that holds what they accept
abbrev pub Seen : ℕ → Result Proof Fault → Result ProofBody Fault → Type 0
Seen f (Ok p) (Ok b) = Holds f p b
Seen f (Ok p) (Err d) = ⊥
Seen f (Err e) (Ok b) = ⊥
Seen f (Err e) (Err d) = e ≡ d

-- where entry i of a proof begins
abbrev pub entry_place : ℕ → ProofBody → ℕ → ℕ
entry_place w b i = entries_at w + length (flat_map (sealed_bytes w) (take i b.entries))

-- a part of the frame at a place holds a sealed entry: its body is what is sealed
pub record PartHolds (f at : ℕ) (x : SealedPart) (s : SealedBody) : Type 0 where
  pub version : x.version ≡ s.entry.version
  pub place : x.place ≡ at
  pub near : at ≤ 1000000
  pub body : x.body.now ≡ entry_bytes 2 s.entry
  pub pairs : x.pairs.now ≡ flat_map pair_bytes s.pairs
  pub in_range : SealedIn f s.entry.version s

-- a part of an entry's body holds a write
pub record ItemHolds (x : ItemPart) (i : ItemBody) : Type 0 where
  pub item : x.item ≡ i.item
  pub digest : x.digest.now ≡ i.digest

-- a part of an entry's pairs holds a pair; the place is the tag's
pub record PairHolds (at : ℕ) (x : PairPart) (p : PairBody) : Type 0 where
  pub signer : x.signer ≡ p.signer
  pub tag : x.tag.now ≡ p.tag
  pub place : x.place ≡ at

-- where pair k of an entry that begins at a place has its tag
abbrev pub tag_place : ℕ → ℕ → SealedBody → ℕ → ℕ
tag_place w at s k = at + length (entry_bytes w s.entry) + 17 * k + 1

-- the one at an index, or none behind the last
abbrev pub FoundAt : {X B : Type 0} → (X → B → Type 0) → List B → ℕ → Option X → Type 0
FoundAt {B = B} Has bs i (Some x) = (i < length bs) × ((d : B) → Has x (slice_index_or bs i d))
FoundAt Has bs i None = length bs ≤ i

-- the one that stands there
abbrev pub There : {X B : Type 0} → (X → B → Type 0) → B → Option X → Type 0
There Has b (Some x) = Has x b
There Has b None = ⊥

-- what was found lies inside a string
abbrev pub Inside : {X : Type 0} → (X → Type 0) → Option X → Type 0
Inside P (Some x) = P x
Inside P None = Unit {0}
