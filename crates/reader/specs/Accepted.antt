-- What acceptance means: the items read are what the honest boards' commits left after the highest version read.
use Rattle.std.specs.Prelude.{◌≡◌, ℕ, ◌+◌, ◌<◌, ◌≤◌, List, map, length, take, Ok, Result}
use Rattle.std.specs.List.Sorted.{IsStrictlyIncreasing}
use Rattle.std.specs.List.{ContainsAt as Has, AllByRecursion}
use Rattle.fault.specs.declared.Fault.{Fault}
use Rattle.entry.specs.Bodies.{EntryBody, PairBody, SealedBody}
use Rattle.record.specs.Rules.{boards}
use Rattle.request.specs.Bodies.{WriteBody}
use Rattle.history.specs.Commits.{Wrote, left_after}
use Rattle.history.specs.Events.{width}
use Rattle.history.specs.Entries.{entry_at, signer_of, versions}
use Rattle.reading.specs.Bodies.{ReadingItemBody, ReadingBody, reading_of}
use Rattle.proof.specs.Bodies.{ProofBody}
use Rattle.proof.specs.Rules.{proof_of}
use Rattle.reader.specs.Checks.{Matched, NothingNewer, RightRange, Tagged, highest, item_of}

-- the write sets of a board's commits
abbrev pub Commits : Type 0
Commits = List (List WriteBody)

-- one list is the front of another
abbrev pub FirstPart : {A : Type 0} → List A → List A → Type 0
FirstPart xs ys = take (length xs) ys ≡ xs

-- Among 3 f + 1 boards at most f are faulty, and the commits of each other board are a first part of cs, those of the honest board furthest on.
pub record HonestRuns (f : ℕ) (faulty : List ℕ) (cs : Commits) (of : ℕ → Commits) : Type 0 where
  pub few : length faulty ≤ f
  pub first : (a : ℕ) → a < boards f → (Has faulty a → ⊥) → FirstPart (of a) cs

-- an entry as the proof's reader accepts it: its items rise, and f + 1 boards signed it, in order of their numbers
pub record Sealed (f : ℕ) (s : SealedBody) : Type 0 where
  pub items : IsStrictlyIncreasing (map item_of s.entry.items)
  pub quorum : length s.pairs ≡ f + 1
  pub signers : IsStrictlyIncreasing (map signer_of s.pairs)
  pub members : AllByRecursion (λ (p : PairBody). p.signer < boards f) s.pairs

abbrev pub version_of : SealedBody → ℕ
version_of s = s.entry.version

abbrev pub entry_of : SealedBody → EntryBody
entry_of s = s.entry

-- a proof as its reader accepts it: one such entry for each version from low, at least 1, to high
pub record Proven (f low high : ℕ) (es : List SealedBody) : Type 0 where
  pub from : 1 ≤ low
  pub each : map version_of es ≡ versions low high
  pub sealed : AllByRecursion (Sealed f) es

-- The reading holds: there are as many commits as the highest version read, and they left each item with the version and value read.
abbrev pub Holds : Commits → List ReadingItemBody → Type 0
Holds cs ps =
    (highest ps ≤ length cs)
    × AllByRecursion (λ (p : ReadingItemBody). left_after (highest ps) cs p.item ≡ record { version = p.version; value = p.value }) ps

-- all tags of a proof pass
abbrev pub AllTagged : (ℕ → List ℕ → List ℕ → Type 0) → List SealedBody → Type 0
AllTagged passes es = AllByRecursion (λ (s : SealedBody). AllByRecursion (Tagged passes s.entry) s.pairs) es

module _ (digest : List ℕ → List ℕ) where
  -- Premise on digests: no value read and value that the commit of its version wrote to the item differ and share a digest.
  abbrev pub NoClash : Commits → List ReadingItemBody → Type 0
  NoClash cs ps =
      AllByRecursion (λ (p : ReadingItemBody). (w : List ℕ) → Wrote cs p.version p.item w → digest p.value ≡ digest w → p.value ≡ w) ps

  -- a board with these commits made the entry: it has as many commits, and this is its entry of that version
  abbrev pub Made : Commits → EntryBody → Type 0
  Made cs e = (e.version ≤ length cs) × (entry_at digest cs e.version ≡ e)

  module _ (passes : ℕ → List ℕ → List ℕ → Type 0) where
    -- Premise on tags: of those in this proof, none passes as an honest board's over an entry that this board did not make.
    abbrev pub NoForgery : List ℕ → (ℕ → Commits) → List SealedBody → Type 0
    NoForgery faulty of es =
        AllByRecursion (λ (s : SealedBody). AllByRecursion (λ (p : PairBody). (Has faulty p.signer → ⊥) → Tagged passes s.entry p → Made (of p.signer) s.entry) s.pairs) es

    -- every condition of the check behind the two frames' readers
    pub record Passed (low high : ℕ) (es : List SealedBody) (ps : List ReadingItemBody) : Type 0 where
      pub range : RightRange low high ps
      pub tags : AllTagged passes es
      pub matched : AllByRecursion (Matched digest es) ps
      pub fresh : AllByRecursion (NothingNewer es) ps

    -- The reading holds if no honest board's tag was forged and no two digests clash, whichever boards are faulty.
    abbrev pub Warranted : ℕ → List SealedBody → List ReadingItemBody → Type 0
    Warranted f es ps =
        (faulty : List ℕ) (cs : Commits) (of : ℕ → Commits)
        → HonestRuns f faulty cs of → NoForgery faulty of es → NoClash cs ps → Holds cs ps

    -- what an honest board with these commits writes for a reading: its entries in the range asked for, each with tags that pass
    pub record HonestProof (own : Commits) (b : ProofBody) (ps : List ReadingItemBody) : Type 0 where
      pub range : RightRange b.low b.high ps
      pub enough : highest ps ≤ length own
      pub entries : map entry_of b.entries ≡ map (entry_at digest own) (versions b.low b.high)
      pub tags : AllTagged passes b.entries

    module _ (f : ℕ) (reading proof : List ℕ) (r : Result ℕ Fault) where
      -- An accepted reading: both frames are well formed, the answer is the highest version read, and the reading is warranted.
      pub record Warrant (m : ℕ) : Type 0 where
        pub read_item : ReadingBody
        pub body : ProofBody
        pub read : reading_of width reading ≡ Ok read_item
        pub proven : proof_of width f proof ≡ Ok body
        pub answer : m ≡ highest read_item.items
        pub holds : Warranted f body.entries read_item.items

      abbrev pub AcceptedMeansHeld : Type 0
      AcceptedMeansHeld = (m : ℕ) → r ≡ Ok m → Warrant m

      -- Against an honest board's proof exactly the readings that hold are accepted; of tags nothing more is asked.
      abbrev pub HonestProofDecides : Type 0
      HonestProofDecides =
          (q : ReadingBody) (b : ProofBody) (cs own : Commits)
          → reading_of width reading ≡ Ok q → proof_of width f proof ≡ Ok b → FirstPart own cs → HonestProof own b q.items → NoClash cs q.items
          → (r ≡ Ok (highest q.items) → Holds cs q.items) × (Holds cs q.items → r ≡ Ok (highest q.items))
