-- The commits of a board, and the state that they left.
use Rattle.std.specs.Prelude.{◌≡◌, ℕ, ◌+◌, ◌-◌, ◌<◌, ◌≤◌, cond, ◌⊎◌, List, [], ◌∷◌, ◌++◌, length, take, replicate, Some, None, Option, ◌==◌, slice_index_or}
use Rattle.store.specs.Slot.{Slot}
use Rattle.request.specs.Bodies.{ReadBody, WriteBody}
use Rattle.history.specs.Events.{Effect, commit, abort, share, nothing}

-- the write set of an effect, if it is a commit
abbrev pub write_set : Effect → List (List WriteBody)
write_set (commit client number writes) = writes ∷ []
write_set (abort client number) = []
write_set (share version pair) = []
write_set nothing = []

-- the write sets of the commits, in order
unfoldable pub commits : List Effect → List (List WriteBody)
commits [] = []
commits (e ∷ es) = write_set e ++ commits es

-- the value that a write set writes to an item; the last one, should there be several
unfoldable pub written : List WriteBody → ℕ → Option (List ℕ)
written [] x = None
written (w ∷ ws) x = later (written ws x)
  where
    later : Option (List ℕ) → Option (List ℕ)
    later (Some v) = Some v
    later None = cond (w.item == x) (Some w.value) None

-- what commits leave in an item: a version and a value
pub record Left : Type 0 where
  pub version : ℕ
  pub value : List ℕ

-- before any commit: version 0, the empty value
abbrev pub fresh : Left
fresh = record { version = 0; value = [] }

-- commit i leaves what it wrote, else what was there
abbrev pub leave : ℕ → Option (List ℕ) → Left → Left
leave i (Some v) before = record { version = i; value = v }
leave i None before = before

unfoldable pub left_from : ℕ → Left → List (List WriteBody) → ℕ → Left
left_from i before [] x = before
left_from i before (ws ∷ cs) x = left_from (i + 1) (leave i (written ws x) before) cs x

-- what commits left in an item: the version (place in the list, from 1) and value of its last write, else 0 and empty
abbrev pub left : List (List WriteBody) → ℕ → Left
left cs x = left_from 1 fresh cs x

-- the state after k commits
abbrev pub left_after : ℕ → List (List WriteBody) → ℕ → Left
left_after k cs x = left (take k cs) x

-- commit i wrote value v to item x
abbrev pub Wrote : List (List WriteBody) → ℕ → ℕ → List ℕ → Type 0
Wrote cs i x v = (1 ≤ i) × (i ≤ length cs) × (written (slice_index_or cs (i - 1) []) x ≡ Some v)

-- Certification of a read, first predicate: no commit above the version read wrote the item.
abbrev pub NothingNewer : List (List WriteBody) → ReadBody → Type 0
NothingNewer cs r = (j : ℕ) (v : List ℕ) → r.version < j → Wrote cs j r.item v → ⊥

-- Second predicate: the commit of that version wrote the item with that digest, or the version is 0 and the digest the empty value's.
abbrev pub Matches : (List ℕ → List ℕ) → List (List WriteBody) → ReadBody → Type 0
Matches digest cs r =
    ((v : List ℕ) × (Wrote cs r.version r.item v × (r.digest ≡ digest v)))
    ⊎ ((r.version ≡ 0) × (r.digest ≡ digest []))

-- a read passes
abbrev pub Passes : (List ℕ → List ℕ) → List (List WriteBody) → ReadBody → Type 0
Passes digest cs r = NothingNewer cs r × Matches digest cs r

-- a read had what the commits left: this version, and this value's digest
abbrev pub HadRead : (List ℕ → List ℕ) → List (List WriteBody) → ReadBody → Type 0
HadRead digest cs r = (r.version ≡ (left cs r.item).version) × (r.digest ≡ digest (left cs r.item).value)

-- what a store means for an item after commits; at version 0 its digest is 32 zero bytes
abbrev pub kept : (List ℕ → List ℕ) → Left → Slot
kept digest l =
    record { version = l.version; value = l.value; digest = cond (l.version == 0) (replicate 32 0) (digest l.value) }

-- what is shown of it: the digest is always the value's
abbrev pub shown : (List ℕ → List ℕ) → Left → Slot
shown digest l = record { version = l.version; value = l.value; digest = digest l.value }
