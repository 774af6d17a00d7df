-- How a board stands to its history.
use Rattle.std.specs.Prelude.{◌≡◌, ℕ, ◌+◌, ◌<◌, ◌≤◌, List, [], length}
use Rattle.std.specs.List.{AllByRecursion}
use Rattle.record.specs.Rules.{boards}
use Rattle.store.specs.Slot.{Slot}
use Rattle.entry.specs.Bodies.{PairBody}
use Rattle.numbers.specs.Clients.{TracksAll}
use Rattle.window.specs.declared.ring.Window.{Window}
use Rattle.window.specs.Windows.{entry_in, shares_in, tag_in}
use Rattle.request.specs.Bodies.{WriteBody}
use Rattle.history.specs.Events.{Event, effects, width}
use Rattle.history.specs.Commits.{commits, kept, left}
use Rattle.history.specs.Entries.{Evicted, chain_after, entry_at, shares_of, tag_by}
use Rattle.history.specs.Clients.{used}
use Rattle.board.specs.declared.state.Board.{Board}

-- The window holds version v of commits: its entry, and the shares that joined it, of different boards and at most f + 1.
pub record Holds (digest : List ℕ → List ℕ) (f : ℕ) (w : Window) (cs : List (List WriteBody)) (ps : List PairBody) (v : ℕ) : Type 0 where
  pub entry : entry_in w v ≡ entry_at digest cs v
  pub tags : (s : ℕ) → s < 16 → tag_in w v s ≡ tag_by ps s
  pub count : shares_in w v ≡ length ps
  pub few : length ps ≤ f + 1
  pub signers : AllByRecursion (λ p. p.signer < boards f) ps

module _ {S D L : Type 0} (holds : S → ℕ → Slot) (digest : List ℕ → List ℕ) (tag_of : L → ℕ → List ℕ → List ℕ) where
  -- A board stands at commits cs, where us are the numbers that each client used and ps the shares of each version.
  -- `tag` is what its seal means, f how many boards may lie, own its number.
  pub record Stands (tag : ℕ → List ℕ → List ℕ) (f own : ℕ) (b : Board S D L) (cs : List (List WriteBody)) (us : ℕ → List ℕ) (ps : ℕ → List PairBody) : Type 0 where
    pub faults : b.place.size.f ≡ f
    pub number : b.place.number ≡ own
    pub seal : (s : ℕ) (m : List ℕ) → tag_of b.seal s m ≡ tag s m
    pub count : b.count ≡ length cs
    pub chain : b.chain ≡ chain_after digest cs
    pub items : (x : ℕ) → x < 64 → holds b.store x ≡ kept digest (left cs x)
    pub clients : TracksAll width b.clients us
    pub window : (v : ℕ) → 1 ≤ v → v ≤ length cs → (Evicted (length cs) v → ⊥) → Holds digest f b.window cs (ps v) v
    pub none : (v : ℕ) → length cs < v → ps v ≡ []

  -- A board represents its history: it stands where the events have brought it.
  abbrev pub Represents : (ℕ → List ℕ → List ℕ) → ℕ → ℕ → Board S D L → List Event → Type 0
  Represents tag f own b h = Stands tag f own b (commits (effects h)) (λ c. used c (effects h)) (λ v. shares_of v (effects h))
