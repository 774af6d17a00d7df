-- What a commit writes.
use Rattle.std.specs.Prelude.{◌≡◌, ℕ, ◌≤◌, true, List, [], ◌∷◌, map, length, Some, None, Option}
use Rattle.std.specs.List.{AllByRecursion}
use Rattle.record.specs.Rules.{above}
use Rattle.request.specs.Bodies.{WriteBody, write_item}
use Rattle.history.specs.Events.{Event, effects}
use Rattle.history.specs.Commits.{commits}

-- Numbers that rise: each is above the one before it, the first above the last of those before, if any.
abbrev pub Rises : Option ℕ → List ℕ → Type 0
Rises last [] = Unit {0}
Rises last (n ∷ ns) = (above last n ≡ true) × Rises (Some n) ns

-- A commit's write set: 1 to 8 writes, whose items are 0 to 63 and rise.
pub record WriteSet (ws : List WriteBody) : Type 0 where
  pub some : 1 ≤ length ws
  pub few : length ws ≤ 8
  pub items : AllByRecursion (λ w. w.item ≤ 63) ws
  pub rise : Rises None (map write_item ws)

-- Each commit of a history is a write set.
abbrev pub WriteSets : List Event → Type 0
WriteSets h = AllByRecursion WriteSet (commits (effects h))
