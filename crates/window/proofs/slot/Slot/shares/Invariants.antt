use Rattle.std.proofs.Common.{◌≡◌, ◌≤◌}
use Rattle.window.specs.Shares.{shares_below}
use Rattle.window.specs.Windows.{tag_of}
use Rattle.window.proofs.slot.Slot.shares.Given as goal

abbrev pub invariant-loop-tag : goal.invariant-loop-tag
invariant-loop-tag l = (l.count ≡ shares_below (tag_of l.self) l.tag-index) × (l.count ≤ l.tag-index)
