use Rattle.std.proofs.Common.{◌≡◌, take}
use Rattle.entry.specs.Bodies.{entry_body, sealed_body}
use Rattle.window.specs.Shares.{pairs_below}
use Rattle.window.specs.Windows.{tag_of}
use Rattle.window.proofs.slot.Slot.sealed.Given as goal

abbrev pub invariant-loop-s : goal.invariant-loop-s
invariant-loop-s l = ((sealed_body l.sealed).pairs ≡ take 6 (pairs_below (tag_of l.self) l.s)) × (entry_body l.sealed.entry ≡ entry_body l.self.entry)
