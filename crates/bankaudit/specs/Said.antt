-- What a line says, and the room that its request was read to.
use Rattle.std.specs.Prelude.{ℕ, ◌≤◌, length, Some, None, Option}
use Rattle.bankaudit.specs.declared.said.Line.{Line}
use Rattle.bankaudit.specs.declared.said.Line.TheVariants.{Passed, Request, Report}

-- a request lies within its room
abbrev pub Within : Option Line → ℕ → Type 0
Within (Some Passed) room = Unit {0}
Within (Some (Request frame)) room = length frame.now ≤ room
Within (Some (Report b m)) room = Unit {0}
Within None room = Unit {0}
