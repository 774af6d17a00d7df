-- Which call a line asks for, where requests and shares are named by their kind alone.
use Rattle.std.specs.Prelude.{ℕ, List, Some, None, Option}
use Rattle.line.specs.declared.call.Call.{Call}
use Rattle.line.specs.declared.call.Call.TheVariants.{Deliver, Item, Mark, Proof, ShareIn, ShareOut}
use Rattle.lines.specs.Lines.{LineCall, deliver, item, mark, proof, share_in, share_out}
use Rattle.lines.specs.Lines as lines

-- a call without its frame
abbrev pub named : LineCall → Call
named (deliver frame) = Deliver
named (share_in frame) = ShareIn
named (proof low high) = Proof low high
named (item number) = Item number
named mark = Mark
named (share_out version) = ShareOut version

-- the same, where there may be none
abbrev pub may_name : Option LineCall → Option Call
may_name (Some call) = Some (named call)
may_name None = None

-- the call of a line: none for one that is too long, odd or not hexadecimal
abbrev pub line_call : List ℕ → Option Call
line_call line = may_name (lines.line_call line)
