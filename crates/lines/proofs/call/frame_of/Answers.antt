use Rattle.std.proofs.Common.{arith}
use Rattle.lines.proofs.Calls.{too_long}
use Rattle.lines.proofs.call.frame_of.Goals as goal

pub returns-then-line-gt-LINE_LIMIT : goal.returns-then-line-gt-LINE_LIMIT
returns-then-line-gt-LINE_LIMIT c = too_long c.args.line.now (omega arith)
