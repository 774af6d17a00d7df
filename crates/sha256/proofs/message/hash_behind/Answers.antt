use Rattle.std.proofs.Common.{arith, length-append}
use Rattle.sha256.proofs.Joined.{behind-is}
use Rattle.sha256.proofs.message.hash_behind.Goals as goal

pub returns-then-not-taken : goal.returns-then-not-taken
returns-then-not-taken c =
    omega (arith, c.if-not-taken.ensures, length-append c.args.head.now c.args.rest.now)

pub returns : goal.returns
returns c =
    behind-is c.start.result c.args.first.now c.compress-h.result c.hash_parts.result c.args.head.now
    c.args.rest.now (omega arith) c.if-not-taken.ensures c.start.ensures c.compress-h.ensures c.hash_parts.ensures
