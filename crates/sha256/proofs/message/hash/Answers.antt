use Rattle.std.proofs.Common.{arith, length-append}
use Rattle.sha256.proofs.Joined.{digest-is}
use Rattle.sha256.proofs.message.hash.Goals as goal

pub returns-then-not-taken : goal.returns-then-not-taken
returns-then-not-taken c =
    omega (arith, c.if-not-taken.ensures, length-append c.args.head.now c.args.rest.now)

pub returns : goal.returns
returns c =
    digest-is c.start.result c.hash_parts.result c.args.head.now c.args.rest.now c.if-not-taken.ensures
    c.start.ensures c.hash_parts.ensures
