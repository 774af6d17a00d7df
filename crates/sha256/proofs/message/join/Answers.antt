use Rattle.sha256.proofs.Joined.{joined-laid}
use Rattle.sha256.proofs.message.join.Goals as goal

pub returns : goal.returns
returns c =
    joined-laid c.args.bytes.now c.args.head.now c.args.rest.now c.copy_from_slice.new.self c.copy_from_slice-2.new.self _
    c.requires c.copy_from_slice.ensures.after c.copy_from_slice-2.ensures.after
