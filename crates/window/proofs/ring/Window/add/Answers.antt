use Rattle.std.proofs.Common.{◌<◌, length, rules}
use Rattle.window.proofs.Placing.{added}
use Rattle.window.proofs.ring.Window.add.Goals as goal

pub returns : goal.returns
returns c =
    let lt : c.place.result < length c.args.self.now.slots = search rules in
    added c.args.self.now c.args.version c.place.result c.place.ensures c.index-self-place.result c.add.new.self lt c.args.pair.signer c.args.pair.tag c.shares.result c.add.ensures c.shares.ensures
