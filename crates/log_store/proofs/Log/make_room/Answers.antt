use Rattle.std.proofs.Common.{arith}
use Rattle.inline_vec.specs.Lists.{items}
use Rattle.log_store.proofs.Latest.{different-few}
use Rattle.log_store.proofs.Log.make_room.Goals as goal

pub returns-then-len-clause-room : goal.returns-then-len-clause-room
returns-then-len-clause-room g c = omega (arith, c.tidy.ensures.count, different-few (items c.args.self.now.records), c.args.self.now.room)
