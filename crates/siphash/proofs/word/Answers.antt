use Rattle.siphash.proofs.Little.{eight}
use Rattle.siphash.proofs.word.Goals as goal

pub returns : goal.returns
returns c = eight c.args.b.now c.from_le_bytes.result c.requires c.from_le_bytes.ensures
