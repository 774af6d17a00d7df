use Rattle.std.proofs.Common.{arith}
use Rattle.inline_vec.specs.Lists.{items}
use Rattle.entry.specs.Bodies.{item_body, item_bytes}
use Rattle.entry.proofs.Sizes.{even_length}
use Rattle.entry.proofs.parts.Entry.body_length.Goals as goal

pub returns : goal.returns
returns c =
    let even = even_length item_body item_bytes 33 (λ x. omega (arith, x.whole)) (items c.args.self.now.items) in
    (omega (arith, even, c.len.ensures.value), omega (arith, c.len.ensures.fits))
