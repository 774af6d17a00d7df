use Rattle.std.proofs.Common.{map, arith}
use Rattle.std.specs.List.{flat_map}
use Rattle.std.proofs.lemmas.List.{length-append}
use Rattle.inline_vec.specs.Lists.{items}
use Rattle.entry.specs.Bodies.{entry_bytes, sealed_body, pair_body, pair_bytes}
use Rattle.entry.proofs.Sizes.{even_length}
use Rattle.entry.proofs.parts.SealedEntry.length.Goals as goal

pub returns : goal.returns
returns c =
    let e = c.args.self.now in
    let even = even_length pair_body pair_bytes 17 (λ x. omega (arith, x.whole)) (items e.pairs) in
    let both = length-append (entry_bytes 2 (sealed_body e).entry) (flat_map pair_bytes (map pair_body (items e.pairs))) in
    (omega (arith, c.body_length.ensures.0, even, c.len.ensures.value, both), omega (arith, c.len.ensures.fits, c.body_length.ensures.1))
