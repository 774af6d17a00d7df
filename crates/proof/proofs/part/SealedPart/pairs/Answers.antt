use Rattle.std.proofs.Common.{length, ap, arith}
use Rattle.proof.proofs.Laid.{body_size}
use Rattle.proof.proofs.part.SealedPart.pairs.Goals as goal

pub returns : goal.returns
returns c = λ f at s h.
    let long = body_size 2 s h.in_range.items in
    record { left = h.pairs; place = omega (arith, h.place, h.near, ap length h.body, long, h.in_range.few); near = omega (arith, h.near, long, h.in_range.few); inside = omega arith; in_range = h.in_range.pairs }
