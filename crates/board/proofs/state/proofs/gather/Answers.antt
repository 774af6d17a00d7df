use Rattle.std.proofs.Common.{◌≡◌, ℕ, ◌+◌, ◌*◌, ◌<◌, ◌≤◌, map, length, take, refl, subst, arith}
use Rattle.std.specs.List.{range_with_len, flat_map}
use Rattle.entry.specs.Bodies.{sealed_body, sealed_bytes}
use Rattle.board.specs.Proofs.{sealed_in}
use Rattle.board.proofs.Gathering.{gathered-more, size_more}
use Rattle.board.proofs.state.proofs.gather.Goals as goal

pub loop-i-init : goal.loop-i-init
loop-i-init c = (omega arith, refl, refl)

pub loop-i-preserved : goal.loop-i-preserved
loop-i-preserved c =
    let w = c.args.window.now in
    let first = c.args.first in
    let i = c.loop-i.i in
    let s = c.sealed-sealed.result in
    let is : sealed_body s ≡ sealed_in w (first + i) = c.sealed-sealed.ensures.six in
    let room : i < length c.loop-i.entries = omega (arith, c.loop-i.auto.entries, c.requires.1.1, c.requires.1.0, c.loop-i-test.true) in
    let old = flat_map (sealed_bytes 2) (map (sealed_in w) (range_with_len first i)) in
    let new = flat_map (sealed_bytes 2) (map (sealed_in w) (range_with_len first (i + 1))) in
    let more : length new ≡ length old + length (sealed_bytes 2 (sealed_body s)) = size_more w first i s is in
    let size : c.loop-i.size ≡ 5 + length old = c.loop-i.invariant.2 in
    let long : c.length-size.result ≡ length (sealed_bytes 2 (sealed_body s)) = c.length-size.ensures.0 in
    let few : c.loop-i.size ≤ 5 + 369 * i = c.loop-i.invariant.0 in
    let short : c.length-size.result ≤ 369 = c.length-size.ensures.1 in
    (omega arith, gathered-more w first i s is c.loop-i.entries room c.loop-i.invariant.1, omega (arith, more, size, long))

pub returns : goal.returns
returns c =
    let w = c.args.window.now in
    let first = c.args.first in
    let e : c.loop-i.i ≡ c.args.count = omega (arith, c.loop-i-test.false, c.loop-i.auto.i-end) in
    let front : ℕ → Type 0 = λ n. map sealed_body (take n c.loop-i.entries) ≡ map (sealed_in w) (range_with_len first n) in
    let long : ℕ → Type 0 = λ n. c.loop-i.size ≡ 5 + length (flat_map (sealed_bytes 2) (map (sealed_in w) (range_with_len first n))) in
    record { all = subst front e c.loop-i.invariant.1; size = subst long e c.loop-i.invariant.2 }
