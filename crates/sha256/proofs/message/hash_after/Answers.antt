use Rattle.std.proofs.Common.{ℕ, ◌*◌, ◌/◌, ◌≤◌, List, ◌++◌, length, drop, sym, ap, ◌∙◌, arith}
use Rattle.std.proofs.lemmas.List.{take_rest}
use Rattle.sha256.specs.Padding.{padding}
use Rattle.sha256.specs.Hash.{after_all}
use Rattle.sha256.proofs.Blocks.{cut_front}
use Rattle.sha256.proofs.message.hash_after.Goals as goal

pub returns : goal.returns
returns c =
    let m : List ℕ = c.args.m.now in
    let f : ℕ = length m / 64 in
    let l : 64 * f ≤ length m = omega arith in
    c.finish.ensures
    ∙ ap (λ (r : List ℕ). after_all c.absorb-h.result (r ++ padding c.args.n)) (take_rest m (64 * f))
    ∙ ap (λ (h : List ℕ). after_all h (drop (64 * f) m ++ padding c.args.n)) c.absorb-h.ensures
    ∙ sym (cut_front c.args.start m (padding c.args.n) f l)
