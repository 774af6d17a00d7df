use Rattle.std.proofs.Common.{ℕ, ◌+◌, ◌*◌, ◌/◌, List, ◌++◌, length, drop, sym, ap, ◌∙◌}
use Rattle.std.proofs.lemmas.List.{take_rest}
use Rattle.sha256.specs.Padding.{padding}
use Rattle.sha256.specs.Hash.{after_all}
use Rattle.sha256.proofs.Joined.{head_first}
use Rattle.sha256.proofs.message.hash_parts.Goals as goal

pub returns : goal.returns
returns c =
    let head : List ℕ = c.args.head.now in
    let rest : List ℕ = c.args.rest.now in
    let f : ℕ = length head / 64 in
    let n : ℕ = c.args.before + length head + length rest in
    c.hash_joined.ensures
    ∙ ap (λ (t : List ℕ). after_all c.absorb-h.result ((t ++ rest) ++ padding n)) (take_rest head (64 * f))
    ∙ ap (λ (h : List ℕ). after_all h ((drop (64 * f) head ++ rest) ++ padding n)) c.absorb-h.ensures
    ∙ sym (head_first c.args.start head rest n)
