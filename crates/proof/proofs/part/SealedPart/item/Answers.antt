use Rattle.std.proofs.Common.{◌+◌, ◌*◌, length, sym, ap, ◌∙◌, subst, inl, inr, arith}
use Rattle.std.specs.List.{slice_range}
use Rattle.std.proofs.lemmas.List.{take_rest}
use Rattle.proof.specs.Parts.{FoundAt, ItemHolds}
use Rattle.proof.proofs.Laid.{body_size}
use Rattle.proof.proofs.Parting.{before_item}
use Rattle.proof.proofs.part.SealedPart.item.Goals as goal

pub returns-in_err-get-clause-found : goal.returns-in_err-get-clause-found
returns-in_err-get-clause-found c = λ f at s h.
    subst (λ r. FoundAt ItemHolds s.entry.items c.args.k r) (sym c.from_residual.ensures)
    (elim c.in_err-get.ensures.lookup.0 [
      | inl short ↦ omega (arith, short, c.from.ensures, ap length h.body, body_size 2 s h.in_range.items)
      | inr none ↦ absurd (omega (arith, none))
    ])

pub returns-clause-found : goal.returns-clause-found
returns-clause-found c = λ f at s h.
    let part = c.in_ok-get.ensures.lookup.0 in
    (c.next.ensures.steps.1 s.entry.items c.args.k
    (before_item f at c.args.self s c.args.k h _ (omega (arith, part.0, c.from.ensures)) (part.2 ∙ ap (λ n. slice_range c.args.self.body.now (3 + 33 * n) (length c.args.self.body.now)) c.from.ensures ∙ take_rest c.args.self.body.now (3 + 33 * c.args.k)))).0
