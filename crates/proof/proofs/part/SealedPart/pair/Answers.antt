use Rattle.std.proofs.Common.{◌*◌, length, sym, ap, ◌∙◌, subst, inl, inr, arith}
use Rattle.std.specs.List.{slice_range}
use Rattle.std.proofs.lemmas.List.{take_rest}
use Rattle.proof.specs.Parts.{FoundAt, PairHolds, tag_place}
use Rattle.proof.specs.Turns.{pairs_place}
use Rattle.proof.proofs.Laid.{body_size, pairs_size}
use Rattle.proof.proofs.Parting.{before_pair}
use Rattle.proof.proofs.part.SealedPart.pair.Goals as goal
use Rattle.proof.proofs.part.SealedPart.pair.Goals.{then-self-gt-FARTHEST-via-then-self-gt-FARTHEST, then-self-gt-FARTHEST-via-else-self-gt-FARTHEST+then-self-gt-BODY}

pub returns-then-self-gt-FARTHEST-clause-found : goal.returns-then-self-gt-FARTHEST-clause-found
returns-then-self-gt-FARTHEST-clause-found c = λ f at s h.
    elim c.then-self-gt-FARTHEST.branch [
      | then-self-gt-FARTHEST-via-then-self-gt-FARTHEST w ↦ absurd (omega (arith, h.place, h.near, w.if-self-gt-FARTHEST.true))
      | then-self-gt-FARTHEST-via-else-self-gt-FARTHEST+then-self-gt-BODY w ↦ absurd (omega (arith, ap length h.body, body_size 2 s h.in_range.items, h.in_range.few, w.if-self-gt-BODY.true))
    ]

pub returns-in_err-get-clause-found : goal.returns-in_err-get-clause-found
returns-in_err-get-clause-found c = λ f at s h.
    subst (λ r. FoundAt (PairHolds (tag_place 2 at s c.args.k)) s.pairs c.args.k r) (sym c.from_residual.ensures)
    (elim c.in_err-get.ensures.lookup.0 [
      | inl short ↦ omega (arith, short, c.from-at.ensures, ap length h.pairs, pairs_size s.pairs h.in_range.pairs)
      | inr none ↦ absurd (omega (arith, none))
    ])

pub returns-clause-found : goal.returns-clause-found
returns-clause-found c = λ f at s h.
    let part = c.in_ok-get.ensures.lookup.0 in
    (c.next.ensures.steps.1 (pairs_place 2 at s) s.pairs c.args.k (omega (arith, c.ranges.k.fits))
    (before_pair f at c.args.self s c.args.k h _ (omega (arith, part.0, c.from-at.ensures)) (part.2 ∙ ap (λ n. slice_range c.args.self.pairs.now (17 * n) (length c.args.self.pairs.now)) c.from-at.ensures ∙ take_rest c.args.self.pairs.now (17 * c.args.k)) (omega (arith, c.from-at.ensures)))).0
