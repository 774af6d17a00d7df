use Rattle.std.proofs.Common.{◌+◌, ◌*◌, sym, refl, ap, ◌∙◌, subst, arith}
use Rattle.octets.specs.Parts.{part_at}
use Rattle.proof.specs.Bodies.{SealedIn}
use Rattle.proof.proofs.Laid.{laid}
use Rattle.proof.proofs.read.Proof.sealed_at.Goals as goal

pub returns-then-n-at-2-clause-there : goal.returns-then-n-at-2-clause-there
returns-then-n-at-2-clause-there c = λ pre post f due s same h fits e long near.
    let y = laid c.args.self.frame.now pre post f due c.args.at s h fits e long in
    omega (arith, c.if-n-at-2.true, y.room, y.writes, same)

pub returns-clause-there : goal.returns-clause-there
returns-clause-there c = λ pre post f due s same h fits e long near.
    let bs = c.args.self.frame.now in
    let at = c.args.at in
    let y = laid bs pre post f due at s h fits e long in
    record {
      version = c.number_at.ensures.value ∙ y.version;
      place = refl;
      near = near;
      body = c.part.ensures.value ∙ ap (λ n. part_at bs at (3 + 33 * n)) y.writes ∙ y.body;
      pairs = c.part-2.ensures.value ∙ (λ i. part_at bs (at + (3 + 33 * y.writes i)) (17 * (same i + 1))) ∙ y.pairs;
      in_range = subst (λ x. SealedIn f x s) (sym h.dated) h;
    }
