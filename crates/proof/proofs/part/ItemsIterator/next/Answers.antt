use Rattle.std.proofs.Common.{◌+◌, [], drop, get_or, sym, subst, arith}
use Rattle.std.specs.List.{flat_map}
use Rattle.entry.specs.Bodies.{ItemBody, item_bytes}
use Rattle.proof.specs.Bodies.{ItemIn}
use Rattle.proof.specs.Rules.{item_number}
use Rattle.proof.specs.Turns.{GivesItem}
use Rattle.proof.proofs.Frames.{digest_of}
use Rattle.proof.proofs.Stepping.{OneOff, none_left, one_left, one_off}
use Rattle.proof.proofs.part.ItemsIterator.next.Goals as goal

pub returns-in_err-one-clause-steps : goal.returns-in_err-one-clause-steps
returns-in_err-one-clause-steps c =
    subst (λ r. GivesItem c.args.self.now r c.args.self.now) (sym c.from_residual.ensures)
    (tt, λ is k h. (none_left item_number digest_of 32 ItemIn (λ x q. q.digest) is k c.args.self.now.left.now h.in_range h.left c.in_err-one.ensures.cases, tt))

pub returns-clause-steps : goal.returns-clause-steps
returns-clause-steps c =
    let cut = c.in_ok-one.ensures.cases in (
      omega (arith, cut.3),
      λ is k h.
          let below = one_left item_number digest_of 32 ItemIn (λ x q. q.digest) is k c.args.self.now.left.now h.in_range h.left cut.0 in
          let off : (d : ItemBody) → OneOff item_number digest_of (get_or is k d) (flat_map item_bytes (drop (k + 1) is)) c.in_ok-one.one.now c.in_ok-one.others.now
          = λ d. one_off item_number digest_of 32 ItemIn (λ x q. q.digest) is k c.args.self.now.left.now h.in_range h.left d below _ _ cut in
          ((below, λ d. record { item = (off d).number; digest = (off d).string }), record { left = (off (record { item = 0; digest = [] })).rest; inside = omega (arith, below); in_range = h.in_range }),
    )
