use Rattle.std.proofs.Common.{◌+◌, [], drop, get_or, sym, subst, arith}
use Rattle.std.specs.List.{flat_map}
use Rattle.entry.specs.Bodies.{PairBody, pair_bytes}
use Rattle.proof.specs.Bodies.{PairIn}
use Rattle.proof.specs.Rules.{pair_number}
use Rattle.proof.specs.Turns.{GivesPair}
use Rattle.proof.proofs.Frames.{tag_of}
use Rattle.proof.proofs.Stepping.{OneOff, none_left, one_left, one_off}
use Rattle.proof.proofs.part.PairsIterator.next.Goals as goal

pub returns-in_err-one-clause-steps : goal.returns-in_err-one-clause-steps
returns-in_err-one-clause-steps c =
    subst (λ r. GivesPair c.args.self.now r c.args.self.now) (sym c.from_residual.ensures)
    (tt, λ at ps k few h. (none_left pair_number tag_of 16 PairIn (λ x q. q.tag) ps k c.args.self.now.left.now h.in_range h.left c.in_err-one.ensures.cases, tt))

pub returns-clause-steps : goal.returns-clause-steps
returns-clause-steps c =
    let cut = c.in_ok-one.ensures.cases in (
      omega (arith, cut.3),
      λ at ps k few h.
          let below = one_left pair_number tag_of 16 PairIn (λ x q. q.tag) ps k c.args.self.now.left.now h.in_range h.left cut.0 in
          let off : (d : PairBody) → OneOff pair_number tag_of (get_or ps k d) (flat_map pair_bytes (drop (k + 1) ps)) c.in_ok-one.one.now c.in_ok-one.others.now
          = λ d. one_off pair_number tag_of 16 PairIn (λ x q. q.tag) ps k c.args.self.now.left.now h.in_range h.left d below _ _ cut in (
            (below, λ d. record { signer = (off d).number; tag = (off d).string; place = omega (arith, h.place, h.near, few) }),
            record { left = (off (record { signer = 0; tag = [] })).rest; place = omega (arith, h.place, h.near, few); near = h.near; inside = omega (arith, below); in_range = h.in_range },
          ),
    )
