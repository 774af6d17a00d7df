use Rattle.std.proofs.Common.{◌≡◌, ℕ, ◌<◌, List, length, get_or, sym, refl, ◌∙◌, not-suc-le-zero, arith, length-set}
use Rattle.sha256.specs.Block.{W, rounds, compressed}
use Rattle.sha256.proofs.Rounds.{rounded, stored}
use Rattle.sha256.proofs.Schedule.{schedule_start, schedule_next, next-same}
use Rattle.sha256.proofs.block.compress.Goals as goal
use Rattle.sha256.proofs.block.compress.Goals.{then-t-lt16, else-t-lt16}

pub loop-t-init : goal.loop-t-init
unfolding rounds
loop-t-init c = (refl, (λ k h. absurd (not-suc-le-zero h)), refl)

pub loop-t-preserved : goal.loop-t-preserved
loop-t-preserved c =
    let b : List ℕ = c.args.bytes.now in
    let t : ℕ = c.loop-t.t in
    let x : c.if-t-lt16.x ≡ get_or (W b) t 0 =
    elim c.if-t-lt16.branch [
      | then-t-lt16 w ↦ w.x-is ∙ w.own_word-x.ensures ∙ sym (schedule_start b t w.if-t-lt16.true)
      | else-t-lt16 w ↦ w.x-is ∙ w.next_word-x.ensures ∙ next-same c.loop-t.w (W b) t w.if-t-lt16.false c.loop-t.invariant.1
          ∙ sym (schedule_next b t w.if-t-lt16.false c.loop-t-test.true)
    ] in
    let lt : t < length c.loop-t.w = omega (arith, c.loop-t.invariant.0) in (
      length-set c.loop-t.w t c.if-t-lt16.x ∙ c.loop-t.invariant.0,
      stored c.loop-t.w (W b) t c.if-t-lt16.x lt c.loop-t.invariant.1 x,
      rounded (W b) c.args.h t _ _ _ _ c.loop-t.invariant.2 x c.round_constant.ensures c.one_round-turned.ensures,
    )

pub returns : goal.returns
unfolding compressed
returns c =
    let e : c.loop-t.t ≡ 64 = omega arith in
    c.add_words.ensures ∙ cc
