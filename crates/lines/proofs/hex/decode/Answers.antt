use Rattle.std.proofs.Common.{◌≡◌, ◌*◌, ◌/◌, length, take, Some, sym, ap, ◌∙◌, subst, arith}
use Rattle.std.proofs.lemmas.List.{drop_all}
use Rattle.lines.specs.Hex.{Decodes, unhex}
use Rattle.lines.proofs.Digits.{before-none, decode_all, decode_high, decode_low, decode_more, unhex_odd}
use Rattle.lines.proofs.hex.decode.Goals as goal
use Rattle.lines.proofs.hex.decode.Goals.{then-digits-ne0-via-then-digits-ne0, then-digits-ne0-via-else-digits-ne0+then-n-bytes}

pub returns-then-digits-ne0 : goal.returns-then-digits-ne0
returns-then-digits-ne0 c = λ room.
    elim c.then-digits-ne0.branch [
      | then-digits-ne0-via-then-digits-ne0 w ↦ unhex_odd c.args.digits.now (λ e. omega (arith, e, w.if-digits-ne0.true))
      | then-digits-ne0-via-else-digits-ne0+then-n-bytes w ↦ absurd (omega (arith, room, w.if-n-bytes.true))
    ]

pub loop-i-init : goal.loop-i-init
loop-i-init c = before-none (unhex c.args.digits.now)

pub returns-in_err-high : goal.returns-in_err-high
returns-in_err-high c =
    subst (λ r. Decodes c.args.digits.now c.loop-i.bytes r) (sym c.from_residual.ensures)
    (λ room. decode_high c.args.digits.now c.loop-i.bytes c.loop-i.i (omega arith) c.loop-i.invariant (sym c.in_err-high.was ∙ c.digit.ensures.value))

pub returns-in_err-low : goal.returns-in_err-low
returns-in_err-low c =
    subst (λ r. Decodes c.args.digits.now c.loop-i.bytes r) (sym c.from_residual-in_err-low.ensures)
    (λ room. decode_low c.args.digits.now c.loop-i.bytes c.loop-i.i (omega arith) c.loop-i.invariant c.in_ok-high.high
    (sym c.in_ok-high.was ∙ c.digit.ensures.value) (sym c.in_err-low.was ∙ c.digit-in-loop-i.ensures.value))

pub loop-i-preserved : goal.loop-i-preserved
loop-i-preserved c =
    decode_more c.args.digits.now c.loop-i.bytes c.loop-i.i (omega arith) c.loop-i.invariant c.in_ok-high.high c.in_ok-low.low
    (omega arith) (sym c.in_ok-high.was ∙ c.digit.ensures.value) (sym c.in_ok-low.was ∙ c.digit-in-loop-i.ensures.value)

pub returns : goal.returns
returns c =
    let end : c.loop-i.i ≡ length c.args.digits.now / 2 = omega arith in (
      omega arith,
      decode_all c.args.digits.now c.loop-i.bytes c.loop-i.i (drop_all (2 * c.loop-i.i) c.args.digits.now (omega arith)) c.loop-i.invariant
          ∙ ap (λ n. Some (take n c.loop-i.bytes)) end,
    )
