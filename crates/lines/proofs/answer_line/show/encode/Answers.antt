use Rattle.std.proofs.Common.{◌≡◌, ◌*◌, ◌++◌, length, drop, ap, ◌∙◌, arith, length-take}
use Rattle.std.proofs.lemmas.List.{take_all}
use Rattle.lines.specs.Hex.{hex}
use Rattle.lines.proofs.Encoding.{encode_more}
use Rattle.lines.proofs.answer_line.show.encode.Goals as goal

pub loop-i-preserved : goal.loop-i-preserved
loop-i-preserved c =
    let a = c.digit_of.ensures in
    let b = c.digit_of-in-loop-i.ensures in
    encode_more c.args.bytes.now c.loop-i.out c.args.out.now c.loop-i.i c.digit_of.result c.digit_of-in-loop-i.result
    (omega arith) c.requires c.loop-i.invariant (simp length-take (omega arith)) (cc)

pub returns : goal.returns
returns c =
    let end : c.loop-i.i ≡ length c.args.bytes.now = omega arith in
    c.loop-i.invariant
    ∙ ap (λ xs. hex xs ++ drop (2 * c.loop-i.i) c.args.out.now) (take_all c.loop-i.i c.args.bytes.now (omega arith))
    ∙ ap (λ n. hex c.args.bytes.now ++ drop (2 * n) c.args.out.now) end
