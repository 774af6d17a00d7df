use Rattle.std.proofs.Common.{Err, sym, refl, ap, ◌∙◌, subst, arith}
use Rattle.std.proofs.lemmas.Result.{err_from_is_err_and}
use Rattle.proof.specs.Rules.{proof_of}
use Rattle.proof.specs.Parts.{Seen}
use Rattle.proof.proofs.Keeping.{reads}
use Rattle.proof.proofs.Whole.{bad_range, bad_entries, surplus, whole, body_from, seen_err, seen_ok}
use Rattle.proof.proofs.read.read_proof.Goals as goal

pub returns-in_err-range : goal.returns-in_err-range
returns-in_err-range c =
    let bs = c.args.bytes.now in
    let f = c.args.f in
    let p = err_from_is_err_and c.from_residual.result c.from_residual.ensures.1 in
    record {
      seen = subst (λ r. Seen f r (proof_of 2 f bs)) (sym (p.1 ∙ ap Err p.2)) (seen_err f _ (proof_of 2 f bs) (bad_range 2 f bs _ (sym c.in_err-range.ensures.answer)));
      promised = reads 1 f bs (λ i. (c.type_inv.bytes i).fits);
    }

pub returns-in_err-end : goal.returns-in_err-end
returns-in_err-end c =
    let bs = c.args.bytes.now in
    let f = c.args.f in
    let p = err_from_is_err_and c.from_residual-in_err-end.result c.from_residual-in_err-end.ensures.1 in
    let g = c.in_ok-range.range in
    record {
      seen = subst (λ r. Seen f r (proof_of 2 f bs)) (sym (p.1 ∙ ap Err p.2)) (seen_err f _ (proof_of 2 f bs) (bad_entries 2 f bs g (sym c.in_ok-range.ensures.answer) _ (sym c.in_err-end.ensures.answer)));
      promised = reads 1 f bs (λ i. (c.type_inv.bytes i).fits);
    }

pub returns-then-bytes-end : goal.returns-then-bytes-end
returns-then-bytes-end c =
    let bs = c.args.bytes.now in
    let f = c.args.f in
    let g = c.in_ok-range.range in
    let e = surplus 2 f bs g (sym c.in_ok-range.ensures.answer) _ (sym c.in_ok-end.ensures.answer) c.if-bytes-end.true in
    record { seen = seen_err f _ (proof_of 2 f bs) (e ∙ ap Err (sym c.malformed.ensures)); promised = reads 1 f bs (λ i. (c.type_inv.bytes i).fits) }

pub returns : goal.returns
returns c =
    let bs = c.args.bytes.now in
    let f = c.args.f in
    let g = c.in_ok-range.range in
    let w = whole 2 f bs g (sym c.in_ok-range.ensures.answer) _ (sym c.in_ok-end.ensures.answer) c.if-bytes-end.false in
    record { seen = seen_ok f _ bs (body_from g w.0) (λ i. (c.type_inv.bytes i).fits) w.1 refl refl (omega (arith, c.ranges.f.fits)) refl refl; promised = reads 1 f bs (λ i. (c.type_inv.bytes i).fits) }
