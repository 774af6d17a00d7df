use Rattle.std.proofs.Common.{length, Some, None, sym, subst}
use Rattle.std.proofs.lemmas.List.{length_push}
use Rattle.std.proofs.lemmas.Result.{err_from_is_err_and}
use Rattle.seal.specs.Seals.{passes}
use Rattle.proof.proofs.Walking.{pair_came}
use Rattle.reader.proofs.Tagging.{Verifies, verifies_end, verifies_more, verifies_none, wrong-tag}
use Rattle.reader.proofs.tags.verify_entry.Goals as goal
use Rattle.reader.proofs.tags.verify_entry.Goals.{In-Some}

pub loop-pair-init : goal.loop-pair-init
loop-pair-init g c = verifies_none (passes (g.L.Seal.tag c.args.seal.now)) c.args.part

pub returns-in_err-verify : goal.returns-in_err-verify
returns-in_err-verify g c =
    let found = pair_came c.loop-pair.yielded (Some c.in-Some.pair) c.next.new.self c.pairs-pair-items.ensures c.into_iter-pair-iterator.ensures.into_iter_gives c.loop-pair.yielded_by c.in-Some.ensures.steps in
    let p = err_from_is_err_and c.from_residual.result c.from_residual.ensures.1 in
    let wrong = wrong-tag (passes (g.L.Seal.tag c.args.seal.now)) c.args.part (length c.loop-pair.yielded) c.in-Some.pair c.bytes-label.result found c.bytes-label.ensures.bytes c.in_err-verify.field-0.0 c.in_err-verify.ensures c.loop-pair.invariant in
    rw (p.1, p.2) wrong

pub loop-pair-preserved : goal.loop-pair-preserved
loop-pair-preserved g c =
    let found = pair_came c.loop-pair.yielded (Some c.in-Some.pair) c.next.new.self c.pairs-pair-items.ensures c.into_iter-pair-iterator.ensures.into_iter_gives c.loop-pair.yielded_by c.in-Some.ensures.steps in
    let tags = passes (g.L.Seal.tag c.args.seal.now) in
    subst (Verifies tags c.args.part) (sym (length_push c.loop-pair.yielded c.in-Some.pair))
    (verifies_more tags c.args.part (length c.loop-pair.yielded) c.in-Some.pair c.bytes-label.result found c.bytes-label.ensures.bytes c.in_ok-verify.ensures.1 c.loop-pair.invariant)

pub returns : goal.returns
returns g c =
    let found = pair_came c.loop-pair.yielded None c.next.new.self c.pairs-pair-items.ensures c.into_iter-pair-iterator.ensures.into_iter_gives c.loop-pair.yielded_by c.in-None.ensures.steps in
    verifies_end (passes (g.L.Seal.tag c.args.seal.now)) c.args.part (length c.loop-pair.yielded) found c.loop-pair.invariant
