use Rattle.std.proofs.Common.{length, Some, None, sym, subst}
use Rattle.std.proofs.lemmas.List.{length_push}
use Rattle.std.proofs.lemmas.Result.{err_from_is_err_and}
use Rattle.seal.specs.Seals.{passes}
use Rattle.proof.proofs.Walking.{entry_came}
use Rattle.reader.proofs.Tagging.{Proves, proves-end, proves-more, proves-none, proves-wrong}
use Rattle.reader.proofs.tags.verify_proof.Goals as goal

pub loop-part-init : goal.loop-part-init
loop-part-init g c = proves-none (passes (g.L.Seal.tag c.args.seal.now)) c.args.proof

pub returns-in_err-verify_entry : goal.returns-in_err-verify_entry
returns-in_err-verify_entry g c =
    let found = entry_came c.loop-part.yielded (Some c.in-Some.part) c.next.new.self c.entries-part-items.ensures c.into_iter-part-iterator.ensures.into_iter_gives c.loop-part.yielded_by c.in-Some.ensures.steps in
    let p = err_from_is_err_and c.from_residual.result c.from_residual.ensures.1 in
    let wrong = proves-wrong (passes (g.L.Seal.tag c.args.seal.now)) c.args.proof (length c.loop-part.yielded) c.in-Some.part found c.loop-part.invariant c.in_err-verify_entry.field-0.0 c.in_err-verify_entry.ensures in
    rw (p.1, p.2) wrong

pub loop-part-preserved : goal.loop-part-preserved
loop-part-preserved g c =
    let found = entry_came c.loop-part.yielded (Some c.in-Some.part) c.next.new.self c.entries-part-items.ensures c.into_iter-part-iterator.ensures.into_iter_gives c.loop-part.yielded_by c.in-Some.ensures.steps in
    let tags = passes (g.L.Seal.tag c.args.seal.now) in
    subst (Proves tags c.args.proof) (sym (length_push c.loop-part.yielded c.in-Some.part))
    (proves-more tags c.args.proof (length c.loop-part.yielded) c.in-Some.part found c.loop-part.invariant c.in_ok-verify_entry.field-0 c.in_ok-verify_entry.ensures)

pub returns : goal.returns
returns g c =
    let found = entry_came c.loop-part.yielded None c.next.new.self c.entries-part-items.ensures c.into_iter-part-iterator.ensures.into_iter_gives c.loop-part.yielded_by c.in-None.ensures.steps in
    proves-end (passes (g.L.Seal.tag c.args.seal.now)) c.args.proof (length c.loop-part.yielded) found c.loop-part.invariant
