use Rattle.std.proofs.Common.{length, Some, None, Err, refl, sym, subst, arith}
use Rattle.std.proofs.lemmas.List.{length_push}
use Rattle.digest.specs.Meaning.{written}
use Rattle.proof.proofs.Walking.{entry_came}
use Rattle.reader.specs.Items.{JudgesItems}
use Rattle.reader.proofs.Judging.{Agreeing, PassedItems, agreed_all, agreeing-more, passed_judges, value_at_0, value-short, wrong-item}
use Rattle.reader.proofs.Spots.{item_came, item_past}
use Rattle.reader.proofs.items.judge.Goals as goal
use Rattle.reader.proofs.items.judge.Goals.{else-read-eq0-via-then-read-eq0+else-read-gt0, else-read-eq0-via-else-read-eq0}

pub readings-init : goal.readings-init
readings-init g c = (refl, λ bs f b judged. tt)

pub returns-in_err-made : goal.returns-in_err-made
returns-in_err-made g c =
    let here = item_came c.readings.read-iterator c.readings.yielded (Some c.in-Some.read) c.next.new.self c.items-read-items.ensures.all c.into_iter-read-iterator.ensures.into_iter_gives c.readings.yielded_by c.in-Some.ensures.steps in
    value-short (λ m. written (g.D.Digest.of m)) c.args.reading c.args.proof (length c.readings.yielded) c.in-Some.read here c.in_err-made.ensures.0 c.from_residual.result

pub loop-part-init : goal.loop-part-init
loop-part-init g c = (c.readings.invariant.0, λ bs f b judged. tt)

pub loop-part-preserved : goal.loop-part-preserved
loop-part-preserved g c =
    let found = entry_came c.loop-part.yielded (Some c.in-Some-part.part) c.next-in-loop-part.new.self c.entries-part-items.ensures c.into_iter-part-iterator.ensures.into_iter_gives c.loop-part.yielded_by c.in-Some-part.ensures.steps in (
      c.loop-part.invariant.0,
      subst (Agreeing c.args.reading c.args.proof c.in-Some.read c.in_ok-made.made) (sym (length_push c.loop-part.yielded c.in-Some-part.part))
          (agreeing-more c.args.reading c.args.proof (length c.loop-part.yielded) c.in-Some.read c.in_ok-made.made c.in-Some-part.part found c.loop-part.invariant.1 c.in_default.ensures),
    )

pub readings-preserved : goal.readings-preserved
readings-preserved g c =
    let here = item_came c.readings.read-iterator c.readings.yielded (Some c.in-Some.read) c.next.new.self c.items-read-items.ensures.all c.into_iter-read-iterator.ensures.into_iter_gives c.readings.yielded_by c.in-Some.ensures.steps in
    let found = entry_came c.loop-part.yielded None c.next-in-loop-part.new.self c.entries-part-items.ensures c.into_iter-part-iterator.ensures.into_iter_gives c.loop-part.yielded_by c.in-None-part.ensures.steps in (
      c.loop-part.invariant.0,
      subst (PassedItems (λ m. written (g.D.Digest.of m)) c.args.reading c.args.proof) (sym (length_push c.readings.yielded c.in-Some.read)) (agreed_all (λ m. written (g.D.Digest.of m)) c.args.reading c.args.proof (length c.readings.yielded) c.in-Some.read here c.in_ok-made.made c.in_ok-made.ensures.1
          (λ z. elim c.else-read-eq0.branch [ else-read-eq0-via-then-read-eq0+else-read-gt0 w ↦ omega arith | else-read-eq0-via-else-read-eq0 w ↦ absurd (w.if-read-eq0.false z) ])
          (length c.loop-part.yielded) found c.loop-part.invariant.1 c.readings.invariant.1),
    )

pub returns-then-read-gt0 : goal.returns-then-read-gt0
returns-then-read-gt0 g c =
    let here = item_came c.readings.read-iterator c.readings.yielded (Some c.in-Some.read) c.next.new.self c.items-read-items.ensures.all c.into_iter-read-iterator.ensures.into_iter_gives c.readings.yielded_by c.in-Some.ensures.steps in
    subst (λ e. JudgesItems (λ m. written (g.D.Digest.of m)) c.args.reading c.args.proof (Err e)) (sym c.at.ensures)
    (value_at_0 (λ m. written (g.D.Digest.of m)) c.args.reading c.args.proof (length c.readings.yielded) c.in-Some.read here c.if-read-eq0.true c.if-read-gt0.true c.readings.invariant.1)

pub returns-in-Some-wrong_by : goal.returns-in-Some-wrong_by
returns-in-Some-wrong_by g c =
    let here = item_came c.readings.read-iterator c.readings.yielded (Some c.in-Some.read) c.next.new.self c.items-read-items.ensures.all c.into_iter-read-iterator.ensures.into_iter_gives c.readings.yielded_by c.in-Some.ensures.steps in
    let found = entry_came c.loop-part.yielded (Some c.in-Some-part.part) c.next-in-loop-part.new.self c.entries-part-items.ensures c.into_iter-part-iterator.ensures.into_iter_gives c.loop-part.yielded_by c.in-Some-part.ensures.steps in
    subst (λ e. JudgesItems (λ m. written (g.D.Digest.of m)) c.args.reading c.args.proof (Err e)) (sym c.at-in-Some-wrong_by.ensures)
    (wrong-item (λ m. written (g.D.Digest.of m)) c.args.reading c.args.proof (length c.readings.yielded) c.in-Some.read here c.in_ok-made.made c.in_ok-made.ensures.1
    (λ z. elim c.else-read-eq0.branch [ else-read-eq0-via-then-read-eq0+else-read-gt0 w ↦ omega arith | else-read-eq0-via-else-read-eq0 w ↦ absurd (w.if-read-eq0.false z) ])
    (length c.loop-part.yielded) c.in-Some-part.part found c.loop-part.invariant.1 c.in-Some-wrong_by.cause c.in-Some-wrong_by.ensures c.readings.invariant.1)

pub returns-in-None : goal.returns-in-None
returns-in-None g c =
    let past = item_came c.readings.read-iterator c.readings.yielded None c.next.new.self c.items-read-items.ensures.all c.into_iter-read-iterator.ensures.into_iter_gives c.readings.yielded_by c.in-None.ensures.steps in
    rw c.readings.invariant.0 (passed_judges (λ m. written (g.D.Digest.of m)) c.args.reading c.args.proof (length c.readings.yielded) (λ bs f b judged. item_past c.args.reading (length c.readings.yielded) bs judged.found (past bs judged.found)) c.readings.invariant.1)
