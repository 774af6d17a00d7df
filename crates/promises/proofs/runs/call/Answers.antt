use Rattle.std.proofs.Common.{refl}
use Rattle.history.specs.Events.{proved, shared_out}
use Rattle.board.proofs.Sets.{sets_quiet, share_quiet}
use Rattle.promises.proofs.Calling.{called, kept-refused, lent, lent_refused, refusal-kept}
use Rattle.promises.proofs.runs.call.Goals as goal

pub returns-in-Deliver : goal.returns-in-Deliver
returns-in-Deliver g c = record {
  refused = λ no'. (kept-refused _ _ c.deliver.result c.deliver.ensures.refused no', refl);
  history = λ tag f own h st sets.
      called _ _ _ tag f own h _ _ _ _ _ _ _ c.in-Deliver.is (_, (refl, refl, refl)) (c.deliver.ensures.history tag f own h st) tt (c.deliver.ensures.sets h sets);
}

pub returns-in-Item : goal.returns-in-Item
returns-in-Item g c = record {
  refused = λ no'. (refl, refl);
  history = λ tag f own h st sets. called _ _ _ tag f own h _ _ _ _ _ _ _ c.in-Item.is (_, (refl, refl, refl)) (c.item.ensures.history tag f own h st) tt (sets_quiet h _ refl sets);
}

pub returns-in-Mark : goal.returns-in-Mark
returns-in-Mark g c = record {
  refused = λ no'. (refl, refl);
  history = λ tag f own h st sets. called _ _ _ tag f own h _ _ _ _ _ _ _ c.in-Mark.is (_, (refl, refl, refl)) (c.mark.ensures.history tag f own h st) tt (sets_quiet h _ refl sets);
}

pub returns-in-ShareOut : goal.returns-in-ShareOut
returns-in-ShareOut g c =
    let r = c.share_out.result in
    let l = lent c.args.room.now c.share_out.new.out c.in-ShareOut.bytes c.min-lent.result c.min-lent.ensures c.share_out.auto.out
    (λ before after. shared_out c.in-ShareOut.version before after r) in
    record {
      refused = λ no'. (refl, lent_refused c.args.room.now c.share_out.new.out _ c.min-lent.result r c.share_out.ensures.bytes no');
      history = λ tag f own h st sets. called _ _ _ tag f own h _ _ _ _ _ _ _ c.in-ShareOut.is (r, (refl, l.0, l.1)) (c.share_out.ensures.history tag f own h st) tt (sets_quiet h _ refl sets);
    }

pub returns-in-ShareIn : goal.returns-in-ShareIn
returns-in-ShareIn g c = record {
  refused = λ no'. (refusal-kept _ c.share_in.result c.share_in.ensures.refused no', refl);
  history = λ tag f own h st sets.
      called _ _ _ tag f own h _ _ _ _ _ _ _ c.in-ShareIn.is (_, (refl, refl, refl)) (c.share_in.ensures.history tag f own h st) tt (sets_quiet h _ (share_quiet c.in-ShareIn.frame.now c.share_in.result) sets);
}

pub returns-in-Proof : goal.returns-in-Proof
returns-in-Proof g c =
    let r = c.proof.result in
    let l = lent c.args.room.now c.proof.new.out c.in-Proof.bytes c.min-lent-in-Proof.result c.min-lent-in-Proof.ensures c.proof.auto.out
    (λ before after. proved c.in-Proof.low c.in-Proof.high before after r) in
    record {
      refused = λ no'. (refl, lent_refused c.args.room.now c.proof.new.out _ c.min-lent-in-Proof.result r c.proof.ensures.bytes no');
      history = λ tag f own h st sets.
          let told = c.proof.ensures.history tag f own h st sets in
          called _ _ _ tag f own h _ _ _ _ _ _ _ c.in-Proof.is (r, (refl, l.0, l.1)) (told.0, told.2) told.1 (sets_quiet h _ refl sets);
    }
