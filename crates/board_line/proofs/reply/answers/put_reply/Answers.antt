use Rattle.std.proofs.Common.{◌≡◌, ℕ, length, take, drop, sym, refl, ap, ◌∙◌, subst, arith, length-drop, length-take}
use Rattle.history.specs.Events.{asked, delivered, marked, proved, shared_in, shared_out}
use Rattle.answer.specs.Answers.{said}
use Rattle.board.proofs.Sets.{sets_quiet, share_quiet}
use Rattle.lines.specs.Lines.{asks_for}
use Rattle.lines.specs.Replies.{reply}
use Rattle.board_line.proofs.Served.{delivered-changes, shared_changes}
use Rattle.board_line.proofs.Written.{Few, lent_back, proof-few, share-few}
use Rattle.board_line.proofs.reply.answers.put_reply.Goals as goal

pub returns-in-Deliver : goal.returns-in-Deliver
returns-in-Deliver g c = record {
  bound = c.put_delivery.ensures.bound;
  served = record {
    event = delivered c.in-Deliver.frame.now c.deliver.result;
    asks = ap asks_for (sym c.in-Deliver.is);
    roomy = tt;
    says = c.put_delivery.ensures.front;
    history = λ tag f own h st sets. (let told = c.deliver.ensures.history tag f own h st in (told.0, tt, told.1, c.deliver.ensures.sets h sets));
    changes = delivered-changes c.args.board.now c.deliver.new.self c.in-Deliver.frame.now c.deliver.result c.deliver.ensures.refused;
  };
}

pub returns-in-ShareIn : goal.returns-in-ShareIn
returns-in-ShareIn g c = record {
  bound = c.put_count.ensures.bound;
  served = record {
    event = shared_in c.in-ShareIn.frame.now c.share_in.result;
    asks = ap asks_for (sym c.in-ShareIn.is);
    roomy = tt;
    says = c.put_count.ensures.front;
    history = λ tag f own h st sets. (let told = c.share_in.ensures.history tag f own h st in (told.0, tt, told.1, sets_quiet h _ (share_quiet c.in-ShareIn.frame.now c.share_in.result) sets));
    changes = shared_changes c.args.board.now c.share_in.new.self c.in-ShareIn.frame.now c.share_in.result c.share_in.ensures.refused;
  };
}

pub returns-in-Proof : goal.returns-in-Proof
returns-in-Proof g c = record {
  bound = c.put_written.ensures.bound;
  served = record {
    event = proved c.in-Proof.low c.in-Proof.high (take 11813 (drop 1 c.args.out.now)) c.proof-written.new.out c.proof-written.result;
    asks = ap asks_for (sym c.in-Proof.is);
    roomy = simp (length-take, length-drop) (omega arith);
    says = c.put_written.ensures.front ∙ ap (λ zs. reply (λ n. take n zs) c.proof-written.result) (lent_back 11813 c.args.out.now c.proof-written.new.out (omega arith));
    history = λ tag f own h st sets. (let told = c.proof-written.ensures.history tag f own h st sets in (told.0, told.1, told.2, sets_quiet h _ refl sets));
    changes = refl;
  };
}

pub returns-in-Item : goal.returns-in-Item
returns-in-Item g c = record {
  bound = c.put_item.ensures.bound;
  served = record {
    event = asked c.in-Item.number (said c.item.result);
    asks = ap asks_for (sym c.in-Item.is);
    roomy = tt;
    says = c.put_item.ensures.front;
    history = λ tag f own h st sets. (let told = c.item.ensures.history tag f own h st in (told.0, tt, told.1, sets_quiet h _ refl sets));
    changes = refl;
  };
}

pub returns-in-Mark : goal.returns-in-Mark
returns-in-Mark g c = record {
  bound = omega arith;
  served = record {
    event = marked c.mark-mark.result.count c.mark-mark.result.chain;
    asks = ap asks_for (sym c.in-Mark.is);
    roomy = tt;
    says = c.put_at.ensures.front ∙ c.mark_reply.ensures;
    history = λ tag f own h st sets. (let told = c.mark-mark.ensures.history tag f own h st in (told.0, tt, told.1, sets_quiet h _ refl sets));
    changes = refl;
  };
}

pub returns-in-ShareOut : goal.returns-in-ShareOut
returns-in-ShareOut g c = record {
  bound = c.put_written-in-ShareOut.ensures.bound;
  served = record {
    event = shared_out c.in-ShareOut.version (take 11813 (drop 1 c.args.out.now)) c.share_out-written.new.out c.share_out-written.result;
    asks = ap asks_for (sym c.in-ShareOut.is);
    roomy = simp (length-take, length-drop) (omega arith);
    says = c.put_written-in-ShareOut.ensures.front ∙ ap (λ zs. reply (λ n. take n zs) c.share_out-written.result) (lent_back 11813 c.args.out.now c.share_out-written.new.out (omega arith));
    history = λ tag f own h st sets. (let told = c.share_out-written.ensures.history tag f own h st in (told.0, tt, told.1, sets_quiet h _ refl sets));
    changes = refl;
  };
}

pub put_written-requires : goal.put_written-requires
put_written-requires g c =
    let old = take 11813 (drop 1 c.args.out.now) in
    let room : length old ≡ 11813 = simp (length-take, length-drop) (omega arith) in
    let P : ℕ → Type 0 = λ k. Few k c.proof-written.result in
    subst P room (proof-few c.args.board.now.window c.args.board.now.place.size.f c.args.board.now.count c.in-Proof.low c.in-Proof.high (length old) c.proof-written.result c.proof-written.ensures.answer)

pub put_written-requires-in-ShareOut : goal.put_written-requires-in-ShareOut
put_written-requires-in-ShareOut g c =
    let old = take 11813 (drop 1 c.args.out.now) in
    let room : length old ≡ 11813 = simp (length-take, length-drop) (omega arith) in
    let P : ℕ → Type 0 = λ k. Few k c.share_out-written.result in
    subst P room (share-few c.args.board.now.count c.in-ShareOut.version (length old) c.share_out-written.result c.share_out-written.ensures.answer)
