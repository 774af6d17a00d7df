use Rattle.std.proofs.Common.{◌≡◌, ℕ, leb, List, ◌++◌, length, drop, Ok, Err, Result, sym, refl, ap, ◌∙◌, arith}
use Rattle.std.proofs.lemmas.Result.{err_from_is_err_and}
use Rattle.std.proofs.lemmas.Bool.{le-leb, lt-leb}
use Rattle.fault.specs.declared.Fault.{Fault}
use Rattle.fault.specs.declared.Layer.TheVariants.{Frame}
use Rattle.fault.specs.declared.Cause.TheVariants.{NoRoom}
use Rattle.fault.specs.Codes.{fault}
use Rattle.octets.specs.Numbers.{Bytes}
use Rattle.record.specs.Formats.{written}
use Rattle.record.specs.Writing.{filled}
use Rattle.record.proofs.Steps.{pass, refuse}
use Rattle.record.proofs.Keeping.{writing}
use Rattle.reading.specs.declared.part.ReadingDraft.{ReadingDraft}
use Rattle.reading.specs.Bodies.{reading_format, reading_rules, reading_fields, ReadingIn, write_reading, ReadingWrites}
use Rattle.reading.specs.Drafts.{drafted}
use Rattle.reading.proofs.Readings.{coding, exact}
use Rattle.reading.proofs.Drafting.{readied, refused_form, refused-order, room_left, same_bytes}
use Rattle.reading.proofs.draft.write_reading.Goals as goal

-- the promises, for the answer and the buffer that the definitions give
promise : (ds : List ReadingDraft) (old new : List ℕ) (r : Result ℕ Fault) → Bytes new → r ≡ write_reading 2 (drafted ds) (length old) → new ≡ filled r (written (reading_fields 2 (drafted ds))) old → ReadingWrites 2 (drafted ds) old new r
promise ds old new r all e b = writing Frame (reading_format 2) (reading_rules 2) (reading_fields 2) (ReadingIn 2) (coding 2) (drafted ds) (exact 2 (drafted ds)) old new r e b all

pub returns-in_err-plan : goal.returns-in_err-plan
returns-in_err-plan c =
    let p = err_from_is_err_and c.from_residual.result c.from_residual.ensures.1 in
    let ds = c.args.items.now in
    let old = c.args.out.now in
    let e = ap Err p.2 ∙ sym (refused_form ds (length old) _ (sym c.in_err-plan.ensures.answer)) in
    rw p.1 (record { answer = e; promised = promise ds old old _ (λ i. (c.type_inv.out i).fits) e refl })

pub returns-in_err-check_order : goal.returns-in_err-check_order
returns-in_err-check_order c =
    let p = err_from_is_err_and c.from_residual-in_err-check_order.result c.from_residual-in_err-check_order.ensures.1 in
    let ds = c.args.items.now in
    let old = c.args.out.now in
    let e = ap Err p.2 ∙ sym (refused-order ds (length old) _ _ (sym c.in_ok-plan.ensures.answer) (sym c.in_err-check_order.ensures)) in
    rw p.1 (record { answer = e; promised = promise ds old old _ (λ i. (c.type_inv.out i).fits) e refl })

pub returns-then-out-plan : goal.returns-then-out-plan
returns-then-out-plan c =
    let ds = c.args.items.now in
    let old = c.args.out.now in
    let n = c.in_ok-plan.plan.end in
    let e : Err (fault NoRoom Frame 0) ≡ write_reading 2 (drafted ds) (length old) =
    sym (room_left ds (length old) _ _ (sym c.in_ok-plan.ensures.answer) (sym c.in_ok-check_order.ensures) ∙ refuse (leb n (length old)) (fault NoRoom Frame 0) (Ok n) (lt-leb n (length old) (omega arith)))
    in
    rw c.at.ensures (record { answer = e; promised = promise ds old old _ (λ i. (c.type_inv.out i).fits) e refl })

pub put_draft-requires : goal.put_draft-requires
put_draft-requires c =
    let r = readied c.args.items.now _ (sym c.in_ok-plan.ensures.answer) in
    record { few = r.few; ready = r.ready; room = omega (arith, r.long) }

pub returns : goal.returns
returns c =
    let ds = c.args.items.now in
    let old = c.args.out.now in
    let n = c.in_ok-plan.plan.end in
    let r = readied ds _ (sym c.in_ok-plan.ensures.answer) in
    let whole = written (reading_fields 2 (drafted ds)) in
    let long : length whole ≡ n = sym (ap length (same_bytes ds)) ∙ omega (arith, r.long) in
    let e : Ok n ≡ write_reading 2 (drafted ds) (length old) =
    sym (room_left ds (length old) _ _ (sym c.in_ok-plan.ensures.answer) (sym c.in_ok-check_order.ensures) ∙ pass (leb n (length old)) (fault NoRoom Frame 0) (Ok n) (le-leb n (length old) (omega arith)))
    in
    let put = c.put_draft.ensures ∙ ap (λ l. l ++ drop (length l) old) (same_bytes ds) ∙ ap (λ k. whole ++ drop k old) long in
    record { answer = e; promised = promise ds old _ (Ok n) (λ i. (c.type_inv.out i).fits) e put }
