use Rattle.std.proofs.Common.{◌≡◌, ℕ, ◌+◌, leb, ◌++◌, length, drop, Ok, Err, sym, refl, ap, ◌∙◌, subst, arith}
use Rattle.std.specs.List.{flat_map}
use Rattle.std.proofs.lemmas.List.{length-append}
use Rattle.std.proofs.lemmas.Result.{err_from_is_err_and}
use Rattle.std.proofs.lemmas.Bool.{le-leb, lt-leb}
use Rattle.fault.specs.declared.Layer.TheVariants.{Frame}
use Rattle.fault.specs.declared.Cause.TheVariants.{NoRoom}
use Rattle.fault.specs.Codes.{fault}
use Rattle.record.specs.Formats.{written}
use Rattle.record.proofs.Steps.{pass, refuse}
use Rattle.request.specs.declared.draft.Draft.{Draft}
use Rattle.request.specs.Bodies.{request_fields, write_request}
use Rattle.request.specs.Drafts.{drafted, read_bytes, write_bytes}
use Rattle.request.specs.Sizes.{RequestSize}
use Rattle.request.proofs.Sizing.{sized, sizes_occur}
use Rattle.request.proofs.Drafting.{readied, refused_form, refused-order, room_left, same_bytes, promised}
use Rattle.request.proofs.draft.write_request.Goals as goal

-- the plan's end is the frame's length
size : (d : Draft) (n : ℕ) → length d.tag ≡ 16 → 6 + length (flat_map read_bytes d.reads.now) + length (flat_map write_bytes d.writes.now) ≡ n → length (written (request_fields 2 (drafted d))) ≡ n + 16
size d n tag long =
    let rb = flat_map read_bytes d.reads.now in
    let wb = flat_map write_bytes d.writes.now in
    sym (ap length (same_bytes d)) ∙ omega (arith, length-append (rb ++ wb) d.tag, length-append rb wb, tag, long)

pub returns-in_err-plan : goal.returns-in_err-plan
returns-in_err-plan c =
    let p = err_from_is_err_and c.from_residual.result c.from_residual.ensures.1 in
    let d = c.args.draft in
    let old = c.args.out.now in
    let q = c.in_err-plan.ensures in
    let e = ap Err p.2 ∙ sym (refused_form d q.tag (length old) _ (sym q.answer)) in
    rw p.1 (record { answer = e; size = (tt, (refl, refl)); occur = sizes_occur; promised = promised d old old _ q.tag (λ i. (c.type_inv.out i).fits) e refl })

pub returns-in_err-check_order : goal.returns-in_err-check_order
returns-in_err-check_order c =
    let p = err_from_is_err_and c.from_residual-in_err-check_order.result c.from_residual-in_err-check_order.ensures.1 in
    let d = c.args.draft in
    let old = c.args.out.now in
    let q = c.in_ok-plan.ensures in
    let e = ap Err p.2 ∙ sym (refused-order d q.tag (length old) _ _ (sym q.answer) (sym c.in_err-check_order.ensures)) in
    rw p.1 (record { answer = e; size = (tt, (refl, refl)); occur = sizes_occur; promised = promised d old old _ q.tag (λ i. (c.type_inv.out i).fits) e refl })

pub returns-then-out-size : goal.returns-then-out-size
returns-then-out-size c =
    let d = c.args.draft in
    let old = c.args.out.now in
    let q = c.in_ok-plan.ensures in
    let n = c.in_ok-plan.plan.tag_at + 16 in
    let e : Err (fault NoRoom Frame 0) ≡ write_request 2 (drafted d) (length old) =
    sym (room_left d q.tag (length old) _ _ (sym q.answer) (sym c.in_ok-check_order.ensures) ∙ refuse (leb n (length old)) (fault NoRoom Frame 0) (Ok n) (lt-leb n (length old) (omega arith)))
    in
    rw c.at.ensures (record { answer = e; size = (tt, (refl, refl)); occur = sizes_occur; promised = promised d old old _ q.tag (λ i. (c.type_inv.out i).fits) e refl })

pub put_draft-requires : goal.put_draft-requires
put_draft-requires c =
    let q = c.in_ok-plan.ensures in
    let r = readied c.args.draft _ (sym q.answer) in
    record { few = r.few; ready = r.ready; room = omega (arith, r.long) }

pub returns : goal.returns
returns c =
    let d = c.args.draft in
    let old = c.args.out.now in
    let q = c.in_ok-plan.ensures in
    let t = c.in_ok-plan.plan.tag_at in
    let r = readied d _ (sym q.answer) in
    let n = t + 16 in
    let whole = written (request_fields 2 (drafted d)) in
    let long = size d t q.tag r.long in
    let e : Ok n ≡ write_request 2 (drafted d) (length old) =
    sym (room_left d q.tag (length old) _ _ (sym q.answer) (sym c.in_ok-check_order.ensures) ∙ pass (leb n (length old)) (fault NoRoom Frame 0) (Ok n) (le-leb n (length old) (omega arith)))
    in
    let put = c.put_draft.ensures ∙ ap (λ l. l ++ drop (length l) old) (same_bytes d) ∙ ap (λ k. whole ++ drop k old) long in
    let kept = promised d old _ (Ok n) q.tag (λ i. (c.type_inv.out i).fits) e put in
    record { answer = e; size = (subst (RequestSize 2 (drafted d)) long (sized 2 (drafted d) (kept.back n refl).0), (refl, refl)); occur = sizes_occur; promised = kept }
