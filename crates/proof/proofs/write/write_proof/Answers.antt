use Rattle.std.proofs.Common.{◌≡◌, ℕ, leb, List, ◌++◌, length, drop, Ok, Err, Result, sym, refl, ap, ◌∙◌, subst, arith}
use Rattle.std.proofs.lemmas.Result.{err_from_is_err_and}
use Rattle.std.proofs.lemmas.Bool.{le-leb, lt-leb}
use Rattle.fault.specs.declared.Fault.{Fault}
use Rattle.fault.specs.declared.Layer.TheVariants.{Frame}
use Rattle.fault.specs.declared.Cause.TheVariants.{NoRoom}
use Rattle.fault.specs.Codes.{fault}
use Rattle.octets.specs.Numbers.{Bytes}
use Rattle.record.specs.Writing.{filled, room_for}
use Rattle.record.proofs.Steps.{pass, refuse, then_ok, then_err}
use Rattle.entry.specs.declared.parts.SealedEntry.{SealedEntry}
use Rattle.proof.specs.Bodies.{ProofBody, proof_bytes}
use Rattle.proof.specs.Writing.{ProofWrites, drafted, weigh_proof, write_proof}
use Rattle.proof.specs.Sizes.{ProofSize}
use Rattle.proof.proofs.Sizing.{known_sizes, sized}
use Rattle.proof.proofs.Weighing.{proof-end}
use Rattle.proof.proofs.Writes.{both_fit, solid, writes}
use Rattle.proof.proofs.write.write_proof.Goals as goal

-- the promise, for the answer and the buffer that the definitions give
promise : (f low high : ℕ) (es : List SealedEntry) (old new : List ℕ) (r : Result ℕ Fault) → Bytes new → r ≡ write_proof 2 f (drafted low high es) (length old) → new ≡ filled r (proof_bytes 2 (drafted low high es)) old → ProofWrites 2 f (drafted low high es) old new r
promise f low high es old new r all e put = writes 1 f (drafted low high es) (solid es) old new r e put all

-- what is left to ask of a proof that passes is the room
room_left : (f room n : ℕ) (b : ProofBody) → weigh_proof 2 f b ≡ Ok n → write_proof 2 f b room ≡ room_for n room
room_left f room n b q = then_ok (weigh_proof 2 f b) (λ e. room_for e room) n q

pub returns-in_err-size : goal.returns-in_err-size
returns-in_err-size c =
    let p = err_from_is_err_and c.from_residual.result c.from_residual.ensures.1 in
    let b = drafted c.args.low c.args.high c.args.entries.now in
    let old = c.args.out.now in
    let e = ap Err p.2 ∙ sym (then_err (weigh_proof 2 c.args.f b) (λ n. room_for n (length old)) _ (sym c.in_err-size.ensures)) in
    rw p.1 (record { answer = e; size = (tt, known_sizes); promised = promise c.args.f c.args.low c.args.high c.args.entries.now old old _ (λ i. (c.type_inv.out i).fits) e refl })

pub returns-then-out-size : goal.returns-then-out-size
returns-then-out-size c =
    let b = drafted c.args.low c.args.high c.args.entries.now in
    let old = c.args.out.now in
    let n = c.in_ok-size.size in
    let e : Err c.at.result ≡ write_proof 2 c.args.f b (length old) =
    ap Err c.at.ensures ∙ sym (room_left c.args.f (length old) n b (sym c.in_ok-size.ensures) ∙ refuse (leb n (length old)) (fault NoRoom Frame 0) (Ok n) (lt-leb n (length old) (omega arith)))
    in
    record { answer = e; size = (tt, known_sizes); promised = promise c.args.f c.args.low c.args.high c.args.entries.now old old _ (λ i. (c.type_inv.out i).fits) e refl }

pub put-requires : goal.put-requires
put-requires c =
    let es = c.args.entries.now in
    let b = drafted c.args.low c.args.high es in
    let q = sym c.in_ok-size.ensures in
    let long = (proof-end 1 c.args.f b _ (solid es) q).1 in
    record { fits = both_fit 2 c.args.f b _ q; room = omega (arith, long) }

pub returns : goal.returns
returns c =
    let es = c.args.entries.now in
    let b = drafted c.args.low c.args.high es in
    let old = c.args.out.now in
    let n = c.in_ok-size.size in
    let q = sym c.in_ok-size.ensures in
    let long = (proof-end 1 c.args.f b _ (solid es) q).1 in
    let e : Ok n ≡ write_proof 2 c.args.f b (length old) =
    sym (room_left c.args.f (length old) n b q ∙ pass (leb n (length old)) (fault NoRoom Frame 0) (Ok n) (le-leb n (length old) (omega arith)))
    in
    let put = c.put.ensures ∙ ap (λ k. proof_bytes 2 b ++ drop k old) (sym long) in
    let kept = promise c.args.f c.args.low c.args.high es old _ (Ok n) (λ i. (c.type_inv.out i).fits) e put in
    record { answer = e; size = (subst (ProofSize 2 c.args.f b) (sym long) (sized 2 c.args.f b (kept.back n refl).0.in_range), known_sizes); promised = kept }
