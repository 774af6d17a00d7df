use Rattle.std.proofs.Common.{◌≡◌, ℕ, List, Ok, Err, Result, sym, refl, ap, ◌∙◌, subst, inr, arith, length-take}
use Rattle.std.proofs.lemmas.List.{length-map}
use Rattle.std.proofs.lemmas.Result.{err_from_is_err_and}
use Rattle.fault.specs.declared.Fault.{Fault}
use Rattle.fault.specs.declared.Layer.TheVariants.{Frame}
use Rattle.octets.specs.Numbers.{Bytes}
use Rattle.record.specs.Chains.{guards}
use Rattle.record.specs.Refusals.{InRange}
use Rattle.record.proofs.Rules.{judged-only}
use Rattle.record.proofs.Keeping.{reading}
use Rattle.record.proofs.Shown.{found-each}
use Rattle.reading.specs.Bodies.{ReadingBody, reading_format, reading_rules, reading_fields, ReadingIn, reading_of, ReadingReads}
use Rattle.reading.specs.Orders.{Orderly}
use Rattle.reading.specs.Marks.{read_item_body}
use Rattle.reading.specs.Plans.{planned}
use Rattle.reading.specs.Readings.{item_in, item_view}
use Rattle.reading.proofs.Readings.{live, coding}
use Rattle.reading.proofs.Taking.{refused_form, refused-order, taken, laid_out, items-ran, head_some, inside, item_found, orderly}
use Rattle.reading.proofs.read_reading.Goals as goal

-- the promises, for the answer that the definitions give
promise : (bs : List ℕ) (r : Result ReadingBody Fault) → Bytes bs → r ≡ reading_of 2 bs → ReadingReads 2 bs r
promise bs r all e = subst (ReadingReads 2 bs) (sym e) (reading Frame (reading_format 2) (reading_rules 2) (reading_fields 2) (ReadingIn 2) (coding 2) bs (live 2) all)

order : (bs : List ℕ) (r : Result ReadingBody Fault) → r ≡ reading_of 2 bs → (b : ReadingBody) → InRange (reading_format 2) bs b → Orderly 2 b r
order bs r e b h = subst (Orderly 2 b) (judged-only Frame (reading_format 2) (reading_rules 2) bs (guards (reading_rules 2 b) (Ok b)) (live 2) (inr (b, h, refl)) ∙ sym e) (orderly 2 b)

pub returns-in_err-plan : goal.returns-in_err-plan
returns-in_err-plan c =
    let p = err_from_is_err_and c.from_residual.result c.from_residual.ensures.1 in
    let bs = c.args.bytes.now in
    let all : Bytes bs = λ i. (c.type_inv.bytes i).fits in
    let e = ap Err p.2 ∙ sym (refused_form 2 bs all _ (sym c.in_err-plan.ensures.answer)) in
    rw p.1 (record { answer = e; promised = promise bs _ all e; found = tt; ordered = order bs _ e })

pub returns-in_err-check_order : goal.returns-in_err-check_order
returns-in_err-check_order c =
    let p = err_from_is_err_and c.from_residual-in_err-check_order.result c.from_residual-in_err-check_order.ensures.1 in
    let bs = c.args.bytes.now in
    let all : Bytes bs = λ i. (c.type_inv.bytes i).fits in
    let e = ap Err p.2 ∙ sym (refused-order 2 bs all _ _ (sym c.in_ok-plan.ensures.answer) (sym c.in_err-check_order.ensures)) in
    rw p.1 (record { answer = e; promised = promise bs _ all e; found = tt; ordered = order bs _ e })

pub returns : goal.returns
returns c =
    let bs = c.args.bytes.now in
    let all : Bytes bs = λ i. (c.type_inv.bytes i).fits in
    let a = c.in_ok-plan.ensures in
    let p = c.in_ok-plan.plan in
    let m = planned p in
    let o = laid_out 2 bs m (sym a.answer) in
    let r = items-ran 2 bs all m o in
    let e = sym (taken 2 bs all m _ (sym a.answer) (sym c.in_ok-check_order.ensures)) in
    record {
      answer = e;
      promised = promise bs _ all e;
      ordered = order bs _ e;
      found = record {
        frame = refl;
        some = head_some 2 bs m.count o.head;
        few = simp length-take (omega (arith, p.items.within));
        counted = length-map m.items (read_item_body 2 bs) ∙ r.count;
        places = r.places;
        each_item = found-each item_in (item_view bs) bs _ (item_found bs) m.items (inside 2 bs all m o);
        list = refl;
        end = a.few.0;
      };
    }
