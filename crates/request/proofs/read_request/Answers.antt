use Rattle.std.proofs.Common.{◌≡◌, ℕ, ◌+◌, ◌-◌, List, length, take, drop, Ok, Err, Result, sym, refl, ap, ◌∙◌, subst, inr, arith}
use Rattle.std.proofs.lemmas.Result.{err_from_is_err_and}
use Rattle.fault.specs.declared.Fault.{Fault}
use Rattle.fault.specs.declared.Layer.TheVariants.{Frame}
use Rattle.octets.specs.Numbers.{Bytes}
use Rattle.octets.specs.Parts.{part_at}
use Rattle.std.proofs.lemmas.List.{take_at, length-append}
use Rattle.record.specs.Chains.{guards}
use Rattle.record.specs.Refusals.{InRange}
use Rattle.record.proofs.Rules.{judged-only}
use Rattle.record.proofs.Keeping.{reading}
use Rattle.record.proofs.Walks.{part_length}
use Rattle.record.proofs.Shown.{found-each}
use Rattle.request.specs.Bodies.{RequestBody, request_format, request_rules, request_fields, RequestIn, read_request, RequestReads}
use Rattle.request.specs.Plans.{planned, body_of}
use Rattle.request.specs.Orders.{Orderly}
use Rattle.request.specs.Sizes.{RequestSize, covered_part}
use Rattle.request.proofs.Sizing.{sized, orderly, covered_then_tag}
use Rattle.request.proofs.Requests.{live, coding}
use Rattle.request.proofs.Taking.{refused_form, refused-order, taken, laid_out, counts, reads-inside, writes-inside, read_found, write_found}
use Rattle.request.specs.Requests.{read_in, read_view, write_in, write_view}
use Rattle.request.proofs.read_request.Goals as goal

-- the promises, for the answer that the definitions give
promise : (bs : List ℕ) (r : Result RequestBody Fault) → Bytes bs → r ≡ read_request 2 bs → RequestReads 2 bs r
promise bs r all e = subst (RequestReads 2 bs) (sym e) (reading Frame (request_format 2) (request_rules 2) (request_fields 2) (RequestIn 2) (coding 2) bs (live 2) all)

order : (bs : List ℕ) (r : Result RequestBody Fault) → r ≡ read_request 2 bs → (b : RequestBody) → InRange (request_format 2) bs b → Orderly 2 b r
order bs r e b h = subst (Orderly 2 b) (judged-only Frame (request_format 2) (request_rules 2) bs (guards (request_rules 2 b) (Ok b)) (live 2) (inr (b, h, refl)) ∙ sym e) (orderly 2 b)

pub returns-in_err-plan : goal.returns-in_err-plan
returns-in_err-plan c =
    let p = err_from_is_err_and c.from_residual.result c.from_residual.ensures.1 in
    let bs = c.args.bytes.now in
    let all : Bytes bs = λ i. (c.type_inv.bytes i).fits in
    let e = ap Err p.2 ∙ sym (refused_form 2 bs all _ (sym c.in_err-plan.ensures.answer)) in
    rw p.1 (record { answer = e; promised = promise bs _ all e; found = tt; ordered = order bs _ e; size = tt })

pub returns-in_err-check_order : goal.returns-in_err-check_order
returns-in_err-check_order c =
    let p = err_from_is_err_and c.from_residual-in_err-check_order.result c.from_residual-in_err-check_order.ensures.1 in
    let bs = c.args.bytes.now in
    let all : Bytes bs = λ i. (c.type_inv.bytes i).fits in
    let e = ap Err p.2 ∙ sym (refused-order 2 bs all _ _ (sym c.in_ok-plan.ensures.answer) (sym c.in_err-check_order.ensures)) in
    rw p.1 (record { answer = e; promised = promise bs _ all e; found = tt; ordered = order bs _ e; size = tt })

pub returns : goal.returns
returns c =
    let bs = c.args.bytes.now in
    let all : Bytes bs = λ i. (c.type_inv.bytes i).fits in
    let a = c.in_ok-plan.ensures in
    let p = c.in_ok-plan.plan in
    let m = planned p in
    let b = body_of 2 bs m in
    let o = laid_out 2 bs m (sym a.answer) in
    let w : p.tag_at + 16 - p.tag_at ≡ 16 = omega arith in
    let ok = sym (taken 2 bs all m _ (sym a.answer) (sym c.in_ok-check_order.ensures)) in
    let e = (λ i. Ok (record { client = b.client; sequence = b.sequence; reads = b.reads; writes = b.writes; tag = take (w i) (drop p.tag_at bs) })) ∙ ok in
    let got = (promise bs (Ok b) all ok).accepted b refl in
    let split = got.2 ∙ covered_then_tag 2 b in
    let tag : take (p.tag_at + 16 - p.tag_at) (drop p.tag_at bs) ≡ part_at bs p.tag_at 16 = ap (λ n. take n (drop p.tag_at bs)) w in
    record {
      answer = e;
      promised = promise bs _ all e;
      ordered = order bs _ e;
      size = subst (λ t. RequestSize 2 (record { client = b.client; sequence = b.sequence; reads = b.reads; writes = b.writes; tag = take t (drop p.tag_at bs) }) (length bs)) (sym w)
          (subst (λ l. RequestSize 2 b (length l)) (sym got.2) (sized 2 b got.0));
      found = record {
        frame = refl;
        reads = a.few.0;
        writes = a.few.1;
        counted = counts 2 bs all m o;
        reads_in = reads-inside 2 bs all m o;
        writes_in = writes-inside 2 bs all m o;
        tag = tag;
        tag-long = ap length tag ∙ part_length bs p.tag_at 16 (omega (arith, a.few.2));
        read-list = refl;
        write-list = refl;
        end = a.few.2;
        covered = ap (take p.tag_at) split ∙ take_at (covered_part 2 b) b.tag p.tag_at (omega (arith, a.few.2, ap length split, length-append (covered_part 2 b) b.tag, got.0.tag));
        each_read = found-each read_in (read_view bs) bs _ (read_found bs) m.reads (reads-inside 2 bs all m o);
        each_write = found-each write_in (write_view bs) bs _ (write_found bs) m.writes (writes-inside 2 bs all m o);
      };
    }
