use Rattle.std.proofs.Common.{◌≡◌, ℕ, ◌-◌, List, ◌++◌, length, take, replicate, IfOk, Err, sym, refl, ap, ◌∙◌, subst, arith, length-take}
use Rattle.std.proofs.lemmas.List.{length-append}
use Rattle.std.proofs.lemmas.Result.{err_from_is_err_and}
use Rattle.seal.specs.Seals.{client_signer}
use Rattle.request.specs.Bodies.{write_request, RequestWrites}
use Rattle.request.specs.Sizes.{RequestSize, covered_part}
use Rattle.request.proofs.Drafting.{promised}
use Rattle.sealed_request.specs.Sealed.{under, client_tag}
use Rattle.sealed_request.proofs.Tagging.{draft_of, refused-alike, long, front, passing}
use Rattle.sealed_request.proofs.seal_request.Goals as goal

pub returns-in_err-n : goal.returns-in_err-n
returns-in_err-n g c =
    let p = err_from_is_err_and c.from_residual.result c.from_residual.ensures.1 in
    let u = c.args.plain in
    let tag = g.L.Seal.tag c.args.seal.now in
    let old = c.args.out.now in
    let sixteen = g.met.L.Seal.sixteen c.args.seal.now (client_signer u.client) _ in
    let d = draft_of u (client_tag tag u) in
    let e = ap Err p.2 ∙ sym (refused-alike (draft_of u (replicate 16 0)) d (length old) _ refl sixteen refl (sym c.in_err-n.ensures.answer)) in
    rw p.1 (record { answer = e; size = tt; promised = promised d old old _ sixteen (λ i. (c.type_inv.out i).fits) e refl; passing = tt })

-- the request under a tag of zeros, written aside
abbrev zeros : List ℕ
zeros = replicate 16 0

pub overflow_sub-n : goal.overflow_sub-n
overflow_sub-n g c =
    let q = c.in_ok-n.ensures in
    omega (arith, long (under c.args.plain zeros) refl (replicate 854 0) c.write_request.new.out c.in_ok-n.n q.size.0.most c.write_request.auto.out q.promised)

pub returns-in_err-tag : goal.returns-in_err-tag
returns-in_err-tag g c =
    let q = c.in_ok-n.ensures in
    let n = c.in_ok-n.n in
    let part = take (n - 16 - 0) c.write_request.new.out in
    let low = (q.promised.back n refl).0.client in
    absurd (c.in_err-tag.ensures.0 (omega (arith, low, c.client_signer-signer.ensures), omega (arith, length-append c.bytes-label.result part, ap length c.bytes-label.ensures.bytes, length-take (n - 16 - 0) c.write_request.new.out, q.size.0.most)))

pub returns : goal.returns
returns g c =
    let u = c.args.plain in
    let seal = c.args.seal.now in
    let tag = g.L.Seal.tag seal in
    let q = c.in_ok-n.ensures in
    let n = c.in_ok-n.n in
    let aside = c.write_request.new.out in
    let low = (q.promised.back n refl).0.client in
    let signer : c.client_signer-signer.result ≡ client_signer u.client = omega (arith, low, c.client_signer-signer.ensures) in
    let part : take (n - 16 - 0) aside ≡ covered_part 2 (under u zeros) =
    ap (λ k. take k aside) (omega arith) ∙ front (under u zeros) refl (replicate 854 0) aside n q.size.0.most c.write_request.auto.out q.promised
    in
    let is = c.in_ok-tag.ensures.1 ∙ (λ i. tag (signer i) (c.bytes-label.ensures.bytes i ++ part i)) in
    let old = c.args.out.now in
    let new = c.write_request-2.new.out in
    let r = c.write_request-2.result in
    let w = c.write_request-2.ensures in
    let sixteen = g.met.L.Seal.sixteen seal (client_signer u.client) _ in
    let answer = subst (λ t. r ≡ write_request 2 (under u t) (length old)) is w.answer in
    let promised = subst (λ t. RequestWrites 2 (under u t) old new r) is w.promised in
    record {
      answer = answer;
      size = subst (λ t. IfOk r (RequestSize 2 (under u t))) is w.size.0;
      promised = promised;
      passing = passing tag u old new r sixteen c.write_request-2.auto.out answer promised;
    }
