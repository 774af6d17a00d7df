use Rattle.std.proofs.Common.{◌≡◌, ◌+◌, ◌-◌, max, rules, length, take, refl, sym, ap, ◌∙◌}
use Rattle.proof.specs.Rules.{proof_of}
use Rattle.board.specs.Proofs.{framed_now, proof_in}
use Rattle.board.proofs.ProofOut.{proof-framed}
use Rattle.board.proofs.state.Board.put_proof.Goals as goal

pub returns : goal.returns
returns g c =
    let b = c.args.self.now in
    let first = c.max-first.result in
    let low : first ≡ max 1 c.args.low = search rules in
    let room = length c.args.out.now in
    record {
      answer = proof-framed b.window b.place.size.f b.count c.args.low c.args.high first (c.args.high + 1 - first) room
          c.in_ok-check_range.field-0 c.in_ok-check_sealed.field-0 c.write_range.result low refl c.in_ok-check_range.ensures c.in_ok-check_sealed.ensures
          (c.write_range.ensures.answer ∙ ap (λ k. framed_now k (proof_in b.window c.args.low c.args.high) room) c.faults.ensures);
      bytes = c.write_range.ensures.bytes;
      back = λ n done. ap (λ k. proof_of 2 k (take n c.write_range.new.out)) (sym c.faults.ensures) ∙ c.write_range.ensures.back n done;
    }
