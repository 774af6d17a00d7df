use Rattle.std.proofs.Common.{◌≡◌, ◌+◌, ◌-◌, ◌≤◌, max, rules, length, take, refl, arith}
use Rattle.board.proofs.ProofOut.{framed-written, proof-back, proof-bytes}
use Rattle.board.proofs.state.proofs.write_range.Goals as goal

pub returns : goal.returns
returns c =
    let w = c.args.window.now in
    let first = c.max-first.result in
    let low : first ≡ max 1 c.args.low = search rules in
    let n = c.args.high + 1 - first in
    let es = c.gather-size.new.entries in
    let part = take n es in
    let space : c.gather-size.result ≤ length c.args.out.now = omega (arith, c.if-out-size.false) in
    record {
      answer = framed-written w c.args.low c.args.high first n es part c.args.f c.args.f low refl c.gather-size.ensures.all refl refl
          c.gather-size.result c.args.out.now c.write_proof.result c.gather-size.ensures.size space c.write_proof.ensures.answer;
      bytes = proof-bytes w c.args.low c.args.high first n es part c.args.f c.args.f low refl c.gather-size.ensures.all refl refl
          c.args.out.now c.write_proof.new.out c.write_proof.result c.write_proof.ensures.promised;
      back = proof-back w c.args.low c.args.high first n es part c.args.f c.args.f low refl c.gather-size.ensures.all refl refl
          c.args.out.now c.write_proof.new.out c.write_proof.result c.write_proof.ensures.promised;
    }
