use Rattle.digest.specs.Meaning.{bytes_by}
use Rattle.board.proofs.ProofHistory.{proof_told}
use Rattle.board.proofs.state.Board.proof.Goals as goal

pub returns : goal.returns
returns g c =
    let s = c.put_proof.ensures in
    record {
      answer = s.answer;
      bytes = s.bytes;
      back = s.back;
      history = λ tag f own h st sets. proof_told g.S.Store.holds (bytes_by g.D.Digest.of) g.L.Seal.tag tag f own c.args.self.now h c.args.low c.args.high st sets
          c.args.out.now c.put_proof.new.out c.put_proof.result s.answer s.bytes s.back;
    }
