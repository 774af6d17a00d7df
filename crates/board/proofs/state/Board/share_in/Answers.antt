use Rattle.digest.specs.Meaning.{bytes_by}
use Rattle.board.proofs.ShareInHistory.{share_in_told}
use Rattle.board.proofs.state.Board.share_in.Goals as goal

pub returns : goal.returns
returns g c =
    let s = c.read_and_take.ensures in
    record {
      answer = s.answer;
      refused = s.refused;
      rest = s.rest;
      history = λ tag f own h st. share_in_told g.S.Store.holds (bytes_by g.D.Digest.of) g.L.Seal.tag tag f own c.args.self.now c.read_and_take.new.self h c.args.frame.now st
          c.read_and_take.result s.answer s.reads s.refused s.rest;
    }
