use Rattle.std.proofs.Common.{refl}
use Rattle.digest.specs.Meaning.{bytes_by}
use Rattle.history.specs.Events.{marked}
use Rattle.board.proofs.Standing.{stands_quiet}
use Rattle.board.proofs.state.Board.mark.Goals as goal

pub returns : goal.returns
returns g c = record {
  now = (refl, refl);
  history = λ tag f own h st. (
    (st.count, st.chain),
    stands_quiet g.S.Store.holds (bytes_by g.D.Digest.of) g.L.Seal.tag tag f own c.args.self.now h (marked c.args.self.now.count c.args.self.now.chain) refl st,
  );
}
