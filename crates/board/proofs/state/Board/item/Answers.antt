use Rattle.std.proofs.Common.{refl}
use Rattle.digest.specs.Meaning.{bytes_by}
use Rattle.history.specs.Events.{asked, effects}
use Rattle.answer.specs.Answers.{said}
use Rattle.board.proofs.Items.{item-answered}
use Rattle.board.proofs.Standing.{stands_quiet}
use Rattle.board.proofs.state.Board.item.Goals as goal

pub returns : goal.returns
returns g c = record {
  now = c.look_up.ensures;
  history = λ tag f own h st. (
    item-answered (bytes_by g.D.Digest.of) tag f own (effects h) (g.S.Store.holds c.args.self.now.store) c.args.number (said c.look_up.result) c.look_up.ensures st.items,
    stands_quiet g.S.Store.holds (bytes_by g.D.Digest.of) g.L.Seal.tag tag f own c.args.self.now h (asked c.args.number (said c.look_up.result)) refl st,
  );
}
