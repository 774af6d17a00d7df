use Rattle.std.proofs.Common.{refl}
use Rattle.digest.specs.Meaning.{bytes_by}
use Rattle.board.proofs.Standing.{stands-new}
use Rattle.board.proofs.state.Board.new.Goals as goal

pub returns : goal.returns
returns g c = stands-new g.S.Store.holds (bytes_by g.D.Digest.of) g.L.Seal.tag (g.L.Seal.tag c.args.seal) c.args.place.size.f c.args.place.number _ refl refl (λ s m. refl) refl refl c.new-store.ensures c.new.ensures
