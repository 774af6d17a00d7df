use Rattle.digest.specs.Meaning.{bytes_by}
use Rattle.request.specs.Requests.{held}
use Rattle.board.specs.Delivering.{Agrees}
use Rattle.board.proofs.DeliverLoops.{Scans, reads_to_come}
use Rattle.board.proofs.state.Board.judge.Given as goal

abbrev pub invariant-loop-read : goal.invariant-loop-read
invariant-loop-read g l = Scans (Agrees (bytes_by g.D.Digest.of) (g.S.Store.holds l.self.store)) (held l.fn.request).reads (reads_to_come l.read-iterator)
