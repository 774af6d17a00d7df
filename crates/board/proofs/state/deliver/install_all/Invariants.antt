use Rattle.std.proofs.Common.{◌≡◌, List, ◌++◌}
use Rattle.digest.specs.Meaning.{bytes_by}
use Rattle.request.specs.Bodies.{WriteBody}
use Rattle.request.specs.Requests.{held}
use Rattle.board.specs.Delivering.{Installed}
use Rattle.board.proofs.DeliverLoops.{writes_to_come}
use Rattle.board.proofs.state.deliver.install_all.Given as goal

abbrev pub invariant-loop-write : goal.invariant-loop-write
invariant-loop-write g l =
    (done : List WriteBody) × (((held l.fn.request).writes ≡ done ++ writes_to_come l.write-iterator)
    × Installed (bytes_by g.D.Digest.of) l.version done (g.S.Store.holds l.initial.store) (g.S.Store.holds l.store))
