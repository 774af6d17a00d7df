use Rattle.std.proofs.Common.{◌≡◌, List, ◌++◌}
use Rattle.digest.specs.Meaning.{bytes_by}
use Rattle.entry.specs.Bodies.{entry_body}
use Rattle.request.specs.Bodies.{WriteBody}
use Rattle.request.specs.Requests.{held}
use Rattle.history.specs.Entries.{entry_of}
use Rattle.board.proofs.DeliverLoops.{writes_to_come}
use Rattle.board.proofs.state.deliver.make_entry.Given as goal

abbrev pub invariant-loop-write : goal.invariant-loop-write
invariant-loop-write g l =
    (done : List WriteBody) × (((held l.fn.request).writes ≡ done ++ writes_to_come l.write-iterator)
    × (entry_body l.built ≡ entry_of (bytes_by g.D.Digest.of) l.version done))
