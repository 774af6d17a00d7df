use Rattle.std.proofs.Common.{◌≡◌, ℕ, List, [], take, drop}
use Rattle.digest.specs.Meaning.{bytes_by}
use Rattle.history.specs.Answers.{Lawful}
use Rattle.history.specs.Events.{Event}
use Rattle.board.specs.Standing.{Represents}
use Rattle.board.specs.WriteSets.{WriteSets}
use Rattle.history.specs.Backs.{AllReadBack}
use Rattle.promises.specs.Runs.{Run}
use Rattle.promises.proofs.runs.run.Given as goal

-- the calls so far were a run, and the answers behind are as they were
abbrev pub invariant-loop-i : goal.invariant-loop-i
invariant-loop-i g l =
    ((tag : ℕ → List ℕ → List ℕ) (f own : ℕ) (h : List Event)
    → Represents g.S.Store.holds (bytes_by g.D.Digest.of) g.L.Seal.tag tag f own l.initial.board h
    → WriteSets h
    → Lawful (bytes_by g.D.Digest.of) tag f own [] h
    → AllReadBack (bytes_by g.D.Digest.of) tag f own [] h
    → Run g.S.Store.holds (bytes_by g.D.Digest.of) g.L.Seal.tag tag f own h (take l.i l.calls) (take l.i l.answers) l.initial.room l.room l.board)
    × (drop l.i l.answers ≡ drop l.i l.initial.answers)
