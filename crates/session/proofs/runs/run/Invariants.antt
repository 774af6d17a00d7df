use Rattle.std.proofs.Common.{◌≡◌, [], ◌++◌, take, drop}
use Rattle.session.specs.Runs.{accepted_by, played}
use Rattle.session.specs.Standing.{Represents}
use Rattle.session.proofs.runs.run.Given as goal

-- the size is moved into the session, so that it is read there
abbrev pub invariant-loop-i : goal.invariant-loop-i
invariant-loop-i l = Represents l.session l.initial.session.size.f (accepted_by l.initial.session.size.f [] (take l.i l.reply-items))
    × (l.answers ≡ played l.initial.session.size.f [] (take l.i l.reply-items) ++ drop l.i l.initial.answers)
