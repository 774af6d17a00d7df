-- The verdict and the version of a decision.
use Rattle.std.specs.Prelude.{ℕ, Some, None, Option}
use Rattle.fault.specs.declared.Verdict.{Verdict}
use Rattle.fault.specs.declared.Verdict.TheVariants as verdict
use Rattle.decision.specs.declared.Decision.{Decision}
use Rattle.decision.specs.declared.Decision.TheVariants.{Abort, Commit}

abbrev pub verdict_of : Decision → Verdict
verdict_of Abort = verdict.Abort
verdict_of (Commit version) = verdict.Commit

-- a commit has a version, an abort has none
abbrev pub version_of : Decision → Option ℕ
version_of Abort = None
version_of (Commit version) = Some version
