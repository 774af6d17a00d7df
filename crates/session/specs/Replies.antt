-- What the replies that a session has accepted say, oldest first.
use Rattle.std.specs.Prelude.{ℕ, zero, suc, ◌+◌, Bool, cond, not, unwrap_or, ◌&&◌, List, ◌==◌, nat_eq, nat_le}
use Rattle.std.specs.List.{list_any}
use Rattle.fault.specs.Codes.{verdict_byte}
use Rattle.fault.specs.declared.Verdict.{Verdict}
use Rattle.fault.specs.declared.Verdict.TheVariants.{Abort, Commit}
use Rattle.decision.specs.Decisions.{version_of}
use Rattle.decision.specs.declared.Decision.{Decision}
use Rattle.decision.specs.declared.Decision.TheVariants as said
use Rattle.cluster_size.specs.Sizes.{members}
use Rattle.session.specs.declared.replies.Reply.{Reply}

-- a commit has a version of 1 or more, an abort has 0
abbrev pub malformed : Verdict → ℕ → Bool
malformed Commit k = k == 0
malformed Abort k = not (k == 0)

-- what a reply that is not malformed says
abbrev pub decision : Verdict → ℕ → Decision
decision Commit k = said.Commit k
decision Abort k = said.Abort

-- the version in a reply that says this: an abort has 0
abbrev pub stated : Decision → ℕ
stated d = unwrap_or (version_of d) 0

-- whether a reply has this verdict and this version
abbrev pub says : Verdict → ℕ → Reply → Bool
says v k r = verdict_byte r.verdict == verdict_byte v && r.version == k

-- whether a board replied
abbrev pub replied : List Reply → ℕ → Bool
replied rs b = list_any (λ r. nat_eq r.board b) rs

-- whether a board replied with this verdict and this version
abbrev pub sent : List Reply → Verdict → ℕ → ℕ → Bool
sent rs v k b = list_any (λ r. (r.board == b) && says v k r) rs

-- how many of the numbers below n pass a test
unfoldable pub count_below : (ℕ → Bool) → ℕ → ℕ
count_below p zero = 0
count_below p (suc n) = count_below p n + cond (p n) 1 0

-- how many different boards agree in this verdict and this version
abbrev pub agreeing : ℕ → List Reply → Verdict → ℕ → ℕ
agreeing f rs v k = count_below (sent rs v k) (members f)

-- whether f + 1 different boards do
abbrev pub agreed : ℕ → List Reply → Verdict → ℕ → Bool
agreed f rs v k = nat_le (f + 1) (agreeing f rs v k)

-- whether the session is decided: f + 1 different boards agree with one of the replies
abbrev pub decided : ℕ → List Reply → Bool
decided f rs = list_any (λ r. agreed f rs r.verdict r.version) rs
