-- How a session stands to the replies that it accepted.
use Rattle.std.specs.Prelude.{◌≡◌, ℕ, ◌<◌, true, false, List, is_some, Some, None, Option}
use Rattle.std.specs.List.{AllByRecursion}
use Rattle.fault.specs.declared.Verdict.{Verdict}
use Rattle.decision.specs.Decisions.{verdict_of}
use Rattle.decision.specs.declared.Decision.{Decision}
use Rattle.session.specs.Hearing.{Took, heard_of, is_said}
use Rattle.session.specs.Replies.{agreed, decision, malformed, replied, sent, stated}
use Rattle.cluster_size.specs.Sizes.{members}
use Rattle.session.specs.declared.heard.Heard.{Heard}
use Rattle.session.specs.declared.replies.Reply.{Reply}
use Rattle.session.specs.declared.state.Session.{Session}
use Rattle.session.specs.declared.state.State.{State}
use Rattle.session.specs.declared.state.State.TheVariants.{Waiting, Decided}

-- Every accepted reply is well formed and comes from a member.
abbrev pub Formed : ℕ → Reply → Type 0
Formed f r = (malformed r.verdict r.version ≡ false) × (r.board < members f)

-- What is held is what the boards sent.
pub record Hears (h : Heard) (rs : List Reply) : Type 0 where
  pub whether : (b : ℕ) → b < 16 → replied rs b ≡ is_some (heard_of h b)
  pub what : (b : ℕ) → b < 16 → (v : Verdict) (k : ℕ) → malformed v k ≡ false → sent rs v k b ≡ is_said (heard_of h b) (decision v k)

-- A session waits while no f + 1 boards agree, and is decided as they do.
abbrev pub Stands : ℕ → List Reply → State → Type 0
Stands f rs (Waiting h) = ((v : Verdict) (k : ℕ) → agreed f rs v k ≡ false) × Hears h rs
Stands f rs (Decided d) = agreed f rs (verdict_of d) (stated d) ≡ true

pub record Represents (s : Session) (f : ℕ) (rs : List Reply) : Type 0 where
  pub faults : s.size.f ≡ f
  pub formed : AllByRecursion (Formed f) rs
  pub stands : Stands f rs s.state

-- How a state takes a reply: a decided session takes none, a waiting one takes the first of each board.
abbrev pub Takes : State → State → Reply → Option (Decision × ℕ) → Type 0
Takes (Waiting h) after r (Some (d, count)) = (d ≡ decision r.verdict r.version) × ((h' : Heard) × ((after ≡ Waiting h') × Took h h' r.board d (Some count)))
Takes (Waiting h) after r None = (h' : Heard) × ((after ≡ Waiting h') × Took h h' r.board (decision r.verdict r.version) None)
Takes (Decided d) after r taken = (after ≡ Decided d) × (taken ≡ None)
