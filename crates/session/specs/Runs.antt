-- Whole sequences of replies.
use Rattle.std.specs.Prelude.{◌≡◌, ℕ, min, List, [], ◌∷◌, length, take, drop, Some, None, Option, Ok, Err, Result}
use Rattle.std.specs.List.{AllByRecursion}
use Rattle.fault.specs.declared.Fault.{Fault}
use Rattle.decision.specs.declared.Decision.{Decision}
use Rattle.session.specs.Answers.{Honest, accepted, answer}
use Rattle.session.specs.Standing.{Represents}
use Rattle.session.specs.declared.replies.Reply.{Reply}
use Rattle.session.specs.declared.state.Session.{Session}

-- the answers to replies that come after those accepted before
abbrev pub played : ℕ → List Reply → List Reply → List (Result (Option Decision) Fault)
played f rs [] = []
played f rs (r ∷ more) = answer f rs r ∷ played f (accepted rs r (answer f rs r)) more

-- the replies accepted by then
abbrev pub accepted_by : ℕ → List Reply → List Reply → List Reply
accepted_by f rs [] = rs
accepted_by f rs (r ∷ more) = accepted_by f (accepted rs r (answer f rs r)) more

abbrev pub IsRefusal : Result (Option Decision) Fault → Type 0
IsRefusal (Ok o) = ⊥
IsRefusal (Err why) = Unit {0}

-- behind an answer that decides stand refusals only
abbrev pub Closes : Result (Option Decision) Fault → List (Result (Option Decision) Fault) → Type 0
Closes (Ok (Some d)) later = AllByRecursion IsRefusal later
Closes (Ok None) later = Unit {0}
Closes (Err why) later = Unit {0}

-- At most one answer decides: every answer behind it is a refusal.
abbrev pub Once : List (Result (Option Decision) Fault) → Type 0
Once [] = Unit {0}
Once (a ∷ later) = Closes a later × Once later

-- While at most f boards are faulty, what an answer decides was sent by a board that is not.
abbrev pub HonestIn : ℕ → List Reply → Result (Option Decision) Fault → Type 0
HonestIn f sent (Ok o) = Honest f sent o
HonestIn f sent (Err why) = Unit {0}

-- What holds of every sequence of replies to a new session.
pub record Lawful (f : ℕ) (replies : List Reply) (answers : List (Result (Option Decision) Fault)) : Type 0 where
  pub each : answers ≡ played f [] replies
  pub once : Once answers
  pub honest : AllByRecursion (HonestIn f replies) answers

-- Replies were played to a new session as far as there was room for answers: these stand in front, what the buffer held stands behind.
pub record Ran (f : ℕ) (replies : List Reply) (before after : List (Result (Option Decision) Fault)) (s : Session) (n : ℕ) : Type 0 where
  pub count : n ≡ min (length replies) (length before)
  pub lawful : Lawful f (take n replies) (take n after)
  pub behind : drop n after ≡ drop n before
  pub session : Represents s f (accepted_by f [] (take n replies))
