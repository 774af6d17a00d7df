-- What a session answers to a reply, and what that means.
use Rattle.std.specs.Prelude.{◌≡◌, ℕ, ◌+◌, ◌<◌, ◌≤◌, Bool, false, cond, ◌||◌, List, [], ◌∷◌, ◌++◌, length, Some, None, Option, Ok, Err, Result, ◌≢◌, nat_le}
use Rattle.std.specs.List.{ContainsAt as Has, AllByRecursion}
use Rattle.fault.specs.Codes.{fault}
use Rattle.fault.specs.Tables.{Row, under, when}
use Rattle.fault.specs.declared.Cause.TheVariants.{Malformed, NotMember, Settled}
use Rattle.fault.specs.declared.Fault.{Fault}
use Rattle.fault.specs.declared.Layer.TheVariants.{Session}
use Rattle.fault.specs.declared.Verdict.{Verdict}
use Rattle.decision.specs.Decisions.{verdict_of}
use Rattle.decision.specs.declared.Decision.{Decision}
use Rattle.session.specs.Replies.{agreed, count_below, decided, decision, malformed, replied, stated}
use Rattle.cluster_size.specs.Sizes.{members}
use Rattle.session.specs.declared.replies.Reply.{Reply}

-- the refusals of a reply, in the order of the checks
abbrev pub refusals : ℕ → List Reply → Reply → List Row
refusals f rs r =
    when (malformed r.verdict r.version) (fault Malformed Session 0)
    ∷ when (nat_le (members f) r.board) (fault NotMember Session 0)
    ∷ when (decided f rs || replied rs r.board) (fault Settled Session 0)
    ∷ []

-- where a session stands when r is the last of the replies: decided as r says, where f + 1 different boards agree with it
abbrev pub outcome : ℕ → List Reply → Reply → Option Decision
outcome f rs r = cond (agreed f rs r.verdict r.version) (Some (decision r.verdict r.version)) None

-- the answer to a reply
abbrev pub answer : ℕ → List Reply → Reply → Result (Option Decision) Fault
answer f rs r = under (refusals f rs r) (outcome f (rs ++ r ∷ []) r)

-- the replies accepted when a reply got its answer: a refused one is not
abbrev pub accepted : List Reply → Reply → Result (Option Decision) Fault → List Reply
accepted rs r (Ok o) = rs ++ r ∷ []
accepted rs r (Err why) = rs

-- A refusal changes nothing.
abbrev pub Unchanged : {A : Type 0} → A → A → Result (Option Decision) Fault → Type 0
Unchanged before after (Ok o) = Unit {0}
Unchanged before after (Err why) = after ≡ before

-- No board is in the list twice.
abbrev pub Different : List ℕ → Type 0
Different [] = Unit {0}
Different (b ∷ bs) = AllByRecursion (λ c. (c ≢ b)) bs × Different bs

-- a reply by its three parts
abbrev pub reply : ℕ → Verdict → ℕ → Reply
reply b v k = record { board = b; verdict = v; version = k }

-- There are f + 1 different boards whose replies agree in this verdict and this version.
abbrev pub Agree : ℕ → List Reply → Verdict → ℕ → Type 0
Agree f rs v k = (bs : List ℕ) × ((length bs ≡ f + 1) × Different bs × AllByRecursion (λ b. Has rs (reply b v k)) bs)

-- What an outcome means: decided where f + 1 different boards agree, waiting where none do.
abbrev pub Means : ℕ → List Reply → Option Decision → Type 0
Means f rs (Some d) = Agree f rs (verdict_of d) (stated d)
Means f rs None = (v : Verdict) (k : ℕ) → Agree f rs v k → ⊥

-- While at most f boards are faulty, what is decided was sent by a board that is not.
abbrev pub Honest : ℕ → List Reply → Option Decision → Type 0
Honest f rs (Some d) =
    (faulty : ℕ → Bool) → count_below faulty (members f) ≤ f → (b : ℕ) × ((b < members f) × (faulty b ≡ false) × Has rs (reply b (verdict_of d) (stated d)))
Honest f rs None = Unit {0}

-- What an answer means, where r is the last of the replies.
abbrev pub MeansWell : ℕ → List Reply → Result (Option Decision) Fault → Type 0
MeansWell f rs (Ok o) = Means f rs o × Honest f rs o
MeansWell f rs (Err why) = Unit {0}
