-- Every commit of a history that boards make is a write set.
use Rattle.std.proofs.Common.{◌≡◌, ℕ, List, [], ◌∷◌, ◌++◌, Ok, Err, Option, Result, sym, refl, ap, ◌∙◌, subst}
use Rattle.std.specs.List.{AllByRecursion as All}
use Rattle.std.proofs.ByRecursion.{All-push}
use Rattle.fault.specs.declared.Fault.{Fault}
use Rattle.fault.specs.declared.Verdict.TheVariants as verdict
use Rattle.decision.specs.declared.Decision.{Decision}
use Rattle.decision.specs.declared.Decision.TheVariants.{Abort, Commit}
use Rattle.request.specs.Bodies.{RequestBody, WriteBody, read_request}
use Rattle.share.specs.Shares.{ShareBody}
use Rattle.history.specs.declared.Delivery.{Delivery}
use Rattle.history.specs.Events.{Event, delivered, effect, effects, share_effect, shared_in, verdict_effect, width}
use Rattle.history.specs.Commits.{commits, write_set}
use Rattle.history.proofs.Appends.{commits-none, commits_push, commits_quiet, effects_push}
use Rattle.board.specs.WriteSets.{WriteSet, WriteSets}

-- before any event
pub sets_none : WriteSets []
sets_none = subst (All WriteSet) (sym commits-none) tt

-- an event that commits nothing
pub sets_quiet : (h : List Event) (e : Event) → write_set (effect e) ≡ [] → WriteSets h → WriteSets (h ++ e ∷ [])
sets_quiet h e none sets = subst (All WriteSet) (sym (ap commits (effects_push h e) ∙ commits_quiet (effects h) (effect e) none)) sets

-- a commit
pub sets_more : (h : List Event) (e : Event) (ws : List WriteBody) → write_set (effect e) ≡ ws ∷ [] → WriteSet ws → WriteSets h → WriteSets (h ++ e ∷ [])
sets_more h e ws one set sets =
    subst (All WriteSet) (sym (ap commits (effects_push h e) ∙ commits_push (effects h) (effect e) ∙ ap (λ (cs : List (List WriteBody)). commits (effects h) ++ cs) one))
    (All-push WriteSet (commits (effects h)) ws sets set)

-- a decision on a request whose writes are a write set
pub sets_verdict : (h : List Event) (frame : List ℕ) (b : RequestBody) (d : Decision) (opened : Option ℕ) → read_request width frame ≡ Ok b → WriteSet b.writes
    → WriteSets h → WriteSets (h ++ delivered frame (Ok (record { decision = d; opened = opened })) ∷ [])
sets_verdict h frame b (Commit version) opened read set sets =
    sets_more h (delivered frame (Ok (record { decision = Commit version; opened = opened }))) b.writes (ap (λ (r : Result RequestBody Fault). write_set (verdict_effect r verdict.Commit)) read) set sets
sets_verdict h frame b Abort opened read set sets =
    sets_quiet h (delivered frame (Ok (record { decision = Abort; opened = opened }))) (ap (λ (r : Result RequestBody Fault). write_set (verdict_effect r verdict.Abort)) read) sets

-- a refused delivery
pub sets_refused : (h : List Event) (frame : List ℕ) (r : Result Delivery Fault) (e : Fault) → r ≡ Err e → WriteSets h → WriteSets (h ++ delivered frame r ∷ [])
sets_refused h frame r e is sets = sets_quiet h (delivered frame r) (ap (λ x. write_set (effect (delivered frame x))) is) sets

shares_write_nothing : (r : Result ShareBody Fault) → write_set (share_effect r) ≡ []
shares_write_nothing (Ok s) = refl
shares_write_nothing (Err e) = refl

-- a share
pub share_quiet : (frame : List ℕ) (r : Result ℕ Fault) → write_set (effect (shared_in frame r)) ≡ []
share_quiet frame (Ok n) = shares_write_nothing _
share_quiet frame (Err e) = refl
