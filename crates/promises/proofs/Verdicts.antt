-- Verdicts follow the commits, in every lawful history.
use Rattle.std.proofs.Common.{◌≡◌, ℕ, List, [], ◌∷◌, Ok, Err, Result, refl, subst, arith}
use Rattle.std.specs.List.{AllByRecursion as All}
use Rattle.fault.specs.declared.Fault.{Fault}
use Rattle.fault.specs.declared.Verdict.TheVariants as verdict
use Rattle.decision.specs.Decisions.{verdict_of}
use Rattle.decision.specs.declared.Decision.{Decision}
use Rattle.decision.specs.declared.Decision.TheVariants.{Abort, Commit}
use Rattle.request.specs.Bodies.{RequestBody, read_request}
use Rattle.history.specs.declared.Delivery.{Delivery}
use Rattle.history.specs.Events.{Effect, Event, delivered, effects, width}
use Rattle.history.specs.Commits.{HadRead, commits}
use Rattle.history.specs.Tables.{Read, Under}
use Rattle.history.specs.Answers.{DeliverAnswers, Delivers, Judged, Lawful, deliver_table}
use Rattle.history.proofs.Lawfuls.{lawful-rest}
use Rattle.history.proofs.ReadLaws.{all_had_passes, all_passes_had}
use Rattle.reader.proofs.Clear.{ok_clear, ok_err}
use Rattle.promises.specs.Runs.{RightVerdict, RightVerdicts}

commit-abort : verdict.Commit ≡ verdict.Abort → ⊥
commit-abort e = let z : ◌≡◌ {A = ℕ} 0 1 = cc in omega arith

abort-commit : verdict.Abort ≡ verdict.Commit → ⊥
abort-commit e = let z : ◌≡◌ {A = ℕ} 0 1 = cc in omega arith

module _ (digest : List ℕ → List ℕ) (tag : ℕ → List ℕ → List ℕ) (f own : ℕ) where
  judged : (es : List Effect) (b : RequestBody) (d : Decision) → Judged digest tag f own es b d
      → (verdict_of d ≡ verdict.Commit → All (HadRead digest (commits es)) b.reads) × (All (HadRead digest (commits es)) b.reads → verdict_of d ≡ verdict.Commit)
      × (verdict_of d ≡ verdict.Abort → All (HadRead digest (commits es)) b.reads → ⊥) × ((All (HadRead digest (commits es)) b.reads → ⊥) → verdict_of d ≡ verdict.Abort)
  judged es b (Commit n) (pass, _) =
      let had = all_passes_had digest (commits es) b.reads pass in
      (λ _. had, λ _. refl, λ e. absurd (commit-abort e), λ none. absurd (none had))
  judged es b Abort fail =
      let none : All (HadRead digest (commits es)) b.reads → ⊥ = λ had. fail (all_had_passes digest (commits es) b.reads had) in
      (λ e. absurd (abort-commit e), λ had. absurd (none had), λ _. none, λ _. refl)

  -- a delivery with a verdict
  right : (es : List Effect) (frame : List ℕ) (d : Delivery) → DeliverAnswers digest tag f own es frame (Ok d) → RightVerdict digest (commits es) frame d
  right es frame d a = go (read_request width frame) refl a
    where
      go : (q : Result RequestBody Fault) → read_request width frame ≡ q
          → Read q (λ b. Under (deliver_table digest tag f own es frame b) (Delivers digest tag f own es b)) (Ok d) → RightVerdict digest (commits es) frame d
      go (Ok b) e u =
          let delivers = (ok_clear (Delivers digest tag f own es b) (deliver_table digest tag f own es frame b) d u).1 in
          let j = judged es b d.decision delivers.0 in
          record { request = b; read = e; commit = j.0; commits = j.1; abort = j.2; aborts = j.3 }
      go (Err e) _ u = absurd (ok_err d e u)

  pub right_verdicts : (h : List Event) → Lawful digest tag f own [] h → RightVerdicts digest h
  unfolding Lawful
  right_verdicts h lawful before after frame d e =
      right (effects before) frame d
      (lawful-rest digest tag f own [] before (delivered frame (Ok d) ∷ after) (subst (Lawful digest tag f own []) e lawful)).0
