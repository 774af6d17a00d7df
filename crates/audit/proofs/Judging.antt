-- What judgements tell.
use Rattle.std.proofs.Common.{ℕ, Bool, true, false, cond, List, Some, None, Decides, Option, sym, refl, ◌∙◌, subst}
use Rattle.std.proofs.lemmas.Bool.{both_ways}
use Rattle.history.specs.Events.{effects}
use Rattle.history.specs.Commits.{commits}
use Rattle.history.specs.Marks.{Sized}
use Rattle.history.proofs.Marks.{equal-commits, equal-marks}
use Rattle.audit.specs.declared.answers.Judgement.{Judgement}
use Rattle.audit.specs.declared.answers.Judgement.TheVariants.{Right, Wrong}
use Rattle.audit.specs.declared.answers.Departure.{Departure}
use Rattle.audit.specs.Reports.{Departs, Judges, LastRight, Parts, Report, RightMark, TellsAll, WrongMark}
use Rattle.audit.proofs.Numbering.{same_report}

module _ (digest : List ℕ → List ℕ) where
  pub judges : (right : Bool) (r : Report) → Decides right (RightMark digest r) → Judges digest (cond right Right Wrong) r
  judges true r tells = tells.0 refl
  judges false r tells = λ is. both_ways false refl (tells.1 is)

  module _ (size : Sized digest) where
    pub tells_all : (j : Judgement) (r : Report) → Judges digest j r → TellsAll digest j r
    tells_all Right r (n, c) k (m, d) = equal-marks digest size (commits (effects k)) r.replayed (sym m ∙ n, sym d ∙ c)
    tells_all Wrong r wrong k (m, d) = λ same. let marks = equal-commits digest (commits (effects k)) r.replayed same in wrong (m ∙ marks.0, d ∙ marks.1)

    pub parts : (reports : List Report) (b : ℕ) (d : Option Departure) → Departs digest reports b d → Parts digest reports d
    parts reports b None departs = tt
    parts reports b (Some d) (first, before) = (
      λ n r is at. let mine = (subst (LastRight digest reports b d.wrong) is before).1 in
          tells_all Right r (subst (RightMark digest) (same_report reports n mine.0 r mine.1.0 at) mine.1.2),
      λ r at. let mine = first.0 in
          tells_all Wrong r (subst (WrongMark digest) (same_report reports d.wrong mine.0 r mine.1.0 at) mine.1.2),
    )
