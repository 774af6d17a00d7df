-- An audit after one more report.
use Rattle.std.proofs.Common.{◌≡◌, ℕ, ◌+◌, ◌<◌, ◌≤◌, Bool, List, [], ◌∷◌, ◌++◌, length, set, Ok, Err, Decides, Result, sym, ap, ◌∙◌, subst, inl, inr, arith}
use Rattle.std.specs.List.{AllByRecursion as All}
use Rattle.std.proofs.ByRecursion.{All-push}
use Rattle.std.proofs.lemmas.List.{get_or-set_other, get_or-set_same, length_push}
use Rattle.std.proofs.lemmas.Bool.{cases_eq}
use Rattle.fault.specs.declared.Fault.{Fault}
use Rattle.store.specs.Slot.{Slot}
use Rattle.history.specs.Events.{Event}
use Rattle.board.specs.Delivering.{KeptOnRefusal}
use Rattle.audit.specs.declared.state.Audit.{Audit}
use Rattle.audit.specs.declared.track.Track.{Track}
use Rattle.audit.specs.Reports.{OfBoard, Report, RightMark}
use Rattle.audit.specs.Tracking.{Tracks}
use Rattle.audit.specs.Auditing.{Represents, no_track, report_of, track_of}
use Rattle.audit.proofs.Numbering.{of_all}
use Rattle.audit.proofs.Tracking.{tracks-other}

-- what is kept on a refusal inside is kept outside
pub kept-inside : {A B C : Type 0} (outer : A → B) (before after : A) (r : Result C Fault) → KeptOnRefusal before after r → KeptOnRefusal (outer before) (outer after) r
kept-inside outer before after (Ok x) kept = tt
kept-inside outer before after (Err e) kept = ap outer kept

-- a number that is no board's has no reports
pub no_stranger : (P : Report → Type 0) (reports : List Report) (b n : ℕ) → All (λ r. r.board < 16) reports → 16 ≤ b → OfBoard P reports b n → ⊥
no_stranger P reports b n members high at =
    let mine = of_all P (λ (r : Report). r.board < 16) reports b n members at in omega (arith, mine.1.0, mine.1.1)

module _ {S D L : Type 0} (holds : S → ℕ → Slot) (digest : List ℕ → List ℕ) (tag_of : L → ℕ → List ℕ → List ℕ) (tag : ℕ → List ℕ → List ℕ) (f own : ℕ)
    (a : Audit S D L) (h : List Event) (reports : List Report) (st : Represents holds digest tag_of tag f own a h reports) (b count : ℕ) (chain : List ℕ) where
  -- the replay's mark is that of its commits
  pub rightly : (right : Bool) → Decides right ((count ≡ a.board.count) × (chain ≡ a.board.chain)) → Decides right (RightMark digest (report_of h b count chain))
  rightly right tells = (
    λ e. ((tells.0 e).0 ∙ st.replay.count, (tells.0 e).1 ∙ st.replay.chain),
    λ is. tells.1 (is.0 ∙ sym st.replay.count, is.1 ∙ sym st.replay.chain),
  )

  pub represents-more : (number : ℕ) (t : Track) → number ≡ a.reports + 1 → b < 16 → b < length a.tracks
      → Tracks digest t (reports ++ report_of h b count chain ∷ []) b
      → Represents holds digest tag_of tag f own (record { board = a.board; reports = number; tracks = set a.tracks b t }) h (reports ++ report_of h b count chain ∷ [])
  represents-more number t is below there kept =
      let last = report_of h b count chain in
      record {
        replay = st.replay;
        count = omega (arith, st.count, length_push reports last);
        members = All-push (λ (r : Report). r.board < 16) reports last st.members below;
        tracks = λ k lt. elim (cases_eq k b) [
          | inl e ↦
              let P : Track → Type 0 = λ x. Tracks digest x (reports ++ last ∷ []) b in
              let Q : ℕ → Type 0 = λ m. Tracks digest (track_of {S = S} {D = D} {L = L} (record { board = a.board; reports = number; tracks = set a.tracks b t }) m) (reports ++ last ∷ []) m in
              subst Q (sym e) (subst P (sym (get_or-set_same a.tracks b t no_track there)) kept)
          | inr ne ↦
              let P : Track → Type 0 = λ x. Tracks digest x (reports ++ last ∷ []) k in
              subst P (sym (get_or-set_other a.tracks b k t no_track ne)) (tracks-other digest k reports last (track_of a k) (st.tracks k lt) (λ e. ne (sym e)))
        ];
      }
