-- What a reply makes of a session.
use Rattle.std.proofs.Common.{◌≡◌, ℕ, ◌+◌, ◌<◌, ◌≤◌, Bool, true, false, cond, ◌&&◌, ◌||◌, eqb, leb, List, [], ◌∷◌, ◌++◌, is_some, Some, None, Ok, Err, Option, Result, sym, ap, ◌∙◌, inl, inr, arith}
use Rattle.std.proofs.ByRecursion.{All-push, All-weaker}
use Rattle.std.proofs.lemmas.Bool.{and_left, cases_Bool, cases_eq, cond-false, cond-true, eq-eqb, lt-leb, ne_eqb, or_from, or_left, or_right}
use Rattle.std.specs.List.{AllByRecursion as All}
use Rattle.fault.specs.Codes.{fault}
use Rattle.fault.specs.declared.Cause.TheVariants.{Settled}
use Rattle.fault.specs.declared.Fault.{Fault}
use Rattle.fault.specs.declared.Layer.TheVariants.{Session as ofSession}
use Rattle.fault.specs.declared.Verdict.{Verdict}
use Rattle.decision.specs.Decisions.{verdict_of}
use Rattle.decision.specs.declared.Decision.{Decision}
use Rattle.session.specs.Answers.{answer, outcome}
use Rattle.session.specs.Hearing.{heard_of, hearers, is_said}
use Rattle.session.specs.Replies.{agreed, agreeing, decided, decision, malformed, replied, says, sent, stated}
use Rattle.cluster_size.specs.Sizes.{members}
use Rattle.session.specs.Standing.{Formed, Hears, Stands, Takes}
use Rattle.session.specs.declared.heard.Heard.{Heard}
use Rattle.session.specs.declared.replies.Reply.{Reply}
use Rattle.session.specs.declared.state.State.{State}
use Rattle.session.specs.declared.state.State.TheVariants.{Waiting, Decided}
use Rattle.session.proofs.Counting.{count_beyond, count_same}
use Rattle.session.proofs.Sending.{agreed_decides, agreeing-other, any_false, any_push_first, any_push_no, says_is, told}

-- nothing was heard yet
pub hears_none : (h : Heard) → ((b : ℕ) → heard_of h b ≡ None) → Hears h []
hears_none h none = record {
  whether = λ b lt. sym (ap is_some (none b));
  what = λ b lt v k ok. sym (ap (λ (o : Option Decision). is_said o (decision v k)) (none b));
}

pub not_taken_same : (r : Reply) (q q' : State) → Takes q q' r None → q' ≡ q
not_taken_same r (Waiting h) q' (h', (is, (some, same))) = is ∙ ap Waiting same
not_taken_same r (Decided d) q' (is, none) = is

module _ (f : ℕ) (rs : List Reply) (r : Reply) where
  -- the answer, row by row
  module _ (ok : malformed r.verdict r.version ≡ false) (member : r.board < members f) where
    rows : (last : Result (Option Decision) Fault) → cond (decided f rs || replied rs r.board) (Err (fault Settled ofSession 0)) (Ok (outcome f (rs ++ r ∷ []) r)) ≡ last → answer f rs r ≡ last
    rows last e =
        cond-false (malformed r.verdict r.version) _ _ ok
        ∙ cond-false (leb (members f) r.board) _ _ (lt-leb (members f) r.board member)
        ∙ e

    pub answer-settled : (decided f rs || replied rs r.board) ≡ true → answer f rs r ≡ Err (fault Settled ofSession 0)
    answer-settled e = rows _ (cond-true (decided f rs || replied rs r.board) _ _ e)

    pub answer_taken : (decided f rs || replied rs r.board) ≡ false → answer f rs r ≡ Ok (outcome f (rs ++ r ∷ []) r)
    answer_taken e = rows _ (cond-false (decided f rs || replied rs r.board) _ _ e)

  -- a reply that is not taken
  pub not_taken : r.board < 16 → (q q' : State) → Stands f rs q → Takes q q' r None → (decided f rs || replied rs r.board) ≡ true
  not_taken below (Waiting h) q' (quiet, hears) (h', (is, (some, same))) = or_right (decided f rs) (replied rs r.board) (hears.whether r.board below ∙ some below)
  not_taken below (Decided d) q' agree (is, none) = or_left (decided f rs) (replied rs r.board) (agreed_decides f rs (verdict_of d) (stated d) agree)

  -- one reply more is heard
  module _ (ok : malformed r.verdict r.version ≡ false) (h h' : Heard) (hears : Hears h rs) (below : r.board < 16)
      (fresh : heard_of h r.board ≡ None) (this : heard_of h' r.board ≡ Some (decision r.verdict r.version)) (others : (b : ℕ) → (b ≡ r.board → ⊥) → heard_of h' b ≡ heard_of h b) where
    is-new : replied rs r.board ≡ false
    is-new = hears.whether r.board below ∙ ap is_some fresh

    whether : (b : ℕ) → b < 16 → replied (rs ++ r ∷ []) b ≡ is_some (heard_of h' b)
    whether b lt = elim (cases_eq b r.board) [
      | inl e ↦
          any_push_first (λ s. eqb s.board b) rs r (hears.whether b lt ∙ ap (λ c. is_some (heard_of h c)) e ∙ ap is_some fresh)
          ∙ eq-eqb r.board b (sym e) ∙ sym (ap (λ c. is_some (heard_of h' c)) e ∙ ap is_some this)
      | inr ne ↦
          any_push_no (λ s. eqb s.board b) rs r (ne_eqb r.board b (λ e. ne (sym e)))
          ∙ hears.whether b lt ∙ sym (ap is_some (others b ne))
    ]

    what : (b : ℕ) → b < 16 → (v : Verdict) (k : ℕ) → malformed v k ≡ false → sent (rs ++ r ∷ []) v k b ≡ is_said (heard_of h' b) (decision v k)
    what b lt v k fine =
        let here : Option Decision → Bool = λ o. is_said o (decision v k) in
        elim (cases_eq b r.board) [
          | inl e ↦
              any_push_first (λ s. eqb s.board b && says v k s) rs r (hears.what b lt v k fine ∙ ap (λ c. here (heard_of h c)) e ∙ ap here fresh)
              ∙ ap (λ x. x && says v k r) (eq-eqb r.board b (sym e)) ∙ told r.verdict v r.version k ok fine
              ∙ sym (ap (λ c. here (heard_of h' c)) e ∙ ap here this)
          | inr ne ↦
              any_push_no (λ s. eqb s.board b && says v k s) rs r (and_left (eqb r.board b) (says v k r) (ne_eqb r.board b (λ e. ne (sym e))))
              ∙ hears.what b lt v k fine ∙ sym (ap here (others b ne))
        ]

    pub hears_more : Hears h' (rs ++ r ∷ [])
    hears_more = record { whether = whether; what = what }

-- boards that are no members sent nothing
beyond : (f : ℕ) (rs : List Reply) (v : Verdict) (k b : ℕ) → All (Formed f) rs → members f ≤ b → sent rs v k b ≡ false
beyond f rs v k b formed past = any_false (λ s. eqb s.board b && says v k s) rs
    (All-weaker (Formed f) (λ s. (eqb s.board b && says v k s) ≡ false)
    (λ s fine. and_left (eqb s.board b) (says v k s) (ne_eqb s.board b (λ e. omega (arith, e, fine.1, past)))) rs formed)

-- what is counted of what was heard is how many boards agree
pub counts : (f : ℕ) (rs : List Reply) (h : Heard) (v : Verdict) (k : ℕ) → f ≤ 5 → All (Formed f) rs → Hears h rs → malformed v k ≡ false → hearers h (decision v k) ≡ agreeing f rs v k
counts f rs h v k few formed hears ok =
    count_same (λ b. is_said (heard_of h b) (decision v k)) (sent rs v k) 16 (λ b lt. sym (hears.what b lt v k ok))
    ∙ count_beyond (sent rs v k) (members f) 16 (λ b past. beyond f rs v k b formed past) (omega arith)

-- A reply that is taken: the session was not decided, and the board had not replied.
pub record Taken (f : ℕ) (rs : List Reply) (r : Reply) (q' : State) (d : Decision) (count : ℕ) : Type 0 where
  pub said : d ≡ decision r.verdict r.version
  pub free : (decided f rs || replied rs r.board) ≡ false
  pub quiet : (v : Verdict) (k : ℕ) → agreed f rs v k ≡ false
  pub heard : Heard
  pub state : q' ≡ Waiting heard
  pub hears : Hears heard (rs ++ r ∷ [])
  pub many : count ≡ agreeing f (rs ++ r ∷ []) r.verdict r.version

module _ (f : ℕ) (rs : List Reply) (r : Reply) (few : f ≤ 5) (formed : All (Formed f) rs) (fine : Formed f r) where
  pub formed-more : All (Formed f) (rs ++ r ∷ [])
  formed-more = All-push (Formed f) rs r formed fine

  pub taken : (q q' : State) (d : Decision) (count : ℕ) → Stands f rs q → Takes q q' r (Some (d, count)) → Taken f rs r q' d count
  taken (Waiting h) q' d count (quiet, hears) (said, (h', (is, (fresh, this, others, counted)))) =
      let below : r.board < 16 = omega (arith, fine.1) in
      let more = hears_more f rs r fine.0 h h' hears below fresh (this ∙ ap Some said) others in
      record {
        said = said;
        free = or_from (decided f rs) (replied rs r.board)
            (any_false (λ s. agreed f rs s.verdict s.version) rs (All-weaker (Formed f) (λ s. agreed f rs s.verdict s.version ≡ false) (λ s _. quiet s.verdict s.version) rs formed))
            (hears.whether r.board below ∙ ap is_some fresh);
        quiet = quiet;
        heard = h';
        state = is;
        hears = more;
        many = counted ∙ ap (hearers h') said ∙ counts f (rs ++ r ∷ []) h' r.verdict r.version few formed-more more fine.0;
      }
  taken (Decided e) q' d count agree (is, none) = let never : ◌≡◌ {A = ℕ} 0 1 = cc in absurd (omega arith)

  -- where the reply decides nothing, nothing is decided
  pub still_quiet : ((v : Verdict) (k : ℕ) → agreed f rs v k ≡ false) → agreed f (rs ++ r ∷ []) r.verdict r.version ≡ false
      → (v : Verdict) (k : ℕ) → agreed f (rs ++ r ∷ []) v k ≡ false
  still_quiet quiet this v k = elim (cases_Bool (says v k r)) [
    | inl same ↦ let parts = says_is v k r same in ap (λ u. agreed f (rs ++ r ∷ []) u k) (sym parts.0) ∙ ap (agreed f (rs ++ r ∷ []) r.verdict) (sym parts.1) ∙ this
    | inr other ↦ ap (leb (f + 1)) (agreeing-other f rs r v k other) ∙ quiet v k
  ]
