-- A session's answer to a reply, by what became of it.
use Rattle.std.proofs.Common.{◌≡◌, ℕ, ◌+◌, ◌<◌, ◌≤◌, true, false, List, [], ◌∷◌, ◌++◌, Some, None, Ok, Err, sym, ap, ◌∙◌, subst, arith}
use Rattle.std.proofs.lemmas.Bool.{cond-false, cond-true, le-leb, lt-leb}
use Rattle.fault.specs.Codes.{fault}
use Rattle.fault.specs.declared.Cause.TheVariants.{Settled}
use Rattle.fault.specs.declared.Layer.TheVariants.{Session as ofSession}
use Rattle.cluster_size.specs.Sizes.{members}
use Rattle.decision.specs.Decisions.{verdict_of}
use Rattle.decision.specs.declared.Decision.{Decision}
use Rattle.session.specs.Answers.{MeansWell, answer}
use Rattle.session.specs.Replies.{agreed, agreeing, malformed, stated}
use Rattle.session.specs.Standing.{Formed, Represents, Stands, Takes}
use Rattle.session.specs.declared.replies.Reply.{Reply}
use Rattle.session.specs.declared.state.Session.{Session}
use Rattle.session.specs.declared.state.State.TheVariants.{Decided}
use Rattle.session.proofs.Agreeing.{agree_from, agree_not, honest}
use Rattle.session.proofs.Deciding.{Taken, answer-settled, answer_taken, formed-more, not_taken, not_taken_same, still_quiet, taken}
use Rattle.session.proofs.Sending.{as_said}

pub same-session : (r : Reply) (s s' : Session) → s'.size ≡ s.size → Takes s.state s'.state r None → s' ≡ s
same-session r s s' size taken' =
    let state = not_taken_same r s.state s'.state taken' in
    (λ i. record { size = size i; state = state i })

module _ (s : Session) (f : ℕ) (rs : List Reply) (st : Represents s f rs) (r : Reply) (ok : malformed r.verdict r.version ≡ false) (low : r.board < members s.size.f) (s' : Session) where
  few : f ≤ 5
  few = omega (arith, s.size.few, st.faults)

  fine : Formed f r
  fine = (ok, omega (arith, low, st.faults))

  pub answer-refused : Takes s.state s'.state r None → answer f rs r ≡ Err (fault Settled ofSession 0)
  answer-refused not' = answer-settled f rs r ok fine.1 (not_taken f rs r (omega (arith, fine.1, few)) s.state s'.state st.stands not')

  module _ (size : s'.size ≡ s.size) (d : Decision) (count : ℕ) (took : Takes s.state s'.state r (Some (d, count))) where
    it : Taken f rs r s'.state d count
    it = taken f rs r few st.formed fine s.state s'.state d count st.stands took

    faults : s'.size.f ≡ f
    faults = (λ i. (size i).f) ∙ st.faults

    module _ (not_yet : count ≤ s'.size.f) where
      none : agreed f (rs ++ r ∷ []) r.verdict r.version ≡ false
      none = lt-leb (f + 1) (agreeing f (rs ++ r ∷ []) r.verdict r.version) (omega (arith, not_yet, faults, it.many))

      pub answer_waiting : answer f rs r ≡ Ok None
      answer_waiting = answer_taken f rs r ok fine.1 it.free ∙ ap Ok (cond-false (agreed f (rs ++ r ∷ []) r.verdict r.version) _ _ none)

      pub stands_waiting : Represents s' f (rs ++ r ∷ [])
      stands_waiting = record {
        faults = faults;
        formed = formed-more f rs r few st.formed fine;
        stands = subst (Stands f (rs ++ r ∷ [])) (sym it.state) (still_quiet f rs r few st.formed fine it.quiet none, it.hears);
      }

      pub means_waiting : MeansWell f (rs ++ r ∷ []) (Ok None)
      means_waiting = (
        λ v k. agree_not f (rs ++ r ∷ []) v k (formed-more f rs r few st.formed fine) (still_quiet f rs r few st.formed fine it.quiet none v k),
        tt,
      )

    module _ (enough : s'.size.f < count) where
      all : agreed f (rs ++ r ∷ []) r.verdict r.version ≡ true
      all = le-leb (f + 1) (agreeing f (rs ++ r ∷ []) r.verdict r.version) (omega (arith, enough, faults, it.many))

      said : agreed f (rs ++ r ∷ []) (verdict_of d) (stated d) ≡ true
      said = subst (λ e. agreed f (rs ++ r ∷ []) (verdict_of e) (stated e) ≡ true) (sym it.said) (as_said (λ v k. agreed f (rs ++ r ∷ []) v k ≡ true) r.verdict r.version ok all)

      pub answer-decided : answer f rs r ≡ Ok (Some d)
      answer-decided = answer_taken f rs r ok fine.1 it.free ∙ ap Ok (cond-true (agreed f (rs ++ r ∷ []) r.verdict r.version) _ _ all ∙ ap Some (sym it.said))

      pub stands-decided : Represents (record { size = s'.size; state = Decided d }) f (rs ++ r ∷ [])
      stands-decided = record { faults = faults; formed = formed-more f rs r few st.formed fine; stands = said }

      pub means_decided : MeansWell f (rs ++ r ∷ []) (Ok (Some d))
      means_decided = (agree_from f (rs ++ r ∷ []) (verdict_of d) (stated d) said, honest f (rs ++ r ∷ []) d said)
