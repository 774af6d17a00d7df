-- The laws of whole sequences of replies.
use Rattle.std.proofs.Common.{◌≡◌, ℕ, suc, ◌+◌, ◌<◌, min, true, false, ◌||◌, leb, List, [], ◌∷◌, ◌++◌, length, get_or, take, drop, set, Some, None, Option, Ok, Err, Result, sym, refl, ap, ◌∙◌, subst, arith}
use Rattle.std.proofs.ByRecursion.{all-has, all_has_itself, All-push}
use Rattle.std.proofs.lemmas.List.{append_assoc, drop_at, drop_more, length-take-le, set_at, take_at, take_more}
use Rattle.std.proofs.lemmas.Bool.{both_ways, cond_both, or_left}
use Rattle.std.specs.List.{ContainsAt as Has, AllByRecursion as All}
use Rattle.fault.specs.declared.Fault.{Fault}
use Rattle.decision.specs.Decisions.{verdict_of}
use Rattle.decision.specs.declared.Decision.{Decision}
use Rattle.session.specs.Answers.{Honest, accepted, answer, outcome, reply}
use Rattle.session.specs.Replies.{agreed, decided, decision, malformed, replied, stated}
use Rattle.session.specs.Runs.{Closes, HonestIn, IsRefusal, Lawful, Once, Ran, accepted_by, played}
use Rattle.cluster_size.specs.Sizes.{members}
use Rattle.session.specs.Standing.{Represents}
use Rattle.session.specs.declared.replies.Reply.{Reply}
use Rattle.session.specs.declared.state.Session.{Session}
use Rattle.session.proofs.Agreeing.{honest}
use Rattle.session.proofs.Sending.{agreed_decides, as_said}

module _ (f : ℕ) where
  -- what holds of every refusal and of the outcome holds of the answer
  by_rows : (rs : List Reply) (r : Reply) (P : Result (Option Decision) Fault → Type 0) → ((why : Fault) → P (Err why))
      → (malformed r.verdict r.version ≡ false → (decided f rs || replied rs r.board) ≡ false → P (Ok (outcome f (rs ++ r ∷ []) r))) → P (answer f rs r)
  by_rows rs r P refused success =
      cond_both (malformed r.verdict r.version) _ _ P (λ _. refused _)
      (λ ok. cond_both (leb (members f) r.board) _ _ P (λ _. refused _)
      (λ _. cond_both (decided f rs || replied rs r.board) _ _ P (λ _. refused _) (success ok)))

  by_outcome : (rs : List Reply) (r : Reply) (P : Option Decision → Type 0) → (agreed f rs r.verdict r.version ≡ true → P (Some (decision r.verdict r.version))) → P None → P (outcome f rs r)
  by_outcome rs r P some none = cond_both (agreed f rs r.verdict r.version) (Some (decision r.verdict r.version)) None P some (λ _. none)

  -- a decided session refuses every reply
  refuses : (rs : List Reply) (r : Reply) → decided f rs ≡ true → (why : Fault) × (answer f rs r ≡ Err why)
  refuses rs r e = by_rows rs r (λ a. (why : Fault) × (a ≡ Err why)) (λ why. (why, refl))
      (λ ok free. absurd (both_ways (decided f rs || replied rs r.board) free (or_left (decided f rs) (replied rs r.board) e)))

  all_refused : (rs more : List Reply) → decided f rs ≡ true → All IsRefusal (played f rs more)
  all_refused rs [] e = tt
  all_refused rs (r ∷ more) e =
      let w = refuses rs r e in
      (subst IsRefusal (sym w.1) tt, subst (λ a. All IsRefusal (played f (accepted rs r a) more)) (sym w.1) (all_refused rs more e))

  once : (rs more : List Reply) → Once (played f rs more)
  once rs [] = tt
  once rs (r ∷ more) = (
    by_rows rs r (λ a. Closes a (played f (accepted rs r a) more)) (λ why. tt)
        (λ ok free. by_outcome (rs ++ r ∷ []) r (λ o. Closes (Ok o) (played f (rs ++ r ∷ []) more))
        (λ e. all_refused (rs ++ r ∷ []) more (agreed_decides f (rs ++ r ∷ []) r.verdict r.version e)) tt),
    once (accepted rs r (answer f rs r)) more,
  )

  module _ (all : List Reply) where
    step-honest : (rs : List Reply) (r : Reply) → All (Has all) rs → Has all r → HonestIn f all (answer f rs r) × All (Has all) (accepted rs r (answer f rs r))
    step-honest rs r old new =
        let both = All-push (Has all) rs r old new in
        by_rows rs r (λ a. HonestIn f all a × All (Has all) (accepted rs r a)) (λ why. (tt, old))
        (λ ok free. (
          by_outcome (rs ++ r ∷ []) r (Honest f all)
              (λ e faulty few. let d = decision r.verdict r.version in
              let at = honest f (rs ++ r ∷ []) d (as_said (λ v k. agreed f (rs ++ r ∷ []) v k ≡ true) r.verdict r.version ok e) faulty few in
              (at.0, (at.1.0, at.1.1, all-has (Has all) (rs ++ r ∷ []) (reply at.0 (verdict_of d) (stated d)) both at.1.2)))
              tt,
          both,
        ))

    honest_in : (rs more : List Reply) → All (Has all) rs → All (Has all) more → All (HonestIn f all) (played f rs more)
    honest_in rs [] old new = tt
    honest_in rs (r ∷ more) old (here, later) =
        let step = step-honest rs r old here in
        (step.0, honest_in (accepted rs r (answer f rs r)) more step.1 later)

  pub lawful : (replies : List Reply) → Lawful f replies (played f [] replies)
  lawful replies = record { each = refl; once = once [] replies; honest = honest_in replies [] replies tt (all_has_itself replies) }

  length-played : (rs more : List Reply) → length (played f rs more) ≡ length more
  length-played rs [] = refl
  length-played rs (r ∷ more) = ap suc (length-played (accepted rs r (answer f rs r)) more)

  played_push : (rs more : List Reply) (r : Reply) → played f rs (more ++ r ∷ []) ≡ played f rs more ++ answer f (accepted_by f rs more) r ∷ []
  played_push rs [] r = refl
  played_push rs (s ∷ more) r = ap (λ l. answer f rs s ∷ l) (played_push (accepted rs s (answer f rs s)) more r)

  accepted_push : (rs more : List Reply) (r : Reply) → accepted_by f rs (more ++ r ∷ []) ≡ accepted (accepted_by f rs more) r (answer f (accepted_by f rs more) r)
  accepted_push rs [] r = refl
  accepted_push rs (s ∷ more) r = accepted_push (accepted rs s (answer f rs s)) more r

  module _ (replies : List Reply) (i : ℕ) (d : Reply) (here : i < length replies) where
    -- one reply more is accepted or not
    pub accepted-more : accepted_by f [] (take (i + 1) replies) ≡ accepted (accepted_by f [] (take i replies)) (get_or replies i d) (answer f (accepted_by f [] (take i replies)) (get_or replies i d))
    accepted-more = ap (accepted_by f []) (take_more replies i d here) ∙ accepted_push [] (take i replies) (get_or replies i d)

    -- and its answer stands behind the others
    pub answers_more : (before : List (Result (Option Decision) Fault)) (e : Result (Option Decision) Fault) → i < length before
        → set (played f [] (take i replies) ++ drop i before) i (answer f (accepted_by f [] (take i replies)) (get_or replies i d)) ≡ played f [] (take (i + 1) replies) ++ drop (i + 1) before
    answers_more before e room =
        let p = played f [] (take i replies) in
        let a = answer f (accepted_by f [] (take i replies)) (get_or replies i d) in
        let long : length p ≡ i = length-played [] (take i replies) ∙ length-take-le i replies (omega arith) in
        ap (λ l. set (p ++ l) i a) (drop_more before i e room)
        ∙ set_at p (get_or before i e) (drop (i + 1) before) a i long
        ∙ sym (append_assoc p (a ∷ []) (drop (i + 1) before))
        ∙ ap (λ l. l ++ drop (i + 1) before) (sym (ap (played f []) (take_more replies i d here) ∙ played_push [] (take i replies) (get_or replies i d)))

    -- one turn of a run
    pub runs_on : (before now : List (Result (Option Decision) Fault)) (e a : Result (Option Decision) Fault) (s : Session) → i < length before
        → now ≡ played f [] (take i replies) ++ drop i before
        → (a ≡ answer f (accepted_by f [] (take i replies)) (get_or replies i d)) × Represents s f (accepted (accepted_by f [] (take i replies)) (get_or replies i d) a)
        → Represents s f (accepted_by f [] (take (i + 1) replies)) × (set now i a ≡ played f [] (take (i + 1) replies) ++ drop (i + 1) before)
    runs_on before now e a s room is (answered, st) =
        let rs = accepted_by f [] (take i replies) in
        let r = get_or replies i d in (
          subst (Represents s f) (ap (accepted rs r) answered ∙ sym accepted-more) st,
          (λ j. set (is j) i (answered j)) ∙ answers_more before e room,
        )

  pub ran : (replies : List Reply) (before after : List (Result (Option Decision) Fault)) (s : Session) (n : ℕ) → n ≡ min (length replies) (length before)
      → after ≡ played f [] (take n replies) ++ drop n before → Represents s f (accepted_by f [] (take n replies)) → Ran f replies before after s n
  ran replies before after s n count is st =
      let p = played f [] (take n replies) in
      let long : length p ≡ n = length-played [] (take n replies) ∙ length-take-le n replies (omega arith) in
      record {
        count = count;
        lawful = subst (Lawful f (take n replies)) (sym (ap (take n) is ∙ take_at p (drop n before) n long)) (lawful (take n replies));
        behind = ap (drop n) is ∙ drop_at p (drop n before) n long;
        session = st;
      }
