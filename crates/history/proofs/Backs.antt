-- Histories in which every proof reads back, one behind the other.
use Rattle.std.proofs.Common.{ℕ, List, [], ◌∷◌, ◌++◌, sym, subst}
use Rattle.std.proofs.lemmas.List.{append-nil, append_assoc}
use Rattle.history.specs.Events.{Effect, Event, effect, effects}
use Rattle.history.specs.Backs.{AllReadBack, EventReadsBack}

module _ (digest : List ℕ → List ℕ) (tag : ℕ → List ℕ → List ℕ) (f own : ℕ) where
  pub back_none : (es : List Effect) → AllReadBack digest tag f own es []
  unfolding AllReadBack
  back_none es = tt

  pub back_cons : (es : List Effect) (e : Event) (h : List Event) → EventReadsBack digest tag f own es e → AllReadBack digest tag f own (es ++ effect e ∷ []) h → AllReadBack digest tag f own es (e ∷ h)
  unfolding AllReadBack
  back_cons es e h b l = (b, l)

  pub back_append : (es : List Effect) (h k : List Event) → AllReadBack digest tag f own es h → AllReadBack digest tag f own (es ++ effects h) k → AllReadBack digest tag f own es (h ++ k)
  unfolding AllReadBack
  back_append es [] k l m = subst (λ fs. AllReadBack digest tag f own fs k) (append-nil es) m
  back_append es (e ∷ h) k (a, l) m =
      (a, back_append (es ++ effect e ∷ []) h k l (subst (λ fs. AllReadBack digest tag f own fs k) (sym (append_assoc es (effect e ∷ []) (effects h))) m))

  -- one event more
  pub back_push : (es : List Effect) (h : List Event) (e : Event) → AllReadBack digest tag f own es h → EventReadsBack digest tag f own (es ++ effects h) e → AllReadBack digest tag f own es (h ++ e ∷ [])
  unfolding AllReadBack
  back_push es h e l a = back_append es h (e ∷ []) l (a, tt)

  pub back_rest : (es : List Effect) (h k : List Event) → AllReadBack digest tag f own es (h ++ k) → AllReadBack digest tag f own (es ++ effects h) k
  unfolding AllReadBack
  back_rest es [] k l = subst (λ fs. AllReadBack digest tag f own fs k) (sym (append-nil es)) l
  back_rest es (e ∷ h) k (a, l) =
      subst (λ fs. AllReadBack digest tag f own fs k) (append_assoc es (effect e ∷ []) (effects h)) (back_rest (es ++ effect e ∷ []) h k l)

  -- the event in the middle of a history
  pub back_at : (h k : List Event) (e : Event) → AllReadBack digest tag f own [] (h ++ e ∷ k) → EventReadsBack digest tag f own (effects h) e
  unfolding AllReadBack
  back_at h k e l = (back_rest [] h (e ∷ k) l).0
