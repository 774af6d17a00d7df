-- Lawful histories, one behind the other.
use Rattle.std.proofs.Common.{ℕ, List, [], ◌∷◌, ◌++◌, sym, subst}
use Rattle.std.proofs.lemmas.List.{append-nil, append_assoc}
use Rattle.history.specs.Events.{Effect, Event, effect, effects}
use Rattle.history.specs.Answers.{Answered, Lawful}

module _ (digest : List ℕ → List ℕ) (tag : ℕ → List ℕ → List ℕ) (f own : ℕ) where
  pub lawful-none : (es : List Effect) → Lawful digest tag f own es []
  unfolding Lawful
  lawful-none es = tt

  pub lawful-append : (es : List Effect) (h k : List Event) → Lawful digest tag f own es h → Lawful digest tag f own (es ++ effects h) k → Lawful digest tag f own es (h ++ k)
  unfolding Lawful
  lawful-append es [] k l m = subst (λ fs. Lawful digest tag f own fs k) (append-nil es) m
  lawful-append es (e ∷ h) k (a, l) m =
      (a, lawful-append (es ++ effect e ∷ []) h k l (subst (λ fs. Lawful digest tag f own fs k) (sym (append_assoc es (effect e ∷ []) (effects h))) m))

  -- one event more
  pub lawful_push : (es : List Effect) (h : List Event) (e : Event) → Lawful digest tag f own es h → Answered digest tag f own (es ++ effects h) e → Lawful digest tag f own es (h ++ e ∷ [])
  unfolding Lawful
  lawful_push es h e l a = lawful-append es h (e ∷ []) l (a, tt)

  pub lawful-first : (es : List Effect) (h k : List Event) → Lawful digest tag f own es (h ++ k) → Lawful digest tag f own es h
  unfolding Lawful
  lawful-first es [] k l = tt
  lawful-first es (e ∷ h) k (a, l) = (a, lawful-first (es ++ effect e ∷ []) h k l)

  pub lawful-rest : (es : List Effect) (h k : List Event) → Lawful digest tag f own es (h ++ k) → Lawful digest tag f own (es ++ effects h) k
  unfolding Lawful
  lawful-rest es [] k l = subst (λ fs. Lawful digest tag f own fs k) (sym (append-nil es)) l
  lawful-rest es (e ∷ h) k (a, l) =
      subst (λ fs. Lawful digest tag f own fs k) (append_assoc es (effect e ∷ []) (effects h)) (lawful-rest (es ++ effect e ∷ []) h k l)
