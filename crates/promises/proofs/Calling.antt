-- One call behind a history.
use Rattle.std.proofs.Common.{◌≡◌, ℕ, min, List, [], ◌∷◌, ◌++◌, length, take, drop, Ok, Err, Result, sym, ap, ◌∙◌, subst, inl, inr, arith}
use Rattle.std.proofs.lemmas.List.{append-nil, drop_all, length-take, take_all, take-append-drop, take_at}
use Rattle.std.proofs.lemmas.Bool.{cases_lt}
use Rattle.fault.specs.declared.Fault.{Fault}
use Rattle.record.specs.Writing.{filled}
use Rattle.store.specs.Slot.{Slot}
use Rattle.history.specs.Events.{Event, effects}
use Rattle.history.specs.Answers.{Answered}
use Rattle.board.specs.declared.state.Board.{Board}
use Rattle.board.specs.Delivering.{KeptOnRefusal}
use Rattle.board.specs.Shares.{Refusal}
use Rattle.board.specs.Standing.{Represents}
use Rattle.board.specs.WriteSets.{WriteSets}
use Rattle.history.specs.Backs.{EventReadsBack}
use Rattle.promises.specs.declared.calls.Call.{Call}
use Rattle.promises.specs.declared.calls.Answer.{Answer}
use Rattle.promises.specs.Events.{IsRefusal, Of}
use Rattle.promises.specs.Runs.{Called}

-- what a refusal leaves as it was
pub kept-refused : {A B : Type 0} (before after : A) (r : Result B Fault) → KeptOnRefusal before after r → IsRefusal r → after ≡ before
kept-refused before after (Ok b) kept no' = absurd no'
kept-refused before after (Err e) kept no' = kept

pub refusal-kept : {A : Type 0} (P : Type 0) (r : Result A Fault) → Refusal r P → IsRefusal r → P
refusal-kept P (Ok a) kept no' = absurd no'
refusal-kept P (Err e) kept no' = kept

pub lent_refused : (room last bs : List ℕ) (k : ℕ) (r : Result ℕ Fault) → last ≡ filled r bs (take k room) → IsRefusal r → last ++ drop k room ≡ room
lent_refused room last bs k (Ok n) is no' = absurd no'
lent_refused room last bs k (Err e) is no' = ap (λ front. front ++ drop k room) is ∙ take-append-drop k room

-- The front of a buffer was lent, n bytes or the whole of it, and came back as `last`.
module _ (room last : List ℕ) (n k : ℕ) (is : k ≡ min n (length room)) (same : length last ≡ length (take k room)) where
  whole : length last ≡ k
  whole = same ∙ length-take k room ∙ omega arith

  lent_before : take k room ≡ take n room
  lent_before = elim (cases_lt (length room) n) [
    | inl far ↦ take_all k room (omega arith) ∙ sym (take_all n room (omega arith))
    | inr near ↦ let e : k ≡ n = omega arith in ap (λ m. take m room) e
  ]

  lent_after : last ≡ take n (last ++ drop k room)
  lent_after = elim (cases_lt (length room) n) [
    | inl far ↦ sym (ap (λ s. take n (last ++ s)) (drop_all k room (omega arith)) ∙ ap (take n) (append-nil last) ∙ take_all n last (omega (arith, whole)))
    | inr near ↦ sym (take_at last (drop k room) n (omega (arith, whole)))
  ]

  behind : drop k room ≡ drop n room
  behind = elim (cases_lt (length room) n) [
    | inl far ↦ drop_all k room (omega arith) ∙ sym (drop_all n room (omega arith))
    | inr near ↦ let e : k ≡ n = omega arith in ap (λ m. drop m room) e
  ]

  -- so an event over what was lent is one over the front of the buffer, and the rest is as it was
  pub lent : (event : List ℕ → List ℕ → Event) → (event (take k room) last ≡ event (take n room) (take n (last ++ drop k room)))
      × (last ++ drop k room ≡ take n (last ++ drop k room) ++ drop n room)
  lent event = (λ i. event (lent_before i) (lent_after i), λ i. lent_after i ++ behind i)

module _ {S D L : Type 0} (holds : S → ℕ → Slot) (digest : List ℕ → List ℕ) (tag_of : L → ℕ → List ℕ → List ℕ) (tag : ℕ → List ℕ → List ℕ) (f own : ℕ) where
  -- a call that is of a kind, with an event of that kind
  pub called : (h : List Event) (c k : Call) (a : Answer) (e : Event) (room out : List ℕ) (b : Board S D L) → c ≡ k → Of room out k a e
      → Answered digest tag f own (effects h) e × Represents holds digest tag_of tag f own b (h ++ e ∷ []) → EventReadsBack digest tag f own (effects h) e
      → WriteSets (h ++ e ∷ []) → Called holds digest tag_of tag f own h c a room out b
  called h c k a e room out b same of told back sets = record {
    event = e;
    of = subst (λ (d : Call). Of room out d a e) (sym same) of;
    answered = told.0;
    back = back;
    sets = sets;
    represents = told.1;
  }
