-- The events of calls with their answers.
use Rattle.std.specs.Prelude.{◌≡◌, ℕ, List, [], ◌∷◌, ◌++◌, take, drop, Ok, Err, Result}
use Rattle.fault.specs.declared.Fault.{Fault}
use Rattle.store.specs.declared.record.Record.{Record}
use Rattle.history.specs.declared.Delivery.{Delivery}
use Rattle.history.specs.Events.{Event, asked, delivered, marked, proved, shared_in, shared_out}
use Rattle.answer.specs.declared.mark.Mark as marks
use Rattle.answer.specs.Answers.{said}
use Rattle.promises.specs.declared.calls.Call.{Call}
use Rattle.promises.specs.declared.calls.Call.TheVariants.{Deliver, Item, Mark, Proof, ShareIn, ShareOut}
use Rattle.promises.specs.declared.calls.Answer.{Answer}
use Rattle.promises.specs.declared.calls.Answer.TheVariants.{Asked, Delivered, Marked, Proved, SharedIn, SharedOut}

-- a refusal
abbrev pub IsRefusal : {A : Type 0} → Result A Fault → Type 0
IsRefusal (Ok a) = ⊥
IsRefusal (Err e) = Unit {0}

-- The event of a call with its answer, where a buffer held `before` and holds `after`.
-- A call that writes is lent the first n bytes, and leaves the others as they were.
abbrev pub Of : List ℕ → List ℕ → Call → Answer → Event → Type 0
Of before after (Deliver frame) a e =
    (r : Result Delivery Fault) × ((a ≡ Delivered r) × (e ≡ delivered frame.now r) × (after ≡ before))
Of before after (Item x) a e =
    (r : Result Record Fault) × ((a ≡ Asked r) × (e ≡ asked x (said r)) × (after ≡ before))
Of before after Mark a e =
    (m : marks.Mark) × ((a ≡ Marked m) × (e ≡ marked m.count m.chain) × (after ≡ before))
Of before after (ShareOut v n) a e =
    (r : Result ℕ Fault)
    × ((a ≡ SharedOut r) × (e ≡ shared_out v (take n before) (take n after) r) × (after ≡ take n after ++ drop n before))
Of before after (ShareIn frame) a e =
    (r : Result ℕ Fault) × ((a ≡ SharedIn r) × (e ≡ shared_in frame.now r) × (after ≡ before))
Of before after (Proof low high n) a e =
    (r : Result ℕ Fault)
    × ((a ≡ Proved r) × (e ≡ proved low high (take n before) (take n after) r) × (after ≡ take n after ++ drop n before))

-- the answers that refuse
abbrev pub Refused : Answer → Type 0
Refused (Delivered r) = IsRefusal r
Refused (Asked r) = IsRefusal r
Refused (Marked m) = ⊥
Refused (SharedOut r) = IsRefusal r
Refused (SharedIn r) = IsRefusal r
Refused (Proved r) = IsRefusal r

-- Calls in their order, with their answers and their events; one buffer goes from call to call.
pub data Ran : List ℕ → List Call → List Answer → List Event → List ℕ → Type 0 where
  none : {room : List ℕ} → Ran room [] [] [] room
  more : {before mid after : List ℕ} {c : Call} {a : Answer} {e : Event} {cs : List Call} {as' : List Answer} {es : List Event}
      → Of before mid c a e → Ran mid cs as' es after → Ran before (c ∷ cs) (a ∷ as') (e ∷ es) after
