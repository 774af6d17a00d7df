-- The writer's stages are what the judge and then the other rule say of the fields of a draft.
use Rattle.std.proofs.Common.{◌≡◌, ℕ, ◌+◌, ◌≤◌, List, [], ◌∷◌, ◌++◌, map, length, Ok, Err, Result, sym, refl, ap, ◌∙◌, arith}
use Rattle.std.specs.List.{flat_map, AllByRecursion}
use Rattle.std.proofs.lemmas.List.{append-nil, length-map}
use Rattle.std.proofs.lemmas.Bool.Decides.{nat_tests}
use Rattle.fault.specs.declared.Fault.{Fault}
use Rattle.fault.specs.declared.Layer.TheVariants.{Frame}
use Rattle.octets.specs.Numbers.{be}
use Rattle.record.specs.Chains.{after, and_then, guards}
use Rattle.record.specs.Formats.{Field, written, repeat}
use Rattle.record.specs.Runs.{planned_run}
use Rattle.record.specs.Writing.{judge, room_for}
use Rattle.record.proofs.Steps.{then_some, same_ok, then_ok, then_err}
use Rattle.record.proofs.Rules.{then_then, then_same}
use Rattle.record.proofs.Judging.{Exact}
use Rattle.record.proofs.Planning.{verdict, judge_exact, judge_bind, plan_judge, Planned, planned_well, planned-each, joined-written}
use Rattle.reading.specs.declared.mark.ItemAt.{ItemAt}
use Rattle.reading.specs.declared.part.ReadingDraft.{ReadingDraft}
use Rattle.reading.specs.Bodies.{ReadingBody, reading_item_format, reading_format, reading_item_fields, reading_fields, reading_rules, write_reading, read_item_item}
use Rattle.reading.specs.Marks.{read_item_ends, read_item_number, read_item_place}
use Rattle.reading.specs.Plans.{Marks, count_format, ordered}
use Rattle.reading.specs.Drafts.{read_item_drafted, drafted, read_item_bytes, read_item_ready, read_item_judged, count_fields, count_judged, count_bytes, plan_items, plan_draft, draft_bytes}
use Rattle.reading.proofs.Records.{items, read_item_exact}
use Rattle.reading.proofs.Readings.{behind-items, behind-count}
use Rattle.reading.proofs.Taking.{ordered_rules}

after_as_then : {A B : Type 0} (v : Result (Unit {0}) Fault) (x : A) (g : A → Result B Fault) → after v (g x) ≡ and_then (after v (Ok x)) g
after_as_then (Ok u) x g = refl
after_as_then (Err f) x g = refl

pub draft_exact : (d : ReadingDraft) → Exact (reading_item_format 2) (reading_item_fields 2 (read_item_drafted d)) (read_item_drafted d)
draft_exact d = read_item_exact 2 (read_item_drafted d)

-- the marks of a draft are where its items will begin
pub marks_well : (ds : List ReadingDraft) (q : List ItemAt × ℕ) → planned_run read_item_judged read_item_ends ds 2 ≡ Ok q → Planned (items 2) read_item_drafted draft_exact (λ x at. refl) read_item_number read_item_place read_item_item ds 2 q
marks_well ds q e = planned_well (items 2) read_item_drafted draft_exact (λ x at. refl) read_item_number read_item_place read_item_item (λ c at j. (refl, refl)) ds 2 q e

module _ (ds : List ReadingDraft) (room : ℕ) where
  abbrev b : ReadingBody
  b = drafted ds

  abbrev close : ReadingBody → List Field → ℕ → Result ℕ Fault
  close a gs e = guards (reading_rules 2 a) (room_for e room)

  abbrev judged_room : Marks → Result ℕ Fault
  judged_room m = after (ordered m) (room_for m.end room)

  abbrev tail : List Field
  tail = flat_map (reading_item_fields 2) b.items

  fields_are : reading_fields 2 b ≡ count_fields (length ds) ++ tail
  fields_are = let n = length-map ds read_item_drafted in λ i. count_fields (n i) ++ tail

  count_exact : Exact count_format (count_fields (length ds)) (length ds)
  count_exact = (refl, λ a c. (refl, λ d e. refl))

  items_are : judge Frame (behind-count 2 (length ds)) close tail 2 ≡ and_then (plan_items ds (length ds)) judged_room
  items_are =
      let n = length ds in
      let marks = planned_run read_item_judged read_item_ends ds 2 in
      let mark : List ItemAt × ℕ → Result Marks Fault = λ q. Ok (record { count = n; items = q.0; end = q.1 }) in
      ap (λ l. judge Frame (behind-count 2 n) close l 2) (sym (append-nil tail))
      ∙ judge_bind Frame (repeat n (reading_item_format 2)) behind-items close (tail ++ []) 2
      ∙ plan_judge (items 2) read_item_drafted draft_exact (λ x at. refl) ds [] 2 (λ xs gs e. close (record { items = xs }) gs e)
      ∙ then_same marks (λ q. close b [] q.1) (λ q. and_then (mark q) judged_room)
      (λ q e. sym (ordered_rules 2 (record { count = n; items = q.0; end = q.1 }) b (room_for q.1 room) (marks_well ds q e).places))
      ∙ sym (then_then marks mark judged_room)

  stages : write_reading 2 (drafted ds) room ≡ and_then (plan_draft ds) judged_room
  stages =
      let n = length ds in
      let fs = count_fields n in
      let v = verdict Frame count_format fs 0 in
      let count-is : count_judged n ≡ after v (Ok n) = judge_exact Frame (λ x gs e. Ok x) count_format fs [] n 0 count_exact in
      let next : ℕ → Result ℕ Fault = λ x. and_then (plan_items ds x) judged_room in
      ap (λ l. judge Frame (reading_format 2) close l 0) fields_are
      ∙ judge_bind Frame count_format (behind-count 2) close (fs ++ tail) 0
      ∙ judge_exact Frame (λ x gs e. judge Frame (behind-count 2 x) close gs e) count_format fs tail n 0 count_exact
      ∙ ap (after v) items_are
      ∙ after_as_then v n next
      ∙ ap (λ r. and_then r next) (sym count-is)
      ∙ sym (then_then (count_judged n) (plan_items ds) judged_room)

  pub refused_form : (f : Fault) → plan_draft ds ≡ Err f → write_reading 2 (drafted ds) room ≡ Err f
  refused_form f e = stages ∙ then_err (plan_draft ds) judged_room f e

  pub refused-order : (m : Marks) (f : Fault) → plan_draft ds ≡ Ok m → ordered m ≡ Err f → write_reading 2 (drafted ds) room ≡ Err f
  refused-order m f e o = stages ∙ then_ok (plan_draft ds) judged_room m e ∙ ap (λ r. after r (room_for m.end room)) o

  pub room_left : (m : Marks) (u : Unit {0}) → plan_draft ds ≡ Ok m → ordered m ≡ Ok u → write_reading 2 (drafted ds) room ≡ room_for m.end room
  room_left m u e o = stages ∙ then_ok (plan_draft ds) judged_room m e ∙ ap (λ r. after r (room_for m.end room)) o

items-written : (ds : List ReadingDraft) → written (flat_map (reading_item_fields 2) (map read_item_drafted ds)) ≡ flat_map read_item_bytes ds
items-written ds = joined-written (reading_item_fields 2) read_item_drafted read_item_bytes (λ d. ap (λ l. d.item ∷ (be 2 d.version ++ (length d.value.now ∷ l))) (append-nil d.value.now)) ds

-- the pieces of a draft are the fields of its frame
pub same_bytes : (ds : List ReadingDraft) → draft_bytes ds ≡ written (reading_fields 2 (drafted ds))
same_bytes ds =
    let n = sym (length-map ds read_item_drafted) in
    let all = sym (items-written ds) in
    λ i. count_bytes (n i) ++ all i

-- what a draft that was planned has
pub record Ready (ds : List ReadingDraft) (m : Marks) : Type 0 where
  pub few : length ds ≤ 16
  pub ready : AllByRecursion read_item_ready ds
  pub long : 2 + length (flat_map read_item_bytes ds) ≡ m.end

count_ready : (n c : ℕ) → count_judged n ≡ Ok c → n ≤ 16
count_ready n c e = grind (arith, nat_tests)

item_ready : (d : ReadingDraft) (at : ℕ) (m : ItemAt) → read_item_judged d at ≡ Ok m → read_item_ready d
item_ready d at m e = (grind (arith, nat_tests), grind (arith, nat_tests))

pub readied : (ds : List ReadingDraft) (m : Marks) → plan_draft ds ≡ Ok m → Ready ds m
readied ds m e =
    let a = then_some (count_judged (length ds)) (plan_items ds) m e in
    let mark : List ItemAt × ℕ → Result Marks Fault = λ q. Ok (record { count = a.0; items = q.0; end = q.1 }) in
    let q = then_some (planned_run read_item_judged read_item_ends ds 2) mark m a.2 in
    let r = marks_well ds q.0 q.1 in
    let is : q.0.1 ≡ m.end = ap (λ x. x.end) (same_ok (record { count = a.0; items = q.0.0; end = q.0.1 }) m q.2) in
    record {
      few = count_ready (length ds) a.0 a.1;
      ready = planned-each (items 2) read_item_drafted draft_exact (λ x at. refl) read_item_ready item_ready ds 2 q.0 q.1;
      long = omega (arith, r.to, is, ap length (items-written ds));
    }
