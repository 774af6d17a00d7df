-- Drafts that differ in their tag alone, and what a tag covers in the frame that was written.
use Rattle.std.proofs.Common.{◌≡◌, ℕ, ◌+◌, ◌-◌, ◌*◌, ◌≤◌, leb, List, [], ◌∷◌, ◌++◌, length, take, drop, IfOk, Ok, Err, Result, sym, refl, ap, ◌∙◌, subst, arith, length-drop}
use Rattle.std.specs.List.{flat_map, AllByRecursion}
use Rattle.std.proofs.lemmas.List.{append_assoc, length-append, take_at}
use Rattle.std.proofs.lemmas.Bool.{le-leb, leb-true}
use Rattle.fault.specs.declared.Fault.{Fault}
use Rattle.fault.specs.declared.Layer.TheVariants.{Frame}
use Rattle.fault.specs.declared.Cause.TheVariants.{NoRoom}
use Rattle.fault.specs.Codes.{fault}
use Rattle.label.specs.declared.Label.TheVariants.{Request}
use Rattle.label.specs.Labels.{labelled}
use Rattle.seal.specs.Seals.{client_signer, passes}
use Rattle.record.specs.Chains.{after, and_then}
use Rattle.record.specs.Writing.{room_for}
use Rattle.record.proofs.Steps.{never, pass, passed, same_ok, then_some, after-some}
use Rattle.request.specs.declared.item.ReadItem.{ReadItem}
use Rattle.request.specs.declared.item.WriteItem.{WriteItem}
use Rattle.request.specs.declared.draft.Draft.{Draft}
use Rattle.request.specs.Bodies.{RequestBody, write_request, RequestWrites}
use Rattle.request.specs.Plans.{Marks, ordered}
use Rattle.request.specs.Drafts.{drafted, read_bytes, write_bytes, write_ready, plan_draft}
use Rattle.request.specs.Sizes.{covered_part}
use Rattle.request.proofs.Sizing.{covered_then_tag, covered-long}
use Rattle.request.proofs.Drafting.{readied, stages}
use Rattle.sealed_request.specs.declared.Unsealed.{Unsealed}
use Rattle.sealed_request.specs.Sealed.{client_tag, sealed_body, tag_place, TagPasses}

-- the draft under a tag
abbrev pub draft_of : Unsealed → List ℕ → Draft
draft_of u t = record { client = u.client; sequence = u.sequence; reads = u.reads; writes = u.writes; tag = t }

reads-long : (rs : List ReadItem) → length (flat_map read_bytes rs) ≡ 35 * length rs
reads-long [] = refl
reads-long (r ∷ rs) = omega (arith, length-append (read_bytes r) (flat_map read_bytes rs), r.whole, reads-long rs)

writes-most : (ws : List WriteItem) → AllByRecursion write_ready ws → length (flat_map write_bytes ws) ≤ 34 * length ws
writes-most [] h = omega arith
writes-most (r ∷ ws) h = omega (arith, length-append (write_bytes r) (flat_map write_bytes ws), h.0, writes-most ws h.1)

-- there is room for every tag in 854 bytes
tag-near : (d : Draft) (m : Marks) → plan_draft d ≡ Ok m → m.tag_at + 16 ≤ 854
tag-near d m e =
    let r = readied d m e in
    omega (arith, r.long, reads-long d.reads.now, writes-most d.writes.now r.ready.2, r.few.0, r.few.1)

-- what is refused where there is room is refused whatever the room
order-apart : (o : Result (Unit {0}) Fault) (n room : ℕ) (f : Fault) → n ≤ 854 → after o (room_for n 854) ≡ Err f → after o (room_for n room) ≡ Err f
order-apart (Ok u) n room f near e = never f n (sym e ∙ pass (leb n 854) (fault NoRoom Frame 0) (Ok n) (le-leb n 854 near))
order-apart (Err g) n room f near e = e

form_apart : (r : Result Marks Fault) (room : ℕ) (f : Fault) → ((m : Marks) → r ≡ Ok m → m.tag_at + 16 ≤ 854) → and_then r (λ m. after (ordered m) (room_for (m.tag_at + 16) 854)) ≡ Err f → and_then r (λ m. after (ordered m) (room_for (m.tag_at + 16) room)) ≡ Err f
form_apart (Ok m) room f near e = order-apart (ordered m) (m.tag_at + 16) room f (near m refl) e
form_apart (Err g) room f near e = e

-- a draft that is refused where there is room is refused under any other tag, whatever the room
pub refused-alike : (d e : Draft) (room : ℕ) (f : Fault) → length d.tag ≡ 16 → length e.tag ≡ 16 → plan_draft d ≡ plan_draft e → write_request 2 (drafted d) 854 ≡ Err f → write_request 2 (drafted e) room ≡ Err f
refused-alike d e room f td te same h =
    stages e te room
    ∙ ap (λ r. and_then r (λ m. after (ordered m) (room_for (m.tag_at + 16) room))) (sym same)
    ∙ form_apart (plan_draft d) room f (tag-near d) (sym (stages d td 854) ∙ h)

-- what was written fits
within : (d : Draft) (room n : ℕ) → length d.tag ≡ 16 → write_request 2 (drafted d) room ≡ Ok n → n ≤ room
within d room n td h =
    let a = then_some (plan_draft d) (λ m. after (ordered m) (room_for (m.tag_at + 16) room)) n (sym (stages d td room) ∙ h) in
    let k = a.0.tag_at + 16 in
    let o = after-some (ordered a.0) (room_for k room) n a.2 in
    let p = passed (leb k room) (fault NoRoom Frame 0) (Ok k) n o.2 in
    omega (arith, leb-true k room p.0, same_ok k n p.1)

-- the frame that was written is what its tag covers, and the tag
module _ (b : RequestBody) (tag : length b.tag ≡ 16) (old new : List ℕ) (n : ℕ) (fits : n ≤ length old) (kept : length new ≡ length old) (w : RequestWrites 2 b old new (Ok n)) where
  split : new ≡ covered_part 2 b ++ (b.tag ++ drop n old)
  split = w.buffer ∙ ap (λ l. l ++ drop n old) (covered_then_tag 2 b) ∙ append_assoc (covered_part 2 b) b.tag (drop n old)

  pub long : n ≡ length (covered_part 2 b) + 16
  long = omega (arith, ap length split, length-append (covered_part 2 b) (b.tag ++ drop n old), length-append b.tag (drop n old), length-drop n old)

  pub front : take (n - 16) new ≡ covered_part 2 b
  front = ap (take (n - 16)) split ∙ take_at (covered_part 2 b) (b.tag ++ drop n old) (n - 16) (omega (arith, long))

  whole : take n new ≡ covered_part 2 b ++ b.tag
  whole =
      ap (take n) (w.buffer ∙ ap (λ l. l ++ drop n old) (covered_then_tag 2 b))
      ∙ take_at (covered_part 2 b ++ b.tag) (drop n old) n (omega (arith, length-append (covered_part 2 b) b.tag, long))

  before-tag : take (tag_place b) (take n new) ≡ covered_part 2 b
  before-tag = ap (take (tag_place b)) whole ∙ take_at (covered_part 2 b) b.tag (tag_place b) (omega (arith, covered-long 2 b))

-- the tag that was written passes
pub passing : (tag : ℕ → List ℕ → List ℕ) (u : Unsealed) (old new : List ℕ) (r : Result ℕ Fault) → length (client_tag tag u) ≡ 16 → length new ≡ length old → r ≡ write_request 2 (sealed_body tag u) (length old) → RequestWrites 2 (sealed_body tag u) old new r → IfOk r (TagPasses tag new)
passing tag u old new (Ok n) long kept e w =
    λ b back.
    let a = sealed_body tag u in
    let fits = within (draft_of u (client_tag tag u)) (length old) n long (sym e) in
    subst (λ x. passes tag (client_signer x.client) (labelled Request (take (tag_place x) (take n new))) x.tag) (same_ok a b (sym (w.back n refl).1 ∙ back))
    (ap (λ s. tag (client_signer u.client) (labelled Request s)) (sym (before-tag a long old new n fits kept w)))
passing tag u old new (Err f) long kept e w = tt
