-- The writer's stages are what the judge and then the other rules say of the fields of a draft.
use Rattle.std.proofs.Common.{◌≡◌, ℕ, ◌+◌, ◌≤◌, leb, List, [], ◌∷◌, ◌++◌, map, length, Ok, Err, Result, sym, refl, ap, ◌∙◌, arith}
use Rattle.std.specs.List.{flat_map, AllByRecursion}
use Rattle.std.proofs.lemmas.List.{append_assoc, append-nil, length-append, length-map}
use Rattle.std.proofs.lemmas.Bool.{le-leb}
use Rattle.std.proofs.lemmas.Bool.Decides.{nat_tests}
use Rattle.fault.specs.declared.Fault.{Fault}
use Rattle.fault.specs.declared.Layer.TheVariants.{Frame}
use Rattle.fault.specs.declared.Cause.TheVariants.{Malformed}
use Rattle.fault.specs.Codes.{fault}
use Rattle.octets.specs.Numbers.{Bytes, limit, be}
use Rattle.record.specs.Chains.{unless, after, and_then, guards}
use Rattle.record.specs.Formats.{Field, str, written, repeat}
use Rattle.record.specs.Rules.{spots}
use Rattle.record.specs.Runs.{planned_run}
use Rattle.record.specs.Writing.{filled, judge, room_for}
use Rattle.record.proofs.Steps.{pass, then_some, same_ok, then_ok, then_err}
use Rattle.record.proofs.Paths.{written-append}
use Rattle.record.proofs.Rules.{then_then, then_same}
use Rattle.record.proofs.Judging.{Exact}
use Rattle.record.proofs.Keeping.{writing}
use Rattle.record.proofs.Planning.{verdict, judge_exact, judge_bind, plan_judge, planned_well, planned-each, joined-written}
use Rattle.request.specs.declared.mark.ReadAt.{ReadAt}
use Rattle.request.specs.declared.mark.WriteAt.{WriteAt}
use Rattle.request.specs.declared.item.ReadItem.{ReadItem}
use Rattle.request.specs.declared.item.WriteItem.{WriteItem}
use Rattle.request.specs.declared.plan.Head.{Head}
use Rattle.request.specs.declared.draft.Draft.{Draft}
use Rattle.request.specs.Bodies.{RequestBody, read_format, write_format, request_format, read_fields, write_fields, request_fields, request_rules, RequestIn, RequestWrites, write_request, reads_at, read_item, write_item}
use Rattle.request.specs.Marks.{read_ends, read_number, read_place, write_ends, write_number, write_place}
use Rattle.request.specs.Plans.{Marks, head_format, ordered}
use Rattle.request.specs.Drafts.{read_drafted, write_drafted, drafted, read_bytes, write_bytes, read_ready, write_ready, read_judged, write_judged, head_fields, head_judged, head_bytes, plan_writes, plan_reads, plan_draft, draft_bytes}
use Rattle.request.proofs.Records.{reads, writes, read_exact, write_exact}
use Rattle.request.proofs.Requests.{behind-writes, behind-reads, behind_head, coding, exact}
use Rattle.request.proofs.Taking.{ordered_rules}

-- a read takes 35 bytes
read-long : (r : ReadItem) → length (written (read_fields 2 (read_drafted r))) ≡ 35
read-long r = omega (arith, length-append r.digest [], r.whole)

read_ends_at : (r : ReadItem) (at : ℕ) → at + 35 ≡ at + length (written (read_fields 2 (read_drafted r)))
read_ends_at r at = omega (arith, read-long r)

abbrev head_drafted : Draft → Head
head_drafted d = record { client = d.client; sequence = d.sequence; reads = length d.reads.now; writes = length d.writes.now }

after_as_then : {A B : Type 0} (v : Result (Unit {0}) Fault) (x : A) (g : A → Result B Fault) → after v (g x) ≡ and_then (after v (Ok x)) g
after_as_then (Ok u) x g = refl
after_as_then (Err f) x g = refl

module _ (d : Draft) (tag-long : length d.tag ≡ 16) (room : ℕ) where
  abbrev b : RequestBody
  b = drafted d

  abbrev rs : List ReadItem
  rs = d.reads.now

  abbrev ws : List WriteItem
  ws = d.writes.now

  abbrev close : RequestBody → List Field → ℕ → Result ℕ Fault
  close a gs e = guards (request_rules 2 a) (room_for e room)

  abbrev judged_room : Marks → Result ℕ Fault
  judged_room m = after (ordered m) (room_for (m.tag_at + 16) room)

  abbrev tail : List Field
  tail = flat_map (read_fields 2) b.reads ++ (flat_map write_fields b.writes ++ (str b.tag ∷ []))

  fields_are : request_fields 2 b ≡ head_fields 2 d.client d.sequence (length rs) (length ws) ++ tail
  fields_are =
      let nr = length-map rs read_drafted in
      let nw = length-map ws write_drafted in
      λ i. head_fields 2 d.client d.sequence (nr i) (nw i) ++ tail

  head_exact : Exact (head_format 2) (head_fields 2 d.client d.sequence (length rs) (length ws)) (head_drafted d)
  head_exact = (refl, λ a c. (refl, λ e f. (refl, λ g h. (refl, λ i j. (refl, λ k l. refl)))))

  -- the rules and the room, behind the last field
  tag_is : (p : List ReadAt × ℕ) (q : List WriteAt × ℕ) → planned_run read_judged (read_ends 2) rs (reads_at 2) ≡ Ok p → planned_run write_judged write_ends ws p.1 ≡ Ok q
      → judge Frame (behind-writes (head_drafted d) b.reads b.writes) close (str b.tag ∷ []) q.1 ≡ judged_room (record { top = head_drafted d; reads = p.0; writes = q.0; writes_at = p.1; tag_at = q.1 })
  tag_is p q ep eq =
      let m : Marks = record { top = head_drafted d; reads = p.0; writes = q.0; writes_at = p.1; tag_at = q.1 } in
      let e = q.1 in
      let n = length d.tag in
      let r = planned_well (reads 2) read_drafted (λ x. read_exact 2 (read_drafted x) x.whole) read_ends_at read_number read_place read_item (λ c at j. (refl, refl)) rs (reads_at 2) p ep in
      let s = planned_well writes write_drafted (λ x. write_exact (write_drafted x)) (λ x at. refl) write_number write_place write_item (λ c at j. (refl, refl)) ws p.1 q eq in
      pass (leb 16 n) (fault Malformed Frame (e + n)) (unless (leb n 16) (fault Malformed Frame (e + 16)) (close b [] (e + 16))) (le-leb 16 n (omega arith))
      ∙ pass (leb n 16) (fault Malformed Frame (e + 16)) (close b [] (e + 16)) (le-leb n 16 (omega arith))
      ∙ sym (ordered_rules 2 m b (room_for (e + 16) room) r.places (s.places ∙ ap (λ at. spots write_item write_fields at b.writes) r.to) r.numbers)

  writes_are : (p : List ReadAt × ℕ) → planned_run read_judged (read_ends 2) rs (reads_at 2) ≡ Ok p
      → judge Frame (behind-reads (head_drafted d) b.reads) close (flat_map write_fields b.writes ++ (str b.tag ∷ [])) p.1 ≡ and_then (plan_writes d (head_drafted d) p) judged_room
  writes_are p ep =
      let h = head_drafted d in
      let mark : List WriteAt × ℕ → Result Marks Fault = λ q. Ok (record { top = h; reads = p.0; writes = q.0; writes_at = p.1; tag_at = q.1 }) in
      judge_bind Frame (repeat (length ws) write_format) (behind-writes h b.reads) close (flat_map write_fields b.writes ++ (str b.tag ∷ [])) p.1
      ∙ plan_judge writes write_drafted (λ x. write_exact (write_drafted x)) (λ x at. refl) ws (str b.tag ∷ []) p.1 (λ xs gs e. judge Frame (behind-writes h b.reads xs) close gs e)
      ∙ then_same (planned_run write_judged write_ends ws p.1) (λ q. judge Frame (behind-writes h b.reads b.writes) close (str b.tag ∷ []) q.1) (λ q. and_then (mark q) judged_room) (λ q eq. tag_is p q ep eq)
      ∙ sym (then_then (planned_run write_judged write_ends ws p.1) mark judged_room)

  reads_are : judge Frame (behind_head 2 (head_drafted d)) close tail (reads_at 2) ≡ and_then (plan_reads d (head_drafted d)) judged_room
  reads_are =
      let h = head_drafted d in
      let rest = flat_map write_fields b.writes ++ (str b.tag ∷ []) in
      judge_bind Frame (repeat (length rs) (read_format 2)) (behind-reads h) close tail (reads_at 2)
      ∙ plan_judge (reads 2) read_drafted (λ x. read_exact 2 (read_drafted x) x.whole) read_ends_at rs rest (reads_at 2) (λ xs gs e. judge Frame (behind-reads h xs) close gs e)
      ∙ then_same (planned_run read_judged (read_ends 2) rs (reads_at 2)) (λ p. judge Frame (behind-reads h b.reads) close rest p.1) (λ p. and_then (plan_writes d h p) judged_room) (λ p ep. writes_are p ep)
      ∙ sym (then_then (planned_run read_judged (read_ends 2) rs (reads_at 2)) (plan_writes d h) judged_room)

  pub stages : write_request 2 (drafted d) room ≡ and_then (plan_draft d) (λ m. after (ordered m) (room_for (m.tag_at + 16) room))
  stages =
      let h = head_drafted d in
      let fs = head_fields 2 d.client d.sequence (length rs) (length ws) in
      let v = verdict Frame (head_format 2) fs 0 in
      let head-is : head_judged d.client d.sequence (length rs) (length ws) ≡ after v (Ok h) = judge_exact Frame (λ x gs e. Ok x) (head_format 2) fs [] h 0 head_exact in
      let next : Head → Result ℕ Fault = λ x. and_then (plan_reads d x) judged_room in
      ap (λ l. judge Frame (request_format 2) close l 0) fields_are
      ∙ judge_bind Frame (head_format 2) (behind_head 2) close (fs ++ tail) 0
      ∙ judge_exact Frame (λ x gs e. judge Frame (behind_head 2 x) close gs e) (head_format 2) fs tail h 0 head_exact
      ∙ ap (after v) reads_are
      ∙ after_as_then v h next
      ∙ ap (λ r. and_then r next) (sym head-is)
      ∙ sym (then_then (head_judged d.client d.sequence (length rs) (length ws)) (plan_reads d) judged_room)

  pub refused_form : (f : Fault) → plan_draft d ≡ Err f → write_request 2 (drafted d) room ≡ Err f
  refused_form f e = stages ∙ then_err (plan_draft d) judged_room f e

  pub refused-order : (m : Marks) (f : Fault) → plan_draft d ≡ Ok m → ordered m ≡ Err f → write_request 2 (drafted d) room ≡ Err f
  refused-order m f e o = stages ∙ then_ok (plan_draft d) judged_room m e ∙ ap (λ r. after r (room_for (m.tag_at + 16) room)) o

  pub room_left : (m : Marks) (u : Unit {0}) → plan_draft d ≡ Ok m → ordered m ≡ Ok u → write_request 2 (drafted d) room ≡ room_for (m.tag_at + 16) room
  room_left m u e o = stages ∙ then_ok (plan_draft d) judged_room m e ∙ ap (λ r. after r (room_for (m.tag_at + 16) room)) o

-- the pieces of a draft are the fields of its frame
pub same_bytes : (d : Draft) → draft_bytes d ≡ written (request_fields 2 (drafted d))
same_bytes d =
    let rs = d.reads.now in
    let ws = d.writes.now in
    let top = head_bytes d.client d.sequence (length rs) (length ws) in
    let nr = sym (length-map rs read_drafted) in
    let nw = sym (length-map ws write_drafted) in
    let jr = sym (joined-written (read_fields 2) read_drafted read_bytes (λ r. ap (λ l. r.item ∷ (be 2 r.version ++ l)) (append-nil r.digest)) rs) in
    let jw = sym (joined-written write_fields write_drafted write_bytes (λ r. ap (λ l. r.item ∷ length r.value.now ∷ l) (append-nil r.value.now)) ws) in
    let one = flat_map (read_fields 2) (map read_drafted rs) in
    let two = flat_map write_fields (map write_drafted ws) in
    append_assoc (top ++ flat_map read_bytes rs) (flat_map write_bytes ws) d.tag
    ∙ append_assoc top (flat_map read_bytes rs) (flat_map write_bytes ws ++ d.tag)
    ∙ (λ i. head_bytes d.client d.sequence (nr i) (nw i) ++ (jr i ++ (jw i ++ sym (append-nil d.tag) i)))
    ∙ ap (λ l. head_bytes d.client d.sequence (length (map read_drafted rs)) (length (map write_drafted ws)) ++ l)
    (sym (written-append one (two ++ (str d.tag ∷ [])) ∙ ap (λ l. written one ++ l) (written-append two (str d.tag ∷ []))))

-- what a draft that was planned has
pub record Ready (d : Draft) (m : Marks) : Type 0 where
  pub few : (length d.reads.now ≤ 16) × (length d.writes.now ≤ 8)
  pub ready : (d.sequence ≤ limit 2) × AllByRecursion read_ready d.reads.now × AllByRecursion write_ready d.writes.now
  pub long : 6 + length (flat_map read_bytes d.reads.now) + length (flat_map write_bytes d.writes.now) ≡ m.tag_at

head_ready : (client sequence n m : ℕ) (h : Head) → head_judged client sequence n m ≡ Ok h → (n ≤ 16) × (m ≤ 8) × (sequence ≤ limit 2)
head_ready client sequence n m h e = (grind (arith, nat_tests), grind (arith, nat_tests), grind (arith, nat_tests))

read_ready_lem : (r : ReadItem) (at : ℕ) (m : ReadAt) → read_judged r at ≡ Ok m → read_ready r
read_ready_lem r at m e = grind (arith, nat_tests)

write_ready_lem : (r : WriteItem) (at : ℕ) (m : WriteAt) → write_judged r at ≡ Ok m → write_ready r
write_ready_lem r at m e = grind (arith, nat_tests)

pub readied : (d : Draft) (m : Marks) → plan_draft d ≡ Ok m → Ready d m
readied d m e =
    let rs = d.reads.now in
    let ws = d.writes.now in
    let a = then_some (head_judged d.client d.sequence (length rs) (length ws)) (plan_reads d) m e in
    let p = then_some (planned_run read_judged (read_ends 2) rs (reads_at 2)) (plan_writes d a.0) m a.2 in
    let mark : List WriteAt × ℕ → Result Marks Fault = λ q. Ok (record { top = a.0; reads = p.0.0; writes = q.0; writes_at = p.0.1; tag_at = q.1 }) in
    let q = then_some (planned_run write_judged write_ends ws p.0.1) mark m p.2 in
    let h = head_ready d.client d.sequence (length rs) (length ws) a.0 a.1 in
    let ex = λ (x : ReadItem). read_exact 2 (read_drafted x) x.whole in
    let r = planned_well (reads 2) read_drafted ex read_ends_at read_number read_place read_item (λ c at j. (refl, refl)) rs (reads_at 2) p.0 p.1 in
    let s = planned_well writes write_drafted (λ x. write_exact (write_drafted x)) (λ x at. refl) write_number write_place write_item (λ c at j. (refl, refl)) ws p.0.1 q.0 q.1 in
    let jr = joined-written (read_fields 2) read_drafted read_bytes (λ x. ap (λ l. x.item ∷ (be 2 x.version ++ l)) (append-nil x.digest)) rs in
    let jw = joined-written write_fields write_drafted write_bytes (λ x. ap (λ l. x.item ∷ length x.value.now ∷ l) (append-nil x.value.now)) ws in
    let is : q.0.1 ≡ m.tag_at = ap (λ x. x.tag_at) (same_ok (record { top = a.0; reads = p.0.0; writes = q.0.0; writes_at = p.0.1; tag_at = q.0.1 }) m q.2) in
    record {
      few = (h.0, h.1);
      ready = (h.2, planned-each (reads 2) read_drafted ex read_ends_at read_ready read_ready_lem rs (reads_at 2) p.0 p.1, planned-each writes write_drafted (λ x. write_exact (write_drafted x)) (λ x at. refl) write_ready write_ready_lem ws p.0.1 q.0 q.1);
      long = omega (arith, r.to, s.to, is, ap length jr, ap length jw);
    }

-- each digest of a draft's reads has 32 bytes
digests : (rs : List ReadItem) → AllByRecursion (λ r. length r.digest ≡ 32) (map read_drafted rs)
digests [] = tt
digests (r ∷ rs) = (r.whole, digests rs)

-- the promises, for the answer and the buffer that the definitions give
pub promised : (d : Draft) (old new : List ℕ) (r : Result ℕ Fault) → length d.tag ≡ 16 → Bytes new → r ≡ write_request 2 (drafted d) (length old) → new ≡ filled r (written (request_fields 2 (drafted d))) old → RequestWrites 2 (drafted d) old new r
promised d old new r tag all e b =
    writing Frame (request_format 2) (request_rules 2) (request_fields 2) (RequestIn 2) (coding 2) (drafted d) (exact 2 (drafted d) (digests d.reads.now) tag) old new r e b all
