-- The reader's stages are what rule 1 and then the other rules answer.
use Rattle.std.proofs.Common.{◌≡◌, ℕ, ◌+◌, ◌≤◌, cond, leb, List, ◌++◌, map, length, Some, None, Ok, Err, Result, sym, refl, ap, ◌∙◌, subst, arith}
use Rattle.std.specs.List.{AllByRecursion}
use Rattle.std.proofs.lemmas.Bool.{le-leb, and_from}
use Rattle.std.proofs.lemmas.Bool.Decides.{nat_tests}
use Rattle.fault.specs.declared.Fault.{Fault}
use Rattle.fault.specs.declared.Layer.TheVariants.{Frame}
use Rattle.fault.specs.declared.Cause.TheVariants.{Malformed}
use Rattle.fault.specs.Codes.{fault}
use Rattle.octets.specs.Numbers.{Bytes}
use Rattle.record.specs.Chains.{unless, after, and_then, guards, tested}
use Rattle.record.specs.Formats.{repeat, walk, closing, no_rules, formed}
use Rattle.record.specs.Rules.{Spot, spots, rising, covered}
use Rattle.record.specs.Runs.{run, spotted}
use Rattle.record.proofs.Steps.{then_some, then_ok, then_err}
use Rattle.record.proofs.Rules.{unless_then, walk_then, walk_bind, Fixed, walk_fixed, then_then, then_same, read_split, guards-after, guards-append}
use Rattle.record.proofs.Marking.{run-walk, ran, each}
use Rattle.request.specs.declared.mark.ReadAt.{ReadAt}
use Rattle.request.specs.declared.mark.WriteAt.{WriteAt}
use Rattle.request.specs.declared.plan.Head.{Head}
use Rattle.request.specs.Bodies.{RequestBody, read_format, write_format, request_format, write_fields, request_rules, read_request, reads_at, read_item, write_item, read_spots, write_spots}
use Rattle.request.specs.Marks.{read_stands, read_ends, read_body, read_number, read_place, write_stands, write_ends, write_body, write_number, write_place}
use Rattle.request.specs.Plans.{head_format, head_of, Marks, with_tag, with_writes, with_reads, laid, ordered, body_of}
use Rattle.request.specs.Requests.{read_in, read_view, write_in, write_view}
use Rattle.request.proofs.Records.{reads, writes}
use Rattle.request.proofs.Requests.{behind-writes, behind-reads, behind_head}

-- the rules on marks, from where the marks are
pub ordered_rules : {C : Type 0} (w : ℕ) (m : Marks) (b : RequestBody) (r : Result C Fault)
    → spotted read_number read_place m.reads ≡ read_spots w b
    → spotted write_number write_place m.writes ≡ write_spots w b
    → map read_number m.reads ≡ map read_item b.reads
    → after (ordered m) r ≡ guards (request_rules w b) r
ordered_rules w m b r sr sw nr =
    let A = rising Frame None (spotted read_number read_place m.reads) in
    let B = rising Frame None (spotted write_number write_place m.writes) in
    let C = covered Frame (map read_number m.reads) (spotted write_number write_place m.writes) in
    ap (λ t. after t r) (guards-after A tt (after (tested B) (tested C)) ∙ ap (guards A) (guards-after B tt (tested C)) ∙ sym (ap (guards A) (guards-append B C (Ok tt))) ∙ sym (guards-append A (B ++ C) (Ok tt)))
    ∙ guards-after (A ++ (B ++ C)) tt r
    ∙ (λ i. guards (rising Frame None (sr i) ++ (rising Frame None (sw i) ++ covered Frame (nr i) (sw i))) r)

module _ (w : ℕ) (bs : List ℕ) where
  abbrev last : RequestBody → ℕ → Result RequestBody Fault
  last b e = closing Frame no_rules bs b e

  abbrev hold : Marks → Result RequestBody Fault
  hold m = Ok (body_of w bs m)

  fixed : Fixed (head_format w) (reads_at w)
  fixed = (w + 3, omega arith, λ a. (w + 2, omega arith, λ b. (2, refl, λ c. (1, refl, λ d. (0, refl, λ e. refl)))))

  tag_is : (h : Head) (p : List ReadAt × ℕ) (q : List WriteAt × ℕ) → walk Frame (behind-writes h (map (read_body w bs) p.0) (map (write_body bs) q.0)) last bs q.1 ≡ and_then (with_tag bs h p q) hold
  tag_is h p q =
      let e = q.1 in
      let m : Marks = record { top = h; reads = p.0; writes = q.0; writes_at = p.1; tag_at = e } in
      sym
      (unless_then (leb (e + 16) (length bs)) (fault Malformed Frame (length bs)) (unless (leb (length bs) (e + 16)) (fault Malformed Frame (e + 16)) (Ok m)) hold
      ∙ ap (unless (leb (e + 16) (length bs)) (fault Malformed Frame (length bs))) (unless_then (leb (length bs) (e + 16)) (fault Malformed Frame (e + 16)) (Ok m) hold))

  writes_are : (h : Head) (p : List ReadAt × ℕ) → walk Frame (behind-reads h (map (read_body w bs) p.0)) last bs p.1 ≡ and_then (with_writes bs h p) hold
  writes_are h p =
      let rs = map (read_body w bs) p.0 in
      walk_bind Frame bs (repeat h.writes write_format) (behind-writes h rs) last p.1
      ∙ run-walk writes bs h.writes p.1 (λ ws e. walk Frame (behind-writes h rs ws) last bs e)
      ∙ then_same (run write_stands write_ends bs h.writes p.1) (λ q. walk Frame (behind-writes h rs (map (write_body bs) q.0)) last bs q.1) (λ q. and_then (with_tag bs h p q) hold) (λ q e. tag_is h p q)
      ∙ sym (then_then (run write_stands write_ends bs h.writes p.1) (with_tag bs h p) hold)

  reads_are : (h : Head) → walk Frame (behind_head w h) last bs (reads_at w) ≡ and_then (with_reads w bs h) hold
  reads_are h =
      walk_bind Frame bs (repeat h.reads (read_format w)) (behind-reads h) last (reads_at w)
      ∙ run-walk (reads w) bs h.reads (reads_at w) (λ rs e. walk Frame (behind-reads h rs) last bs e)
      ∙ then_same (run (read_stands w) (read_ends w) bs h.reads (reads_at w)) (λ p. walk Frame (behind-reads h (map (read_body w bs) p.0)) last bs p.1) (λ p. and_then (with_writes bs h p) hold) (λ p e. writes_are h p)
      ∙ sym (then_then (run (read_stands w) (read_ends w) bs h.reads (reads_at w)) (with_writes bs h) hold)

  pub formed-laid : formed Frame (request_format w) bs ≡ and_then (laid w bs) hold
  formed-laid =
      let z : 0 + reads_at w ≡ reads_at w = omega arith in
      walk_bind Frame bs (head_format w) (behind_head w) last 0
      ∙ walk_fixed Frame bs (head_format w) (λ h e. walk Frame (behind_head w h) last bs e) (reads_at w) 0 fixed
      ∙ ap (λ j. walk Frame (head_format w) (λ h e. walk Frame (behind_head w h) last bs j) bs 0) z
      ∙ walk_then Frame bs (λ h. walk Frame (behind_head w h) last bs (reads_at w)) (head_format w) (λ h e. Ok h) (λ h e. walk Frame (behind_head w h) last bs (reads_at w)) 0 (λ h e. refl)
      ∙ then_same (head_of w bs) (λ h. walk Frame (behind_head w h) last bs (reads_at w)) (λ h. and_then (with_reads w bs h) hold) (λ h e. reads_are h)
      ∙ sym (then_then (head_of w bs) (with_reads w bs) hold)

  -- what a frame that is laid out came over
  pub record LaidOut (m : Marks) : Type 0 where
    pub p : List ReadAt × ℕ
    pub q : List WriteAt × ℕ
    pub head : head_of w bs ≡ Ok m.top
    pub reads-run : run (read_stands w) (read_ends w) bs m.top.reads (reads_at w) ≡ Ok p
    pub writes-run : run write_stands write_ends bs m.top.writes p.1 ≡ Ok q
    pub is : record { top = m.top; reads = p.0; writes = q.0; writes_at = p.1; tag_at = q.1 } ≡ m
    pub long : length bs ≡ m.tag_at + 16

  tag_passed : (h : Head) (p : List ReadAt × ℕ) (q : List WriteAt × ℕ) (m : Marks) → with_tag bs h p q ≡ Ok m → (length bs ≡ q.1 + 16) × (record { top = h; reads = p.0; writes = q.0; writes_at = p.1; tag_at = q.1 } ≡ m)
  tag_passed h p q m e = (grind (arith, nat_tests), grind (arith, nat_tests))

  pub laid_out : (m : Marks) → laid w bs ≡ Ok m → LaidOut m
  laid_out m e =
      let t = then_some (head_of w bs) (with_reads w bs) m e in
      let u = then_some (run (read_stands w) (read_ends w) bs t.0.reads (reads_at w)) (with_writes bs t.0) m t.2 in
      let v = then_some (run write_stands write_ends bs t.0.writes u.0.1) (with_tag bs t.0 u.0) m u.2 in
      let x = tag_passed t.0 u.0 v.0 m v.2 in
      subst LaidOut x.1
      (record { p = u.0; q = v.0; head = t.1; reads-run = u.1; writes-run = v.1; is = refl; long = x.0 })

  head_long : (h : Head) → head_of w bs ≡ Ok h → reads_at w ≤ length bs
  head_long h e = grind (arith, nat_tests)

  -- the rules on marks are the rules on what is marked
  pub ordered-is : Bytes bs → (m : Marks) → LaidOut m → after (ordered m) (Ok (body_of w bs m)) ≡ guards (request_rules w (body_of w bs m)) (Ok (body_of w bs m))
  ordered-is all m o =
      subst (λ x. after (ordered x) (Ok (body_of w bs x)) ≡ guards (request_rules w (body_of w bs x)) (Ok (body_of w bs x))) o.is
      (let x : Marks = record { top = m.top; reads = o.p.0; writes = o.q.0; writes_at = o.p.1; tag_at = o.q.1 } in
      let b = body_of w bs x in
      let long = head_long m.top o.head in
      let r = ran (reads w) bs read_number read_place read_item (λ c at e. (refl, refl)) all m.top.reads (reads_at w) o.p long o.reads-run in
      let s = ran writes bs write_number write_place write_item (λ c at e. (refl, refl)) all m.top.writes o.p.1 o.q r.inside o.writes-run in
      let sw : spotted write_number write_place o.q.0 ≡ write_spots w b = s.places ∙ ap (λ at. spots_at at) r.to in
      ordered_rules w x b (Ok b) r.places sw r.numbers)
    where
      spots_at : ℕ → List Spot
      spots_at at = spots write_item write_fields at (map (write_body bs) o.q.0)

  pub stages : Bytes bs → read_request w bs ≡ and_then (laid w bs) (λ m. after (ordered m) (Ok (body_of w bs m)))
  stages all =
      read_split Frame (request_format w) (request_rules w) bs
      ∙ ap (λ r. and_then r (λ b. guards (request_rules w b) (Ok b))) formed-laid
      ∙ then_then (laid w bs) hold (λ b. guards (request_rules w b) (Ok b))
      ∙ then_same (laid w bs) (λ m. guards (request_rules w (body_of w bs m)) (Ok (body_of w bs m))) (λ m. after (ordered m) (Ok (body_of w bs m))) (λ m e. sym (ordered-is all m (laid_out m e)))

  pub refused_form : Bytes bs → (f : Fault) → laid w bs ≡ Err f → read_request w bs ≡ Err f
  refused_form all f e = stages all ∙ then_err (laid w bs) (λ m. after (ordered m) (Ok (body_of w bs m))) f e

  pub refused-order : Bytes bs → (m : Marks) (f : Fault) → laid w bs ≡ Ok m → ordered m ≡ Err f → read_request w bs ≡ Err f
  refused-order all m f e o = stages all ∙ then_ok (laid w bs) (λ x. after (ordered x) (Ok (body_of w bs x))) m e ∙ ap (λ r. after r (Ok (body_of w bs m))) o

  pub taken : Bytes bs → (m : Marks) (u : Unit {0}) → laid w bs ≡ Ok m → ordered m ≡ Ok u → read_request w bs ≡ Ok (body_of w bs m)
  taken all m u e o = stages all ∙ then_ok (laid w bs) (λ x. after (ordered x) (Ok (body_of w bs x))) m e ∙ ap (λ r. after r (Ok (body_of w bs m))) o

  -- there are as many marks as the head says
  pub counts : Bytes bs → (m : Marks) → LaidOut m → (length m.reads ≡ m.top.reads) × (length m.writes ≡ m.top.writes)
  counts all m o =
      let r = ran (reads w) bs read_number read_place read_item (λ c at e. (refl, refl)) all m.top.reads (reads_at w) o.p (head_long m.top o.head) o.reads-run in
      let s = ran writes bs write_number write_place write_item (λ c at e. (refl, refl)) all m.top.writes o.p.1 o.q r.inside o.writes-run in
      (ap (λ x. length x.reads) (sym o.is) ∙ r.count, ap (λ x. length x.writes) (sym o.is) ∙ s.count)

  -- each record lies in the frame
  pub reads-inside : Bytes bs → (m : Marks) → LaidOut m → AllByRecursion (λ r. r.place + (w + 33) ≤ length bs) m.reads
  reads-inside all m o =
      subst (λ x. AllByRecursion (λ r. r.place + (w + 33) ≤ length bs) x.reads) o.is
      (each (reads w) bs all (λ r. r.place + (w + 33) ≤ length bs)
      (λ at b e s. omega (arith, s.inside, ((reads w).stops bs at b e s.is).0))
      m.top.reads (reads_at w) o.p (head_long m.top o.head) o.reads-run)

  pub writes-inside : Bytes bs → (m : Marks) → LaidOut m → AllByRecursion (λ r. (r.place + 2 ≤ r.after) × (r.after ≤ length bs)) m.writes
  writes-inside all m o =
      let r = ran (reads w) bs read_number read_place read_item (λ c at e. (refl, refl)) all m.top.reads (reads_at w) o.p (head_long m.top o.head) o.reads-run in
      subst (λ x. AllByRecursion (λ r. (r.place + 2 ≤ r.after) × (r.after ≤ length bs)) x.writes) o.is
      (each writes bs all (λ x. (x.place + 2 ≤ x.after) × (x.after ≤ length bs))
      (λ at b e s. (omega (arith, s.to), s.inside))
      m.top.writes o.p.1 o.q r.inside o.writes-run)

-- a read and a write that lie in the frame are found there
pub read_found : (bs : List ℕ) (r : ReadAt) → r.place + 35 ≤ length bs → read_in bs r ≡ Some (read_view bs r)
read_found bs r h = grind (arith, nat_tests)

pub write_found : (bs : List ℕ) (r : WriteAt) → (r.place + 2 ≤ r.after) × (r.after ≤ length bs) → write_in bs r ≡ Some (write_view bs r)
write_found bs r h = ap (λ b. cond b (Some (write_view bs r)) None) (and_from (leb (r.place + 2) r.after) (leb r.after (length bs)) (le-leb (r.place + 2) r.after h.0) (le-leb r.after (length bs) h.1))
