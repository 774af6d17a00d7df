-- The reader's stages are what rule 1 and then the other rule answer.
use Rattle.std.proofs.Common.{◌≡◌, ℕ, ◌+◌, ◌≤◌, cond, leb, List, map, length, Some, None, Ok, Err, Result, sym, refl, ap, ◌∙◌, subst, arith}
use Rattle.std.specs.List.{AllByRecursion}
use Rattle.std.proofs.lemmas.Bool.{le-leb, and_from}
use Rattle.std.proofs.lemmas.Bool.Decides.{nat_tests}
use Rattle.fault.specs.declared.Fault.{Fault}
use Rattle.fault.specs.declared.Layer.TheVariants.{Frame}
use Rattle.fault.specs.declared.Cause.TheVariants.{Malformed}
use Rattle.fault.specs.Codes.{fault}
use Rattle.octets.specs.Numbers.{Bytes}
use Rattle.record.specs.Chains.{after, and_then, guards, tested}
use Rattle.record.specs.Formats.{repeat, walk, closing, no_rules, formed}
use Rattle.record.specs.Rules.{rising}
use Rattle.record.specs.Orders.{RisingSays}
use Rattle.record.specs.Runs.{run, spotted}
use Rattle.record.proofs.Steps.{then_some, then_ok, then_err}
use Rattle.record.proofs.Rules.{unless_then, walk_then, walk_bind, Fixed, walk_fixed, then_then, then_same, read_split, guards-after}
use Rattle.record.proofs.Ordering.{rising-says}
use Rattle.record.proofs.Marking.{both, run-walk, Ran, ran, each}
use Rattle.reading.specs.declared.mark.ItemAt.{ItemAt}
use Rattle.reading.specs.Bodies.{ReadingItemBody, ReadingBody, reading_item_format, reading_format, reading_rules, reading_of, read_item_item}
use Rattle.reading.specs.Orders.{item_spots, Orderly}
use Rattle.reading.specs.Marks.{read_item_stands, read_item_ends, read_item_body, read_item_number, read_item_place}
use Rattle.reading.specs.Readings.{item_in, item_view}
use Rattle.reading.specs.Plans.{count_format, count_of, Marks, with_end, with_items, laid, ordered, body_of}
use Rattle.reading.proofs.Records.{items}
use Rattle.reading.proofs.Readings.{behind-items, behind-count}

-- the rule on marks, from where the marks are
pub ordered_rules : {C : Type 0} (w : ℕ) (m : Marks) (b : ReadingBody) (r : Result C Fault) → spotted read_item_number read_item_place m.items ≡ item_spots w b → after (ordered m) r ≡ guards (reading_rules w b) r
ordered_rules w m b r places = guards-after (rising Frame None (spotted read_item_number read_item_place m.items)) tt r ∙ (λ i. guards (rising Frame None (places i)) r)

-- the rule in plain words
orderly_from : (w : ℕ) (b : ReadingBody) (x : Result (Unit {0}) Fault) → RisingSays Frame (item_spots w b) x → Orderly w b (after x (Ok b))
orderly_from w b (Ok u) p = (refl, p)
orderly_from w b (Err e) p = p

pub orderly : (w : ℕ) (b : ReadingBody) → Orderly w b (guards (reading_rules w b) (Ok b))
orderly w b =
    let rows = rising Frame None (item_spots w b) in
    subst (Orderly w b) (guards-after rows tt (Ok b)) (orderly_from w b (tested rows) (rising-says Frame (item_spots w b)))

module _ (w : ℕ) (bs : List ℕ) where
  abbrev last : ReadingBody → ℕ → Result ReadingBody Fault
  last b e = closing Frame no_rules bs b e

  abbrev hold : Marks → Result ReadingBody Fault
  hold m = Ok (body_of w bs m)

  fixed : Fixed count_format 2
  fixed = (1, refl, λ a. (0, refl, λ b. refl))

  end_is : (n : ℕ) (p : List ItemAt × ℕ) → last (record { items = map (read_item_body w bs) p.0 }) p.1 ≡ and_then (with_end bs n p) hold
  end_is n p = sym (unless_then (leb (length bs) p.1) (fault Malformed Frame p.1) (Ok (record { count = n; items = p.0; end = p.1 })) hold)

  items_are : (n : ℕ) → walk Frame (behind-count w n) last bs 2 ≡ and_then (with_items w bs n) hold
  items_are n =
      let marks = run (read_item_stands w) read_item_ends bs n 2 in
      walk_bind Frame bs (repeat n (reading_item_format w)) behind-items last 2
      ∙ run-walk (items w) bs n 2 (λ ps e. last (record { items = ps }) e)
      ∙ then_same marks (λ p. last (record { items = map (read_item_body w bs) p.0 }) p.1) (λ p. and_then (with_end bs n p) hold) (λ p e. end_is n p)
      ∙ sym (then_then marks (with_end bs n) hold)

  formed-laid : formed Frame (reading_format w) bs ≡ and_then (laid w bs) hold
  formed-laid =
      walk_bind Frame bs count_format (behind-count w) last 0
      ∙ walk_fixed Frame bs count_format (λ n e. walk Frame (behind-count w n) last bs e) 2 0 fixed
      ∙ walk_then Frame bs (λ n. walk Frame (behind-count w n) last bs 2) count_format (λ n e. Ok n) (λ n e. walk Frame (behind-count w n) last bs 2) 0 (λ n e. refl)
      ∙ then_same (count_of bs) (λ n. walk Frame (behind-count w n) last bs 2) (λ n. and_then (with_items w bs n) hold) (λ n e. items_are n)
      ∙ sym (then_then (count_of bs) (with_items w bs) hold)

  -- what a frame that is laid out came over
  pub record LaidOut (m : Marks) : Type 0 where
    pub p : List ItemAt × ℕ
    pub head : count_of bs ≡ Ok m.count
    pub items-run : run (read_item_stands w) read_item_ends bs m.count 2 ≡ Ok p
    pub is : record { count = m.count; items = p.0; end = p.1 } ≡ m
    pub short : length bs ≤ m.end

  end_passed : (n : ℕ) (p : List ItemAt × ℕ) (m : Marks) → with_end bs n p ≡ Ok m → (length bs ≤ p.1) × (record { count = n; items = p.0; end = p.1 } ≡ m)
  end_passed n p m e = (grind (arith, nat_tests), grind (arith, nat_tests))

  pub laid_out : (m : Marks) → laid w bs ≡ Ok m → LaidOut m
  laid_out m e =
      let t = then_some (count_of bs) (with_items w bs) m e in
      let u = then_some (run (read_item_stands w) read_item_ends bs t.0 2) (with_end bs t.0) m t.2 in
      let x = end_passed t.0 u.0 m u.2 in
      subst LaidOut x.1
      (record { p = u.0; head = t.1; items-run = u.1; is = refl; short = x.0 })

  head_long : (n : ℕ) → count_of bs ≡ Ok n → 2 ≤ length bs
  head_long n e = grind (arith, nat_tests)

  pub head_some : (n : ℕ) → count_of bs ≡ Ok n → 1 ≤ n
  head_some n e = grind (arith, nat_tests)

  module _ (all : Bytes bs) where
    -- what the items of a laid out frame are
    pub items-ran : (m : Marks) → LaidOut m → Ran (items w) bs read_item_number read_item_place read_item_item m.count 2 (m.items, m.end)
    items-ran m o =
        subst (λ x. Ran (items w) bs read_item_number read_item_place read_item_item m.count 2 (x.items, x.end)) o.is
        (ran (items w) bs read_item_number read_item_place read_item_item (λ c at e. (refl, refl)) all m.count 2 o.p (head_long m.count o.head) o.items-run)

    -- the rule on marks is the rule on what is marked
    ordered-is : (m : Marks) → LaidOut m → after (ordered m) (Ok (body_of w bs m)) ≡ guards (reading_rules w (body_of w bs m)) (Ok (body_of w bs m))
    ordered-is m o = ordered_rules w m (body_of w bs m) (Ok (body_of w bs m)) (items-ran m o).places

    stages : reading_of w bs ≡ and_then (laid w bs) (λ m. after (ordered m) (Ok (body_of w bs m)))
    stages =
        read_split Frame (reading_format w) (reading_rules w) bs
        ∙ ap (λ r. and_then r (λ b. guards (reading_rules w b) (Ok b))) formed-laid
        ∙ then_then (laid w bs) hold (λ b. guards (reading_rules w b) (Ok b))
        ∙ then_same (laid w bs) (λ m. guards (reading_rules w (body_of w bs m)) (Ok (body_of w bs m))) (λ m. after (ordered m) (Ok (body_of w bs m))) (λ m e. sym (ordered-is m (laid_out m e)))

    pub refused_form : (f : Fault) → laid w bs ≡ Err f → reading_of w bs ≡ Err f
    refused_form f e = stages ∙ then_err (laid w bs) (λ m. after (ordered m) (Ok (body_of w bs m))) f e

    pub refused-order : (m : Marks) (f : Fault) → laid w bs ≡ Ok m → ordered m ≡ Err f → reading_of w bs ≡ Err f
    refused-order m f e o = stages ∙ then_ok (laid w bs) (λ x. after (ordered x) (Ok (body_of w bs x))) m e ∙ ap (λ r. after r (Ok (body_of w bs m))) o

    pub taken : (m : Marks) (u : Unit {0}) → laid w bs ≡ Ok m → ordered m ≡ Ok u → reading_of w bs ≡ Ok (body_of w bs m)
    taken m u e o = stages ∙ then_ok (laid w bs) (λ x. after (ordered x) (Ok (body_of w bs x))) m e ∙ ap (λ r. after r (Ok (body_of w bs m))) o

    -- each item lies in the frame
    pub inside : (m : Marks) → LaidOut m → AllByRecursion (λ r. (r.place + (w + 2) ≤ r.after) × (r.after ≤ length bs)) m.items
    inside m o =
        subst (λ x. AllByRecursion (λ r. (r.place + (w + 2) ≤ r.after) × (r.after ≤ length bs)) x.items) o.is
        (each (items w) bs all (λ r. (r.place + (w + 2) ≤ r.after) × (r.after ≤ length bs)) (λ at b e s. (wide at b e s.is, s.inside)) m.count 2 o.p (head_long m.count o.head) o.items-run)
      where
        wide : (at : ℕ) (b : ReadingItemBody) (e : ℕ) → walk Frame (reading_item_format w) both bs at ≡ Ok (b, e) → at + (w + 2) ≤ e
        wide at b e h = grind (arith, nat_tests)

-- an item that lies in the frame is found there
pub item_found : (bs : List ℕ) (r : ItemAt) → (r.place + 4 ≤ r.after) × (r.after ≤ length bs) → item_in bs r ≡ Some (item_view bs r)
item_found bs r h = ap (λ b. cond b (Some (item_view bs r)) None) (and_from (leb (r.place + 4) r.after) (leb r.after (length bs)) (le-leb (r.place + 4) r.after h.0) (le-leb r.after (length bs) h.1))
