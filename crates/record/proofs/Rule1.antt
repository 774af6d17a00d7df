-- What a walk answers is what rule 1 says, and rule 1 says one thing only.
use Rattle.std.proofs.Common.{◌≡◌, ℕ, ◌+◌, ◌<◌, ◌≤◌, Bool, true, false, leb, ◌⊎◌, List, [], ◌∷◌, ◌++◌, length, drop, Ok, Err, Result, sym, refl, ap, ◌∙◌, subst, inl, inr, arith}
use Rattle.std.proofs.lemmas.List.{append-nil, length-append, length-drop, drop_all}
use Rattle.std.proofs.lemmas.Bool.{le-leb, lt-leb, cases_lt}
use Rattle.fault.specs.declared.Fault.{Fault}
use Rattle.fault.specs.declared.Layer.{Layer}
use Rattle.fault.specs.declared.Cause.TheVariants.{Malformed}
use Rattle.fault.specs.Codes.{fault}
use Rattle.octets.specs.Numbers.{Bytes, limit, be, number_at}
use Rattle.octets.proofs.NumberLaws.{length-be, number-found}
use Rattle.record.specs.Formats.{Format, number, string, done, Field, num, str, field_bytes, written, Fields, walk, closing, no_rules, formed}
use Rattle.record.specs.Refusals.{OutOfRange, TooShort, TooLong, Says}
use Rattle.record.proofs.Steps.{never, pass, refuse}
use Rattle.record.proofs.Paths.{Along, Live, written-append, along-frame, along_live, frame-behind, completed}
use Rattle.record.proofs.Walks.{first, Held, Bad, Cut, outcome, walk-along, walk-frame, number_bad, number_cut, string-cut}

module _ {A : Type 0} (l : Layer) (f : Format A) where
  -- no frame in range has a number that fails its test
  pub shut : (before : List Field) (w v : ℕ) (ok : ℕ → Bool) (next : ℕ → Format A) → Along f before (number w ok next) → v ≤ limit w → ok v ≡ false
      → (fs : List Field) (a : A) (tail : List ℕ) → Fields f fs a → written fs ≡ written before ++ (be w v ++ tail) → ⊥
  shut before w v ok next p fits fails fs a tail fr e =
      let k : A → ℕ → Result A Fault = λ x j. Ok x in
      let front = written before in
      let bs = front ++ (be w v ++ tail) in
      let good = walk-frame l k f [] [] fs a fr in
      let same : written fs ++ [] ≡ bs = append-nil (written fs) ∙ e in
      let there = number-found front tail w v fits in
      let room : length front + w ≤ length bs = omega (arith, length-append front (be w v ++ tail), length-append (be w v) tail, length-be w v) in
      let z : 0 + length front ≡ length front = omega arith in
      let bad = walk-along l k f (number w ok next) [] (be w v ++ tail) before p ∙ ap (walk l (number w ok next) k bs) z ∙ number_bad l k bs (length front) w v ok next room there fails in
      never _ a (sym bad ∙ ap (λ x. walk l f k x 0) (sym same) ∙ good)

  out_of_range : (bs : List ℕ) (r : Result A Fault) → Live f → Bad {B = A} l f bs 0 r → Says l f bs r
  out_of_range bs r live o =
      let g = number o.width o.ok o.next in
      let h = along_live f g o.before o.along live in
      let n = h.0.0 in
      let c = completed (o.next n) (h.1 n h.0.1 h.0.2) in
      let z : 0 + length (written o.before) ≡ length (written o.before) = omega arith in
      subst (Says l f bs) (sym o.answer) (
        refl,
        refl,
        inl (record {
          before = o.before;
          width = o.width;
          value = o.value;
          rest = drop (0 + length (written o.before) + o.width) bs;
          bytes = o.bytes;
          place = z;
          fits = o.fits;
          other = n;
          more = c.0;
          holds = c.1.0;
          some = along-frame f g o.before (num o.width n ∷ c.0) c.1.0 o.along (refl, h.0.1, h.0.2, c.1.1);
          none = shut o.before o.width o.value o.ok o.next o.along o.fits o.fails;
        }),
      )

  -- a frame of what is left begins with a field of its width
  next_field : (g : Format A) (n : ℕ) → Live g → n < first g → (x : Field) × ((fs : List Field) × ((a : A) × (n < length (field_bytes x)) × Fields g (x ∷ fs) a))
  next_field (number w ok next) n h s =
      let m = h.0.0 in
      let c = completed (next m) (h.1 m h.0.1 h.0.2) in
      (num w m, (c.0, (c.1.0, omega (arith, length-be w m), (refl, h.0.1, h.0.2, c.1.1))))
  next_field (string w next) n h s = string_field (completed (string w next) h)
    where
      string_field : (fs : List Field) × ((a : A) × Fields (string w next) fs a) → (x : Field) × ((fs : List Field) × ((a : A) × (n < length (field_bytes x)) × Fields (string w next) (x ∷ fs) a))
      string_field c = go c.0 c.1.0 c.1.1
        where
          go : (fs : List Field) (a : A) → Fields (string w next) fs a → (x : Field) × ((gs : List Field) × ((b : A) × (n < length (field_bytes x)) × Fields (string w next) (x ∷ gs) b))
          go [] a p = absurd p
          go (num v m ∷ fs) a p = absurd p
          go (str b ∷ fs) a p = (str b, (fs, (a, omega (arith, p.0), p)))
  next_field (done a) n h s = absurd (omega arith)

  too_short : (bs : List ℕ) (r : Result A Fault) → Live f → Cut {B = A} l f bs 0 r → Says l f bs r
  too_short bs r live o =
      let x = next_field o.left (length o.rest) (along_live f o.left o.before o.along live) o.short in
      subst (Says l f bs) (sym o.answer) (
        refl,
        refl,
        inr (inl (record {
          before = o.before;
          rest = o.rest;
          bytes = o.bytes;
          place = refl;
          next = x.0;
          more = x.1.0;
          holds = x.1.1.0;
          some = along-frame f o.left o.before (x.0 ∷ x.1.0) x.1.1.0 o.along x.1.1.2;
          cut = x.1.1.1;
        })),
      )

  ends_well : (bs : List ℕ) (r : Result A Fault) → Held f (closing l no_rules bs) bs 0 r → Says l f bs r
  ends_well bs r o =
      let e = 0 + length (written o.fields) in
      let z : e ≡ length (written o.fields) = omega arith in
      let more = drop e bs in
      elim (cases_lt e (length bs)) [
        | inl s ↦ subst (Says l f bs) (sym (o.answer ∙ refuse (leb (length bs) e) (fault Malformed l e) (Ok o.holds) (lt-leb (length bs) e s)))
            (refl, refl, inr (inr (record { fields = o.fields; holds = o.holds; frame = o.frame; rest = more; bytes = o.bytes; place = z; surplus = rw length-drop (omega arith) })))
        | inr s ↦ subst (Says l f bs) (sym (o.answer ∙ pass (leb (length bs) e) (fault Malformed l e) (Ok o.holds) (le-leb (length bs) e s)))
            (record { fields = o.fields; fields_ok = o.frame; bytes = o.bytes ∙ ap (λ q. written o.fields ++ q) (drop_all e bs s) ∙ append-nil (written o.fields) })
      ]

  pub says : (bs : List ℕ) → Live f → Bytes bs → Says l f bs (formed l f bs)
  says bs live all =
      let start : 0 ≤ length bs = omega arith in
      elim (outcome l (closing l no_rules bs) bs all f 0 start) [
        | inl o ↦ ends_well bs _ o
        | inr (inl o) ↦ out_of_range bs _ live o
        | inr (inr o) ↦ too_short bs _ live o
      ]

  -- the other way: what rule 1 says is what the walk answers
  at_fault : (e : Fault) (r : Result A Fault) → e.cause ≡ Malformed → e.layer ≡ l → r ≡ Err (fault Malformed l e.place) → Err e ≡ r
  at_fault e r c y h = (λ i. Err (record { cause = c i; layer = y i; place = e.place })) ∙ sym h

  at_end : (bs rest : List ℕ) (fs : List Field) (a : A) → Fields f fs a → bs ≡ written fs ++ rest → formed l f bs ≡ closing l no_rules bs a (length (written fs))
  at_end bs rest fs a h e =
      let z : 0 + length (written fs) ≡ length (written fs) = omega arith in
      ap (λ x. walk l f (closing l no_rules bs) x 0) e ∙ walk-frame l (closing l no_rules bs) f [] rest fs a h ∙ ap (closing l no_rules bs a) z

  at_bad : (bs : List ℕ) (p : ℕ) → Live f → OutOfRange f bs p → formed l f bs ≡ Err (fault Malformed l p)
  at_bad bs p live o = go b.0 b.1 b.2
    where
      b : (g : Format A) × Along f o.before g × Fields g (num o.width o.other ∷ o.more) o.holds
      b = frame-behind f o.before (num o.width o.other ∷ o.more) o.holds o.some

      go : (g : Format A) → Along f o.before g → Fields g (num o.width o.other ∷ o.more) o.holds → formed l f bs ≡ Err (fault Malformed l p)
      go (number w ok next) along fr = by_test (ok v) refl
        where
          v : ℕ
          v = o.value

          front : List ℕ
          front = written o.before

          fits : v ≤ limit w
          fits = subst (λ x. v ≤ limit x) fr.0 o.fits

          whole : List ℕ
          whole = front ++ (be o.width v ++ o.rest)

          by_test : (t : Bool) → ok v ≡ t → formed l f bs ≡ Err (fault Malformed l p)
          by_test true e = absurd (o.none (o.before ++ (num o.width v ∷ c.0)) c.1.0 (written c.0) full same)
            where
              c : (fs : List Field) × ((a : A) × Fields (next v) fs a)
              c = completed (next v) ((along_live f (number w ok next) o.before along live).1 v fits e)

              full : Fields f (o.before ++ (num o.width v ∷ c.0)) c.1.0
              full = along-frame f (number w ok next) o.before (num o.width v ∷ c.0) c.1.0 along (fr.0, fits, e, c.1.1)

              same : written (o.before ++ (num o.width v ∷ c.0)) ≡ front ++ (be o.width v ++ written c.0)
              same = written-append o.before (num o.width v ∷ c.0)
          by_test false e =
              let k : A → ℕ → Result A Fault = closing l no_rules bs in
              let there = subst (λ x. number_at (front ++ (be x v ++ o.rest)) (length front) x ≡ v) fr.0 (number-found front o.rest o.width v o.fits) in
              let room : length front + w ≤ length (front ++ (be w v ++ o.rest)) = omega (arith, length-append front (be w v ++ o.rest), length-append (be w v) o.rest, length-be w v) in
              let z : 0 + length front ≡ length front = omega arith in
              let m : front ++ (be w v ++ o.rest) ≡ whole = ap (λ x. front ++ (be x v ++ o.rest)) (sym fr.0) in
              ap (λ x. walk l f k x 0) o.bytes
              ∙ walk-along l k f (number w ok next) [] (be o.width v ++ o.rest) o.before along
              ∙ (λ i. walk l (number w ok next) k (sym m i) (z i))
              ∙ number_bad l k (front ++ (be w v ++ o.rest)) (length front) w v ok next room there e
              ∙ ap (λ j. Err (fault Malformed l j)) (sym o.place)
      go (string n next) along fr = absurd fr
      go (done a) along fr = absurd fr

  at_cut : (bs : List ℕ) (p : ℕ) → TooShort f bs p → formed l f bs ≡ Err (fault Malformed l p)
  at_cut bs p o = go b.0 b.1 b.2
    where
      b : (g : Format A) × Along f o.before g × Fields g (o.next ∷ o.more) o.holds
      b = frame-behind f o.before (o.next ∷ o.more) o.holds o.some

      k : A → ℕ → Result A Fault
      k = closing l no_rules bs

      front : List ℕ
      front = written o.before

      to_cut : (g : Format A) → Along f o.before g → walk l g k bs (length front) ≡ Err (fault Malformed l (length bs)) → formed l f bs ≡ Err (fault Malformed l p)
      to_cut g along h =
          let z : 0 + length front ≡ length front = omega arith in
          ap (λ x. walk l f k x 0) o.bytes
          ∙ walk-along l k f g [] o.rest o.before along
          ∙ (λ i. walk l g k (sym o.bytes i) (z i))
          ∙ h
          ∙ ap (λ j. Err (fault Malformed l j)) (sym o.place)

      long : length bs ≡ length front + length o.rest
      long = ap length o.bytes ∙ length-append front o.rest

      go : (g : Format A) → Along f o.before g → Fields g (o.next ∷ o.more) o.holds → formed l f bs ≡ Err (fault Malformed l p)
      go (number w ok next) along fr = to_cut (number w ok next) along (number_cut l k bs (length front) w ok next (omega (arith, long, wide o.next fr, o.cut)))
        where
          wide : (x : Field) → Fields (number w ok next) (x ∷ o.more) o.holds → length (field_bytes x) ≡ w
          wide (num v n) h = length-be v n ∙ h.0
          wide (str s) h = absurd h
      go (string n next) along fr = to_cut (string n next) along (string-cut l k bs (length front) n next (omega (arith, long, wide o.next fr, o.cut)))
        where
          wide : (x : Field) → Fields (string n next) (x ∷ o.more) o.holds → length (field_bytes x) ≡ n
          wide (num v m) h = absurd h
          wide (str s) h = h.0
      go (done a) along fr = absurd fr

  at_surplus : (bs : List ℕ) (p : ℕ) → TooLong f bs p → formed l f bs ≡ Err (fault Malformed l p)
  at_surplus bs p o =
      let e = length (written o.fields) in
      let long : e < length bs = omega (arith, ap length o.bytes, length-append (written o.fields) o.rest, o.surplus) in
      at_end bs o.rest o.fields o.holds o.frame o.bytes
      ∙ refuse (leb (length bs) e) (fault Malformed l e) (Ok o.holds) (lt-leb (length bs) e long)
      ∙ ap (λ j. Err (fault Malformed l j)) (sym o.place)

  pub only : (bs : List ℕ) (r : Result A Fault) → Live f → Says l f bs r → r ≡ formed l f bs
  only bs (Ok a) live o =
      let e = length (written o.fields) in
      let same : bs ≡ written o.fields ++ [] = o.bytes ∙ sym (append-nil (written o.fields)) in
      let long : length bs ≤ e = omega (arith, ap length o.bytes) in
      sym (at_end bs [] o.fields a o.fields_ok same ∙ pass (leb (length bs) e) (fault Malformed l e) (Ok a) (le-leb (length bs) e long))
  only bs (Err e) live o = at_fault e (formed l f bs) o.0 o.1 (which o.2)
    where
      which : OutOfRange f bs e.place ⊎ (TooShort f bs e.place ⊎ TooLong f bs e.place) → formed l f bs ≡ Err (fault Malformed l e.place)
      which (inl x) = at_bad bs e.place live x
      which (inr (inl x)) = at_cut bs e.place x
      which (inr (inr x)) = at_surplus bs e.place x
