-- Frames in range that begin with the same bytes as a string: where one breaks a rule, a scan of the string does not pass.
use Rattle.std.proofs.Common.{◌≡◌, ℕ, ◌+◌, ◌≤◌, false, leb, ◌⊎◌, List, [], ◌∷◌, ◌++◌, length, drop, Err, Result, sym, refl, ap, ◌∙◌, subst, inl, inr, arith}
use Rattle.std.proofs.lemmas.List.{append_assoc, length-append}
use Rattle.std.proofs.lemmas.Bool.{leb-true}
use Rattle.fault.specs.declared.Fault.{Fault}
use Rattle.fault.specs.declared.Layer.{Layer}
use Rattle.fault.specs.declared.Cause.TheVariants.{Malformed}
use Rattle.fault.specs.Codes.{fault}
use Rattle.octets.specs.Numbers.{Bytes, be, number_at}
use Rattle.octets.specs.Parts.{part_at}
use Rattle.octets.proofs.NumberLaws.{length-be, number-back, number-limit}
use Rattle.record.specs.Chains.{unless, guards}
use Rattle.record.specs.Formats.{Field, num, str, written, Fields, walk}
use Rattle.record.proofs.Steps.{pass, refuse}
use Rattle.record.proofs.Paths.{Live, completed}
use Rattle.record.proofs.Walks.{bytes_part, part_back, part_length}
use Rattle.ruled.specs.Ruled.{Ruled, numeral, text, end, plain, rows, scan}
use Rattle.ruled.specs.Standing.{Among}
use Rattle.ruled.proofs.Tables.{neatly, neat_first, among-left, among_right, among_cases, cases_rows, guards_pass}
use Rattle.ruled.proofs.Scans.{lies, number_lies, numeral-step, text-step}
use Rattle.ruled.proofs.Least.{Tidy, spoken, by_bool, Sooner}

-- a string that begins two strings, the first of them no shorter than another beginning
pub record Split (xs ys zs ws : List ℕ) : Type 0 where
  pub more : List ℕ
  pub front : zs ≡ xs ++ more
  pub rest : ys ≡ more ++ ws

pub split : (xs ys zs ws : List ℕ) → xs ++ ys ≡ zs ++ ws → length xs ≤ length zs → Split xs ys zs ws
split [] ys zs ws e h = record { more = zs; front = refl; rest = e }
split (x ∷ xs) ys [] ws e h = absurd (omega arith)
split (x ∷ xs) ys (z ∷ zs) ws e h =
    let head : x ≡ z = cc in
    let tail : xs ++ ys ≡ zs ++ ws = cc in
    let s = split xs ys zs ws tail (omega arith) in
    record { more = s.more; front = λ i. sym head i ∷ s.front i; rest = s.rest }

-- a frame in range whose fields begin with the bytes at a place, up to and with a fault's place, and that breaks a rule there
pub record Partly {A : Type 0} (c : Ruled A) (bs : List ℕ) (at : ℕ) (e : Fault) : Type 0 where
  pub fields : List Field
  pub holds : A
  pub frame : Fields (plain c) fields holds
  pub row : Among (false, e) (rows c fields at)
  pub shared : List ℕ
  pub mine : List ℕ
  pub theirs : List ℕ
  pub here : drop at bs ≡ shared ++ mine
  pub there : written fields ≡ shared ++ theirs
  pub long : at + length shared ≡ e.place + 1

module _ {A B : Type 0} (l : Layer) (k : A → ℕ → Result B Fault) (bs : List ℕ) (late : (a : A) (j : ℕ) (d : Fault) → j ≤ length bs → k a j ≡ Err d → j ≤ d.place) where
  -- where such a frame breaks a rule, a scan refuses there or before
  pub beside_frame : (c : Ruled A) (at : ℕ) (d : Fault) → Tidy l c → at ≤ length bs → Partly c bs at d → Sooner l k bs late c at d
  beside_frame c at d tidy h p = go c at tidy h p.fields p.holds p.frame p.row p.shared p.mine p.theirs p.here p.there p.long
    where
      go : (c : Ruled A) (at : ℕ) → Tidy l c → at ≤ length bs → (fs : List Field) (a : A) → Fields (plain c) fs a → Among (false, d) (rows c fs at)
          → (q mine theirs : List ℕ) → drop at bs ≡ q ++ mine → written fs ≡ q ++ theirs → at + length q ≡ d.place + 1 → Sooner l k bs late c at d
      go (numeral w ok rules next) at tidy h [] a fr m q mine theirs e o long = absurd m
      go (numeral w ok rules next) at tidy h (num v n ∷ fs) a fr m q mine theirs e o long =
          let wide : length (be v n) ≡ w = length-be v n ∙ fr.0 in
          let reach : w ≤ length q =
          elim (among_cases (false, d) (rules n at) (rows (next n) fs (at + w)) m) [
            | inl x ↦ let y = neatly l w at 0 (rules n at) false d (tidy.0 n at) x in omega (arith, y.one, y.place, long)
            | inr x ↦ let y = spoken l (next n) fs (at + w) false d (tidy.1 n) x in omega (arith, y.past, long)
          ]
          in
          let s = split (be v n) (written fs) q theirs o (omega (arith, wide, reach)) in
          let lay : drop at bs ≡ be w n ++ (s.more ++ mine) = e ∙ ap (λ x. x ++ mine) (s.front ∙ ap (λ x. be x n ++ s.more) fr.0) ∙ append_assoc (be w n) s.more mine in
          let y = lies bs (be w n) (s.more ++ mine) at w h (length-be w n) lay in
          let step = numeral-step l k bs at w n ok rules next y.room (number_lies bs (s.more ++ mine) at w n h fr.1 lay) fr.2 in
          let scanned = scan l (next n) k bs (at + w) in
          elim (among_cases (false, d) (rules n at) (rows (next n) fs (at + w)) m) [
            | inl x ↦
                let z = neat_first l w at 0 (rules n at) scanned d (tidy.0 n at) x in
                record { fault = z.fault; answer = step ∙ z.answer; before = z.before }
            | inr x ↦
                let far = spoken l (next n) fs (at + w) false d (tidy.1 n) x in
                let ends : at + w + length s.more ≡ d.place + 1 = omega (arith, ap length s.front, length-append (be v n) s.more, wide, long) in
                let rec = go (next n) (at + w) (tidy.1 n) y.room fs a fr.3 x s.more mine theirs y.behind s.rest ends in
                elim (cases_rows (rules n at) scanned) [
                  | inl all ↦ record { fault = rec.fault; answer = step ∙ guards_pass (rules n at) scanned all ∙ rec.answer; before = rec.before }
                  | inr z ↦
                      let u = neatly l w at 0 (rules n at) false z.fault (tidy.0 n at) z.row in
                      record { fault = z.fault; answer = step ∙ z.answer; before = inl (omega (arith, u.place, u.one, far.past)) }
                ]
          ]
      go (numeral w ok rules next) at tidy h (str s ∷ fs) a fr m q mine theirs e o long = absurd m
      go (text n next) at tidy h [] a fr m q mine theirs e o long = absurd m
      go (text n next) at tidy h (num v j ∷ fs) a fr m q mine theirs e o long = absurd m
      go (text n next) at tidy h (str t ∷ fs) a fr m q mine theirs e o long =
          let far = spoken l (next t) fs (at + n) false d (tidy t) m in
          let s = split t (written fs) q theirs o (omega (arith, fr.0, far.past, long)) in
          let y = lies bs t (s.more ++ mine) at n h fr.0 (e ∙ ap (λ x. x ++ mine) s.front ∙ append_assoc t s.more mine) in
          let ends : at + n + length s.more ≡ d.place + 1 = omega (arith, ap length s.front, length-append t s.more, fr.0, long) in
          let rec = go (next t) (at + n) (tidy t) y.room fs a fr.2 m s.more mine theirs y.behind s.rest ends in
          record { fault = rec.fault; answer = text-step l k bs at n t next y.room y.part ∙ rec.answer; before = rec.before }
      go (end b) at tidy h fs a fr m q mine theirs e o long = absurd m

  -- the fault of a scan is rule 1's, or some frame in range breaks a rule there
  pub scan-fault : (c : Ruled A) (at : ℕ) (e : Fault) → Tidy l c → Live (plain c) → Bytes bs → at ≤ length bs → scan l c k bs at ≡ Err e → (walk l (plain c) k bs at ≡ Err e) ⊎ Partly c bs at e
  scan-fault (numeral w ok rules next) at e tidy live all h s =
      let v = number_at bs at w in
      let short = fault Malformed l (length bs) in
      let bad = fault Malformed l at in
      let walked = walk l (plain (next v)) k bs (at + w) in
      let scanned = scan l (next v) k bs (at + w) in
      let fits = leb (at + w) (length bs) in
      by_bool fits
      (λ t.
      let room = leb-true (at + w) (length bs) t in
      let s1 = sym (pass fits short (unless (ok v) bad (guards (rules v at) scanned)) t) ∙ s in
      let w1 = pass fits short (unless (ok v) bad walked) t in
      let small = number-limit bs at w all in
      let lay = number-back bs at w all room in
      by_bool (ok v)
      (λ o.
      let s2 = sym (pass (ok v) bad (guards (rules v at) scanned) o) ∙ s1 in
      let w2 = w1 ∙ pass (ok v) bad walked o in
      let alive = live.1 v small o in
      elim (cases_rows (rules v at) scanned) [
        | inl good ↦
            elim (scan-fault (next v) (at + w) e (tidy.1 v) alive all room (sym (guards_pass (rules v at) scanned good) ∙ s2)) [
              | inl x ↦ inl (w2 ∙ x)
              | inr p ↦
                  inr (record {
                    fields = num w v ∷ p.fields;
                    holds = p.holds;
                    frame = (refl, small, o, p.frame);
                    row = among_right (false, e) (rules v at) (rows (next v) p.fields (at + w)) p.row;
                    shared = be w v ++ p.shared;
                    mine = p.mine;
                    theirs = p.theirs;
                    here = lay ∙ ap (λ x. be w v ++ x) p.here ∙ sym (append_assoc (be w v) p.shared p.mine);
                    there = ap (λ x. be w v ++ x) p.there ∙ sym (append_assoc (be w v) p.shared p.theirs);
                    long = omega (arith, length-append (be w v) p.shared, length-be w v, p.long);
                  })
            ]
        | inr x ↦
            let is : x.fault ≡ e = let q = sym x.answer ∙ s2 in cc in
            let m : Among (false, e) (rules v at) = subst (λ y. Among (false, y) (rules v at)) is x.row in
            let y = neatly l w at 0 (rules v at) false e (tidy.0 v at) m in
            let whole = completed (plain (next v)) alive in
            inr (record {
              fields = num w v ∷ whole.0;
              holds = whole.1.0;
              frame = (refl, small, o, whole.1.1);
              row = among-left (false, e) (rules v at) (rows (next v) whole.0 (at + w)) m;
              shared = be w v;
              mine = drop (at + w) bs;
              theirs = written whole.0;
              here = lay;
              there = refl;
              long = omega (arith, length-be w v, y.one, y.place);
            })
      ])
      (λ o. inl (w1 ∙ refuse (ok v) bad walked o ∙ sym (refuse (ok v) bad (guards (rules v at) scanned) o) ∙ s1)))
      (λ t. inl (refuse fits short (unless (ok v) bad walked) t ∙ sym (refuse fits short (unless (ok v) bad (guards (rules v at) scanned)) t) ∙ s))
  scan-fault (text n next) at e tidy live all h s =
      let v = part_at bs at n in
      let short = fault Malformed l (length bs) in
      let walked = walk l (plain (next v)) k bs (at + n) in
      let scanned = scan l (next v) k bs (at + n) in
      let fits = leb (at + n) (length bs) in
      by_bool fits
      (λ t.
      let room = leb-true (at + n) (length bs) t in
      let long = part_length bs at n room in
      let pure = bytes_part bs at n all in
      elim (scan-fault (next v) (at + n) e (tidy v) (live v long pure) all room (sym (pass fits short scanned t) ∙ s)) [
        | inl x ↦ inl (pass fits short walked t ∙ x)
        | inr p ↦
            inr (record {
              fields = str v ∷ p.fields;
              holds = p.holds;
              frame = (long, pure, p.frame);
              row = p.row;
              shared = v ++ p.shared;
              mine = p.mine;
              theirs = p.theirs;
              here = part_back bs at n ∙ ap (λ x. v ++ x) p.here ∙ sym (append_assoc v p.shared p.mine);
              there = ap (λ x. v ++ x) p.there ∙ sym (append_assoc v p.shared p.theirs);
              long = omega (arith, length-append v p.shared, long, p.long);
            })
      ])
      (λ t. inl (refuse fits short walked t ∙ sym (refuse fits short scanned t) ∙ s))
  scan-fault (end a) at e tidy live all h s = inl s
