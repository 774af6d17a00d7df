-- A scan answers the fault at the least place.
use Rattle.std.proofs.Common.{◌≡◌, ℕ, ◌+◌, ◌≤◌, Bool, true, false, leb, List, [], ◌∷◌, length, Err, Result, sym, refl, ap, ◌∙◌, subst, inl, inr, arith}
use Rattle.std.proofs.lemmas.Bool.{leb-true}
use Rattle.fault.specs.declared.Fault.{Fault}
use Rattle.fault.specs.declared.Layer.{Layer}
use Rattle.fault.specs.declared.Cause.TheVariants.{Malformed}
use Rattle.fault.specs.Codes.{fault}
use Rattle.octets.specs.Numbers.{number_at}
use Rattle.octets.specs.Parts.{part_at}
use Rattle.record.specs.Chains.{unless, guards}
use Rattle.record.specs.Formats.{Format, number, string, done, Field, num, str, walk}
use Rattle.record.proofs.Steps.{pass, refuse}
use Rattle.ruled.specs.Ruled.{Ruled, numeral, text, end, follow, plain, rows, scan}
use Rattle.ruled.specs.Standing.{Among, Before}
use Rattle.ruled.proofs.Tables.{Neat, neatly, among_cases, cases_rows, guards_pass}

-- the rows on each number are neat
abbrev pub Tidy : {A : Type 0} → Layer → Ruled A → Type 0
Tidy l (numeral w ok rules next) = ((n at : ℕ) → Neat l w at 0 (rules n at)) × ((n : ℕ) → Tidy l (next n))
Tidy l (text n next) = (s : List ℕ) → Tidy l (next s)
Tidy l (end a) = Unit {0}

pub tidy_follow : {A B : Type 0} (l : Layer) (c : Ruled A) (h : A → Ruled B) → Tidy l c → ((a : A) → Tidy l (h a)) → Tidy l (follow c h)
tidy_follow l (numeral w ok rules next) h t u = (t.0, λ n. tidy_follow l (next n) h (t.1 n) u)
tidy_follow l (text n next) h t u = λ s. tidy_follow l (next s) h (t s) u
tidy_follow l (end a) h t u = u a

-- rows speak of places from their first field on
pub record Spoken (l : Layer) (at : ℕ) (e : Fault) : Type 0 where
  pub past : at ≤ e.place
  pub layer : e.layer ≡ l

pub spoken : {A : Type 0} (l : Layer) (c : Ruled A) (fs : List Field) (at : ℕ) (b : Bool) (e : Fault) → Tidy l c → Among (b, e) (rows c fs at) → Spoken l at e
spoken l (numeral w ok rules next) [] at b e t m = absurd m
spoken l (numeral w ok rules next) (num v n ∷ fs) at b e t m =
    elim (among_cases (b, e) (rules n at) (rows (next n) fs (at + w)) m) [
      | inl here ↦ let y = neatly l w at 0 (rules n at) b e (t.0 n at) here in record { past = omega (arith, y.place); layer = y.layer }
      | inr rest ↦ let y = spoken l (next n) fs (at + w) b e (t.1 n) rest in record { past = omega (arith, y.past); layer = y.layer }
    ]
spoken l (numeral w ok rules next) (str s ∷ fs) at b e t m = absurd m
spoken l (text n next) [] at b e t m = absurd m
spoken l (text n next) (num v k ∷ fs) at b e t m = absurd m
spoken l (text n next) (str s ∷ fs) at b e t m = let y = spoken l (next s) fs (at + n) b e (t s) m in record { past = omega (arith, y.past); layer = y.layer }
spoken l (end a) fs at b e t m = absurd m

err_same : {B : Type 0} (e d : Fault) → ◌≡◌ {A = Result B Fault} (Err e) (Err d) → e ≡ d
err_same e d h = cc

pub by_bool : {P : Type 0} (b : Bool) → (b ≡ true → P) → (b ≡ false → P) → P
by_bool true t f = t refl
by_bool false t f = f refl

module _ {A B : Type 0} (l : Layer) (k : A → ℕ → Result B Fault) (bs : List ℕ) (late : (a : A) (j : ℕ) (d : Fault) → j ≤ length bs → k a j ≡ Err d → j ≤ d.place) where
  -- rule 1 refuses no place that it has passed
  pub walk_past : (f : Format A) (at : ℕ) (d : Fault) → at ≤ length bs → walk l f k bs at ≡ Err d → at ≤ d.place
  walk_past (number w ok next) at d h e =
      let v = number_at bs at w in
      let rest = walk l (next v) k bs (at + w) in
      let tests = unless (ok v) (fault Malformed l at) rest in
      by_bool (leb (at + w) (length bs))
      (λ t.
      let e1 = sym (pass (leb (at + w) (length bs)) (fault Malformed l (length bs)) tests t) ∙ e in
      by_bool (ok v)
      (λ o. let r = walk_past (next v) (at + w) d (leb-true (at + w) (length bs) t) (sym (pass (ok v) (fault Malformed l at) rest o) ∙ e1) in omega (arith, r))
      (λ o. let q = err_same (fault Malformed l at) d (sym (refuse (ok v) (fault Malformed l at) rest o) ∙ e1) in subst (λ x. at ≤ x.place) q (omega arith)))
      (λ t. let q = err_same (fault Malformed l (length bs)) d (sym (refuse (leb (at + w) (length bs)) (fault Malformed l (length bs)) tests t) ∙ e) in subst (λ x. at ≤ x.place) q h)
  walk_past (string n next) at d h e =
      let v = part_at bs at n in
      let rest = walk l (next v) k bs (at + n) in
      by_bool (leb (at + n) (length bs))
      (λ t.
      let r = walk_past (next v) (at + n) d (leb-true (at + n) (length bs) t) (sym (pass (leb (at + n) (length bs)) (fault Malformed l (length bs)) rest t) ∙ e) in
      omega (arith, r))
      (λ t. let q = err_same (fault Malformed l (length bs)) d (sym (refuse (leb (at + n) (length bs)) (fault Malformed l (length bs)) rest t) ∙ e) in subst (λ x. at ≤ x.place) q h)
  walk_past (done a) at d h e = late a at d h e

  -- a scan's fault that is not behind a given one
  pub record Sooner (c : Ruled A) (at : ℕ) (d : Fault) : Type 0 where
    pub fault : Fault
    pub answer : scan l c k bs at ≡ Err fault
    pub before : Before fault d

  -- where rule 1 refuses, a scan does so there or before
  pub beside_walk : (c : Ruled A) (at : ℕ) (d : Fault) → Tidy l c → at ≤ length bs → walk l (plain c) k bs at ≡ Err d → Sooner c at d
  beside_walk (numeral w ok rules next) at d tidy h e =
      let v = number_at bs at w in
      let short = fault Malformed l (length bs) in
      let bad = fault Malformed l at in
      let walked = walk l (plain (next v)) k bs (at + w) in
      let scanned = scan l (next v) k bs (at + w) in
      let fits = leb (at + w) (length bs) in
      by_bool fits
      (λ t.
      let room = leb-true (at + w) (length bs) t in
      let e1 = sym (pass fits short (unless (ok v) bad walked) t) ∙ e in
      let s1 = pass fits short (unless (ok v) bad (guards (rules v at) scanned)) t in
      by_bool (ok v)
      (λ o.
      let e2 = sym (pass (ok v) bad walked o) ∙ e1 in
      let s2 = s1 ∙ pass (ok v) bad (guards (rules v at) scanned) o in
      elim (cases_rows (rules v at) scanned) [
        | inl all ↦
            let r = beside_walk (next v) (at + w) d (tidy.1 v) room e2 in
            record { fault = r.fault; answer = s2 ∙ guards_pass (rules v at) scanned all ∙ r.answer; before = r.before }
        | inr x ↦
            let y = neatly l w at 0 (rules v at) false x.fault (tidy.0 v at) x.row in
            let far = walk_past (plain (next v)) (at + w) d room e2 in
            record { fault = x.fault; answer = s2 ∙ x.answer; before = inl (omega (arith, y.place, y.one, far)) }
      ])
      (λ o.
      let q = err_same bad d (sym (refuse (ok v) bad walked o) ∙ e1) in
      record { fault = d; answer = s1 ∙ refuse (ok v) bad (guards (rules v at) scanned) o ∙ ap Err q; before = inr (refl, omega arith) }))
      (λ t.
      let q = err_same short d (sym (refuse fits short (unless (ok v) bad walked) t) ∙ e) in
      record { fault = d; answer = refuse fits short (unless (ok v) bad (guards (rules v at) scanned)) t ∙ ap Err q; before = inr (refl, omega arith) })
  beside_walk (text n next) at d tidy h e =
      let v = part_at bs at n in
      let short = fault Malformed l (length bs) in
      let walked = walk l (plain (next v)) k bs (at + n) in
      let scanned = scan l (next v) k bs (at + n) in
      let fits = leb (at + n) (length bs) in
      by_bool fits
      (λ t.
      let r = beside_walk (next v) (at + n) d (tidy v) (leb-true (at + n) (length bs) t) (sym (pass fits short walked t) ∙ e) in
      record { fault = r.fault; answer = pass fits short scanned t ∙ r.answer; before = r.before })
      (λ t.
      let q = err_same short d (sym (refuse fits short walked t) ∙ e) in
      record { fault = d; answer = refuse fits short scanned t ∙ ap Err q; before = inr (refl, omega arith) })
  beside_walk (end a) at d tidy h e = record { fault = d; answer = e; before = inr (refl, omega arith) }
