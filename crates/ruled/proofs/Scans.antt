-- Scans, field by field: along a frame in range, and beside a walk by rule 1 alone.
use Rattle.std.proofs.Common.{◌≡◌, ℕ, ◌+◌, ◌≤◌, Bool, true, leb, List, [], ◌∷◌, ◌++◌, length, take, drop, Ok, Result, sym, refl, ap, ◌∙◌, subst, arith}
use Rattle.std.proofs.lemmas.List.{append_assoc, length-append, length-drop, length-take-le, take-append-drop, drop-drop, drop_at, take_at}
use Rattle.std.proofs.lemmas.Bool.{le-leb}
use Rattle.fault.specs.declared.Fault.{Fault}
use Rattle.fault.specs.declared.Layer.{Layer}
use Rattle.fault.specs.declared.Cause.TheVariants.{Malformed}
use Rattle.fault.specs.Codes.{fault}
use Rattle.octets.specs.Numbers.{limit, be, number_at}
use Rattle.octets.specs.Parts.{part_at}
use Rattle.octets.proofs.NumberLaws.{length-be, number-found}
use Rattle.record.specs.Chains.{unless, and_then, guards}
use Rattle.record.specs.Formats.{number, string, ◌>>=◌, Field, num, str, written, Fields, walk}
use Rattle.record.proofs.Steps.{passed, pass}
use Rattle.record.proofs.Rules.{unless_then}
use Rattle.ruled.specs.Ruled.{Ruled, numeral, text, end, follow, plain, rows, scan}
use Rattle.ruled.proofs.Tables.{guards-append, guards_passed}

-- what lies at a place
pub record Lies (bs : List ℕ) (at w : ℕ) (s post : List ℕ) : Type 0 where
  pub room : at + w ≤ length bs
  pub part : part_at bs at w ≡ s
  pub behind : drop (at + w) bs ≡ post

pub lies : (bs s post : List ℕ) (at w : ℕ) → at ≤ length bs → length s ≡ w → drop at bs ≡ s ++ post → Lies bs at w s post
lies bs s post at w h e d =
    record {
      room = omega (arith, length-drop at bs, ap length d, length-append s post);
      part = ap (take w) d ∙ take_at s post w e;
      behind = sym (drop-drop w at bs) ∙ ap (drop w) d ∙ drop_at s post w e;
    }

pub number_lies : (bs post : List ℕ) (at w n : ℕ) → at ≤ length bs → n ≤ limit w → drop at bs ≡ be w n ++ post → number_at bs at w ≡ n
number_lies bs post at w n h fits d =
    let front = take at bs in
    let long : length front ≡ at = length-take-le at bs h in
    let whole : front ++ (be w n ++ post) ≡ bs = ap (λ x. front ++ x) (sym d) ∙ take-append-drop at bs in
    subst (λ j. number_at bs j w ≡ n) long (subst (λ x. number_at x (length front) w ≡ n) whole (number-found front post w n fits))

module _ {A B : Type 0} (l : Layer) (k : A → ℕ → Result B Fault) (bs : List ℕ) (at : ℕ) where
  pub numeral-step : (w n : ℕ) (ok : ℕ → Bool) (rules : ℕ → ℕ → List (Bool × Fault)) (next : ℕ → Ruled A) → at + w ≤ length bs → number_at bs at w ≡ n → ok n ≡ true
      → scan l (numeral w ok rules next) k bs at ≡ guards (rules n at) (scan l (next n) k bs (at + w))
  numeral-step w n ok rules next h e o =
      let t = le-leb (at + w) (length bs) h in
      (λ i. unless (t i) (fault Malformed l (length bs)) (unless (ok (e i)) (fault Malformed l at) (guards (rules (e i) at) (scan l (next (e i)) k bs (at + w)))))
      ∙ ap (λ b. unless b (fault Malformed l at) (guards (rules n at) (scan l (next n) k bs (at + w)))) o

  pub text-step : (n : ℕ) (s : List ℕ) (next : List ℕ → Ruled A) → at + n ≤ length bs → part_at bs at n ≡ s → scan l (text n next) k bs at ≡ scan l (next s) k bs (at + n)
  text-step n s next h e =
      let t = le-leb (at + n) (length bs) h in
      λ i. unless (t i) (fault Malformed l (length bs)) (scan l (next (e i)) k bs (at + n))

module _ {A B : Type 0} (l : Layer) (k : A → ℕ → Result B Fault) (bs : List ℕ) where
  -- a frame in range is judged by its rows
  pub scan-frame : (c : Ruled A) (fs : List Field) (a : A) (post : List ℕ) (at : ℕ) → at ≤ length bs → Fields (plain c) fs a → drop at bs ≡ written fs ++ post
      → scan l c k bs at ≡ guards (rows c fs at) (k a (at + length (written fs)))
  scan-frame (numeral w ok rules next) [] a post at h fr d = absurd fr
  scan-frame (numeral w ok rules next) (num v n ∷ fs) a post at h fr d =
      let there : drop at bs ≡ be w n ++ (written fs ++ post) = d ∙ append_assoc (be v n) (written fs) post ∙ ap (λ x. be x n ++ (written fs ++ post)) fr.0 in
      let y = lies bs (be w n) (written fs ++ post) at w h (length-be w n) there in
      let e : at + w + length (written fs) ≡ at + length (be v n ++ written fs) = omega (arith, length-append (be v n) (written fs), length-be v n, fr.0) in
      numeral-step l k bs at w n ok rules next y.room (number_lies bs (written fs ++ post) at w n h fr.1 there) fr.2
      ∙ ap (guards (rules n at)) (scan-frame (next n) fs a post (at + w) y.room fr.3 y.behind ∙ ap (λ j. guards (rows (next n) fs (at + w)) (k a j)) e)
      ∙ sym (guards-append (rules n at) (rows (next n) fs (at + w)) (k a (at + length (be v n ++ written fs))))
  scan-frame (numeral w ok rules next) (str s ∷ fs) a post at h fr d = absurd fr
  scan-frame (text n next) [] a post at h fr d = absurd fr
  scan-frame (text n next) (num v m ∷ fs) a post at h fr d = absurd fr
  scan-frame (text n next) (str s ∷ fs) a post at h fr d =
      let y = lies bs s (written fs ++ post) at n h fr.0 (d ∙ append_assoc s (written fs) post) in
      let e : at + n + length (written fs) ≡ at + length (s ++ written fs) = omega (arith, length-append s (written fs), fr.0) in
      text-step l k bs at n s next y.room y.part
      ∙ scan-frame (next s) fs a post (at + n) y.room fr.2 y.behind
      ∙ ap (λ j. guards (rows (next s) fs (at + n)) (k a j)) e
  scan-frame (end b) [] a post at h fr d = let e : at ≡ at + 0 = omega arith in λ i. k (fr i) (e i)
  scan-frame (end b) (f ∷ fs) a post at h fr d = absurd fr

  -- what passes all rules passes rule 1
  pub scan_walks : (c : Ruled A) (at : ℕ) (y : B) → scan l c k bs at ≡ Ok y → walk l (plain c) k bs at ≡ Ok y
  scan_walks (numeral w ok rules next) at y e =
      let v = number_at bs at w in
      let rest = scan l (next v) k bs (at + w) in
      let one = passed (leb (at + w) (length bs)) (fault Malformed l (length bs)) (unless (ok v) (fault Malformed l at) (guards (rules v at) rest)) y e in
      let two = passed (ok v) (fault Malformed l at) (guards (rules v at) rest) y one.1 in
      let three = guards_passed (rules v at) rest y two.1 in
      pass (leb (at + w) (length bs)) (fault Malformed l (length bs)) (unless (ok v) (fault Malformed l at) (walk l (plain (next v)) k bs (at + w))) one.0
      ∙ pass (ok v) (fault Malformed l at) (walk l (plain (next v)) k bs (at + w)) two.0
      ∙ scan_walks (next v) (at + w) y three.1
  scan_walks (text n next) at y e =
      let v = part_at bs at n in
      let one = passed (leb (at + n) (length bs)) (fault Malformed l (length bs)) (scan l (next v) k bs (at + n)) y e in
      pass (leb (at + n) (length bs)) (fault Malformed l (length bs)) (walk l (plain (next v)) k bs (at + n)) one.0
      ∙ scan_walks (next v) (at + n) y one.1
  scan_walks (end a) at y e = e

pub guards_then : {A B : Type 0} (rs : List (Bool × Fault)) (r : Result A Fault) (g : A → Result B Fault) → and_then (guards rs r) g ≡ guards rs (and_then r g)
guards_then [] r g = refl
guards_then (x ∷ rs) r g = unless_then x.0 x.1 (guards rs r) g ∙ ap (unless x.0 x.1) (guards_then rs r g)

module _ {A B C : Type 0} (l : Layer) (bs : List ℕ) (g : B → Result C Fault) where
  -- what comes of a scan comes of its end
  pub scan_then : (c : Ruled A) (k : A → ℕ → Result B Fault) (m : A → ℕ → Result C Fault) (at : ℕ) → ((a : A) (e : ℕ) → m a e ≡ and_then (k a e) g) → scan l c m bs at ≡ and_then (scan l c k bs at) g
  scan_then (numeral w ok rules next) k m at h =
      let v = number_at bs at w in
      let s = fault Malformed l (length bs) in
      let p = fault Malformed l at in
      let rest = scan l (next v) k bs (at + w) in
      ap (λ r. unless (leb (at + w) (length bs)) s (unless (ok v) p (guards (rules v at) r))) (scan_then (next v) k m (at + w) h)
      ∙ ap (λ r. unless (leb (at + w) (length bs)) s (unless (ok v) p r)) (sym (guards_then (rules v at) rest g))
      ∙ ap (unless (leb (at + w) (length bs)) s) (sym (unless_then (ok v) p (guards (rules v at) rest) g))
      ∙ sym (unless_then (leb (at + w) (length bs)) s (unless (ok v) p (guards (rules v at) rest)) g)
  scan_then (text n next) k m at h =
      let v = part_at bs at n in
      let s = fault Malformed l (length bs) in
      ap (unless (leb (at + n) (length bs)) s) (scan_then (next v) k m (at + n) h)
      ∙ sym (unless_then (leb (at + n) (length bs)) s (scan l (next v) k bs (at + n)) g)
  scan_then (end a) k m at h = h a at

-- a scan over one format behind another
pub scan-follow : {A B C : Type 0} (l : Layer) (bs : List ℕ) (c : Ruled A) (h : A → Ruled B) (k : B → ℕ → Result C Fault) (at : ℕ) → scan l (follow c h) k bs at ≡ scan l c (λ a e. scan l (h a) k bs e) bs at
scan-follow l bs (numeral w ok rules next) h k at =
    ap (λ r. unless (leb (at + w) (length bs)) (fault Malformed l (length bs)) (unless (ok (number_at bs at w)) (fault Malformed l at) (guards (rules (number_at bs at w) at) r)))
    (scan-follow l bs (next (number_at bs at w)) h k (at + w))
scan-follow l bs (text n next) h k at = ap (unless (leb (at + n) (length bs)) (fault Malformed l (length bs))) (scan-follow l bs (next (part_at bs at n)) h k (at + n))
scan-follow l bs (end a) h k at = refl

pub plain-follow : {A B : Type 0} (c : Ruled A) (h : A → Ruled B) → plain (follow c h) ≡ plain c >>= (λ a. plain (h a))
plain-follow (numeral w ok rules next) h = λ i. number w ok (λ n. plain-follow (next n) h i)
plain-follow (text n next) h = λ i. string n (λ s. plain-follow (next s) h i)
plain-follow (end a) h = refl

-- the rows of one format behind another
pub rows-follow : {A B : Type 0} (c : Ruled A) (h : A → Ruled B) (fs gs : List Field) (a : A) (at : ℕ) → Fields (plain c) fs a → rows (follow c h) (fs ++ gs) at ≡ rows c fs at ++ rows (h a) gs (at + length (written fs))
rows-follow (numeral w ok rules next) h [] gs a at fr = absurd fr
rows-follow (numeral w ok rules next) h (num v n ∷ fs) gs a at fr =
    let e : at + w + length (written fs) ≡ at + length (be v n ++ written fs) = omega (arith, length-append (be v n) (written fs), length-be v n, fr.0) in
    ap (λ x. rules n at ++ x) (rows-follow (next n) h fs gs a (at + w) fr.3 ∙ ap (λ j. rows (next n) fs (at + w) ++ rows (h a) gs j) e)
    ∙ sym (append_assoc (rules n at) (rows (next n) fs (at + w)) (rows (h a) gs (at + length (be v n ++ written fs))))
rows-follow (numeral w ok rules next) h (str s ∷ fs) gs a at fr = absurd fr
rows-follow (text n next) h [] gs a at fr = absurd fr
rows-follow (text n next) h (num v m ∷ fs) gs a at fr = absurd fr
rows-follow (text n next) h (str s ∷ fs) gs a at fr =
    let e : at + n + length (written fs) ≡ at + length (s ++ written fs) = omega (arith, length-append s (written fs), fr.0) in
    rows-follow (next s) h fs gs a (at + n) fr.2 ∙ ap (λ j. rows (next s) fs (at + n) ++ rows (h a) gs j) e
rows-follow (end b) h [] gs a at fr = let e : at ≡ at + 0 = omega arith in λ i. rows (h (fr i)) gs (e i)
rows-follow (end b) h (f ∷ fs) gs a at fr = absurd fr
