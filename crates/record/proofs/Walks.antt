-- A walk over bytes follows the fields that lie there.
use Rattle.std.proofs.Common.{◌≡◌, ℕ, ◌+◌, ◌<◌, ◌≤◌, Bool, true, false, ◌⊎◌, List, [], ◌∷◌, ◌++◌, length, take, drop, Err, Result, sym, refl, ap, ◌∙◌, subst, inl, inr, arith}
use Rattle.std.proofs.lemmas.List.{append_assoc, length-append, length-drop, length-take, length-take-le, take-append-drop, drop-drop, drop_at, take_at, get_or-drop, get_or-take, get_or_past}
use Rattle.std.proofs.lemmas.Bool.{le-leb, lt-leb, cases_lt}
use Rattle.fault.specs.declared.Fault.{Fault}
use Rattle.fault.specs.declared.Layer.{Layer}
use Rattle.fault.specs.declared.Cause.TheVariants.{Malformed}
use Rattle.fault.specs.Codes.{fault}
use Rattle.octets.specs.Numbers.{Bytes, limit, be, number_at}
use Rattle.octets.specs.Parts.{part_at}
use Rattle.octets.proofs.NumberLaws.{length-be, number-found, number-back, number-limit}
use Rattle.record.specs.Chains.{unless}
use Rattle.record.specs.Formats.{Format, number, string, done, Field, num, str, field_bytes, written, Fields, walk}
use Rattle.record.proofs.Paths.{Along, frame-along}

module _ {A B : Type 0} (l : Layer) (k : A → ℕ → Result B Fault) (bs : List ℕ) (at : ℕ) where
  pub number_step : (w n : ℕ) (ok : ℕ → Bool) (next : ℕ → Format A) → at + w ≤ length bs → number_at bs at w ≡ n → ok n ≡ true → walk l (number w ok next) k bs at ≡ walk l (next n) k bs (at + w)
  number_step w n ok next h e o =
      let t = le-leb (at + w) (length bs) h in
      (λ i. unless (t i) (fault Malformed l (length bs)) (unless (ok (e i)) (fault Malformed l at) (walk l (next (e i)) k bs (at + w))))
      ∙ ap (λ b. unless b (fault Malformed l at) (walk l (next n) k bs (at + w))) o

  pub number_bad : (w n : ℕ) (ok : ℕ → Bool) (next : ℕ → Format A) → at + w ≤ length bs → number_at bs at w ≡ n → ok n ≡ false → walk l (number w ok next) k bs at ≡ Err (fault Malformed l at)
  number_bad w n ok next h e o =
      let t = le-leb (at + w) (length bs) h in
      (λ i. unless (t i) (fault Malformed l (length bs)) (unless (ok (e i)) (fault Malformed l at) (walk l (next (e i)) k bs (at + w))))
      ∙ ap (λ b. unless b (fault Malformed l at) (walk l (next n) k bs (at + w))) o

  pub number_cut : (w : ℕ) (ok : ℕ → Bool) (next : ℕ → Format A) → length bs < at + w → walk l (number w ok next) k bs at ≡ Err (fault Malformed l (length bs))
  number_cut w ok next h = ap (λ b. unless b (fault Malformed l (length bs)) (unless (ok (number_at bs at w)) (fault Malformed l at) (walk l (next (number_at bs at w)) k bs (at + w)))) (lt-leb (at + w) (length bs) h)

  pub string-step : (n : ℕ) (s : List ℕ) (next : List ℕ → Format A) → at + n ≤ length bs → part_at bs at n ≡ s → walk l (string n next) k bs at ≡ walk l (next s) k bs (at + n)
  string-step n s next h e =
      let t = le-leb (at + n) (length bs) h in
      λ i. unless (t i) (fault Malformed l (length bs)) (walk l (next (e i)) k bs (at + n))

  pub string-cut : (n : ℕ) (next : List ℕ → Format A) → length bs < at + n → walk l (string n next) k bs at ≡ Err (fault Malformed l (length bs))
  string-cut n next h = ap (λ b. unless b (fault Malformed l (length bs)) (walk l (next (part_at bs at n)) k bs (at + n))) (lt-leb (at + n) (length bs) h)

-- a field's bytes, moved to what stands before
pub moved : (pre post b r : List ℕ) → (pre ++ b) ++ (r ++ post) ≡ pre ++ ((b ++ r) ++ post)
moved pre post b r = simp append_assoc

pub fronted : (pre post b r : List ℕ) → pre ++ (b ++ (r ++ post)) ≡ pre ++ ((b ++ r) ++ post)
fronted pre post b r = simp append_assoc

pub room : (pre post b r : List ℕ) → length pre + length b ≤ length (pre ++ ((b ++ r) ++ post))
room pre post b r = omega (arith, length-append pre ((b ++ r) ++ post), length-append (b ++ r) post, length-append b r)

pub part_there : (pre post s : List ℕ) (n : ℕ) → length s ≡ n → part_at (pre ++ (s ++ post)) (length pre) n ≡ s
part_there pre post s n e = ap (take n) (drop_at pre (s ++ post) (length pre) refl) ∙ take_at s post n e

module _ {A B : Type 0} (l : Layer) (k : A → ℕ → Result B Fault) where
  -- the step over one field, from the walk behind it
  behind : (g h : Format A) (pre post b r : List ℕ) (w : ℕ) → length b ≡ w
      → walk l g k ((pre ++ b) ++ (r ++ post)) (length (pre ++ b)) ≡ walk l h k ((pre ++ b) ++ (r ++ post)) (length (pre ++ b) + length r)
      → walk l g k (pre ++ ((b ++ r) ++ post)) (length pre + w) ≡ walk l h k (pre ++ ((b ++ r) ++ post)) (length pre + length (b ++ r))
  behind g h pre post b r w e rec =
      let m = moved pre post b r in
      let x : length (pre ++ b) ≡ length pre + w = length-append pre b ∙ ap (λ j. length pre + j) e in
      let y : length (pre ++ b) + length r ≡ length pre + length (b ++ r) = omega (arith, length-append pre b, length-append b r) in
      (λ i. walk l g k (sym m i) (sym x i)) ∙ rec ∙ (λ i. walk l h k (m i) (y i))

  pub walk-along : (f g : Format A) (pre post : List ℕ) (ds : List Field) → Along f ds g → walk l f k (pre ++ (written ds ++ post)) (length pre) ≡ walk l g k (pre ++ (written ds ++ post)) (length pre + length (written ds))
  walk-along (number w ok next) g pre post [] p = let z : length pre ≡ length pre + 0 = omega arith in λ i. walk l (p i) k (pre ++ post) (z i)
  walk-along (number w ok next) g pre post (num v n ∷ ds) p =
      let b = be v n in
      let r = written ds in
      let long = length-be v n in
      let fits = subst (λ x. n ≤ limit x) (sym p.0) p.1 in
      let here = subst (λ x. number_at x (length pre) v ≡ n) (fronted pre post b r) (number-found pre (r ++ post) v n fits) in
      let bs = pre ++ ((b ++ r) ++ post) in
      ap (λ x. walk l (number x ok next) k bs (length pre)) (sym p.0)
      ∙ number_step l k bs (length pre) v n ok next (omega (arith, room pre post b r, long)) here p.2
      ∙ behind (next n) g pre post b r v long (walk-along (next n) g (pre ++ b) post ds p.3)
  walk-along (number w ok next) g pre post (str bs ∷ ds) p = absurd p
  walk-along (string n next) g pre post [] p = let z : length pre ≡ length pre + 0 = omega arith in λ i. walk l (p i) k (pre ++ post) (z i)
  walk-along (string n next) g pre post (num v m ∷ ds) p = absurd p
  walk-along (string n next) g pre post (str s ∷ ds) p =
      let r = written ds in
      let bs = pre ++ ((s ++ r) ++ post) in
      let here = subst (λ x. part_at x (length pre) n ≡ s) (fronted pre post s r) (part_there pre (r ++ post) s n p.0) in
      string-step l k bs (length pre) n s next (omega (arith, room pre post s r, p.0)) here
      ∙ behind (next s) g pre post s r n p.0 (walk-along (next s) g (pre ++ s) post ds p.2)
  walk-along (done b) g pre post [] p = let z : length pre ≡ length pre + 0 = omega arith in λ i. walk l (p i) k (pre ++ post) (z i)
  walk-along (done b) g pre post (f ∷ ds) p = absurd p

  -- a frame in range is walked to its end
  pub walk-frame : (f : Format A) (pre post : List ℕ) (fs : List Field) (a : A) → Fields f fs a → walk l f k (pre ++ (written fs ++ post)) (length pre) ≡ k a (length pre + length (written fs))
  walk-frame f pre post fs a h = walk-along f (done a) pre post fs (frame-along f fs a h)

-- how wide the next field is
abbrev pub first : {A : Type 0} → Format A → ℕ
first (number w ok next) = w
first (string n next) = n
first (done a) = 0

-- how a walk ends: at the format's end, at a number that fails its test, or at the end of the bytes
pub record Held {A B : Type 0} (f : Format A) (k : A → ℕ → Result B Fault) (bs : List ℕ) (at : ℕ) (r : Result B Fault) : Type 0 where
  pub fields : List Field
  pub holds : A
  pub frame : Fields f fields holds
  pub bytes : drop at bs ≡ written fields ++ drop (at + length (written fields)) bs
  pub inside : at + length (written fields) ≤ length bs
  pub answer : r ≡ k holds (at + length (written fields))

pub record Bad {A B : Type 0} (l : Layer) (f : Format A) (bs : List ℕ) (at : ℕ) (r : Result B Fault) : Type 0 where
  pub before : List Field
  pub width : ℕ
  pub value : ℕ
  pub ok : ℕ → Bool
  pub next : ℕ → Format A
  pub along : Along f before (number width ok next)
  pub bytes : drop at bs ≡ written before ++ (be width value ++ drop (at + length (written before) + width) bs)
  pub fits : value ≤ limit width
  pub fails : ok value ≡ false
  pub answer : r ≡ Err (fault Malformed l (at + length (written before)))

pub record Cut {A B : Type 0} (l : Layer) (f : Format A) (bs : List ℕ) (at : ℕ) (r : Result B Fault) : Type 0 where
  pub before : List Field
  pub left : Format A
  pub along : Along f before left
  pub rest : List ℕ
  pub bytes : drop at bs ≡ written before ++ rest
  pub short : length rest < first left
  pub answer : r ≡ Err (fault Malformed l (length bs))

abbrev pub Outcome : {A B : Type 0} → Layer → Format A → (A → ℕ → Result B Fault) → List ℕ → ℕ → Result B Fault → Type 0
Outcome l f k bs at r = Held f k bs at r ⊎ (Bad l f bs at r ⊎ Cut l f bs at r)

pub bytes_part : (bs : List ℕ) (at n : ℕ) → Bytes bs → Bytes (part_at bs at n)
bytes_part bs at n all i =
    let short : length (take n (drop at bs)) ≤ n = rw length-take (omega arith) in
    elim (cases_lt i n) [
      | inl h ↦ subst (λ x. x < 256) (sym (get_or-take n (drop at bs) i 0 h ∙ get_or-drop at bs i 0)) (all (at + i))
      | inr h ↦ subst (λ x. x < 256) (sym (get_or_past (take n (drop at bs)) i 0 (omega arith))) (omega arith)
    ]

pub part_back : (bs : List ℕ) (at n : ℕ) → drop at bs ≡ part_at bs at n ++ drop (at + n) bs
part_back bs at n = sym (take-append-drop n (drop at bs)) ∙ ap (λ r. part_at bs at n ++ r) (drop-drop n at bs)

pub part_length : (bs : List ℕ) (at n : ℕ) → at + n ≤ length bs → length (part_at bs at n) ≡ n
part_length bs at n h = length-take-le n (drop at bs) (rw length-drop (omega arith))

module _ {A B : Type 0} (l : Layer) (k : A → ℕ → Result B Fault) (bs : List ℕ) (at w : ℕ) (x : Field) (wide : length (field_bytes x) ≡ w) (head : drop at bs ≡ field_bytes x ++ drop (at + w) bs) where
  -- fields behind one more
  more_bytes : (m : ℕ) (r s : List ℕ) → length r ≡ m → drop (at + w) bs ≡ r ++ s → drop at bs ≡ (field_bytes x ++ r) ++ s
  more_bytes m r s e h = head ∙ ap (λ q. field_bytes x ++ q) h ∙ sym (append_assoc (field_bytes x) r s)

  more-end : (r : List ℕ) → at + w + length r ≡ at + length (field_bytes x ++ r)
  more-end r = omega (arith, length-append (field_bytes x) r, wide)

  pub more : (f g : Format A) (r s : Result B Fault)
      → ((fs : List Field) (a : A) → Fields g fs a → Fields f (x ∷ fs) a)
      → ((ds : List Field) (h : Format A) → Along g ds h → Along f (x ∷ ds) h)
      → s ≡ r → Outcome l g k bs (at + w) r → Outcome l f k bs at s
  more f g r s fr al e (inl o) =
      let q = written o.fields in
      inl (record {
        fields = x ∷ o.fields;
        holds = o.holds;
        frame = fr o.fields o.holds o.frame;
        bytes = more_bytes _ q _ refl o.bytes ∙ ap (λ j. (field_bytes x ++ q) ++ drop j bs) (more-end q);
        inside = omega (arith, o.inside, more-end q);
        answer = e ∙ o.answer ∙ ap (k o.holds) (more-end q);
      })
  more f g r s fr al e (inr (inl o)) =
      let q = written o.before in
      inr (inl (record {
        before = x ∷ o.before;
        width = o.width;
        value = o.value;
        ok = o.ok;
        next = o.next;
        along = al o.before (number o.width o.ok o.next) o.along;
        bytes = more_bytes _ q _ refl o.bytes ∙ ap (λ j. (field_bytes x ++ q) ++ (be o.width o.value ++ drop (j + o.width) bs)) (more-end q);
        fits = o.fits;
        fails = o.fails;
        answer = e ∙ o.answer ∙ ap (λ j. Err (fault Malformed l j)) (more-end q);
      }))
  more f g r s fr al e (inr (inr o)) =
      inr (inr (record {
        before = x ∷ o.before;
        left = o.left;
        along = al o.before o.left o.along;
        rest = o.rest;
        bytes = more_bytes _ (written o.before) o.rest refl o.bytes;
        short = o.short;
        answer = e ∙ o.answer;
      }))

module _ {A B : Type 0} (l : Layer) (k : A → ℕ → Result B Fault) (bs : List ℕ) (all : Bytes bs) where
  at_number : (w at : ℕ) (ok : ℕ → Bool) (next : ℕ → Format A) (b : Bool) → at + w ≤ length bs → ok (number_at bs at w) ≡ b
      → (ok (number_at bs at w) ≡ true → Outcome l (next (number_at bs at w)) k bs (at + w) (walk l (next (number_at bs at w)) k bs (at + w)))
      → Outcome l (number w ok next) k bs at (walk l (number w ok next) k bs at)
  at_number w at ok next true h e rec =
      let v = number_at bs at w in
      let fits = number-limit bs at w all in
      more l k bs at w (num w v) (length-be w v) (number-back bs at w all h) (number w ok next) (next v) _ _
      (λ fs a q. (refl, fits, e, q))
      (λ ds g q. (refl, fits, e, q))
      (number_step l k bs at w v ok next h refl e) (rec e)
  at_number w at ok next false h e rec =
      let z : at ≡ at + 0 = omega arith in
      inr (inl (record {
        before = [];
        width = w;
        value = number_at bs at w;
        ok = ok;
        next = next;
        along = refl;
        bytes = number-back bs at w all h ∙ ap (λ j. be w (number_at bs at w) ++ drop (j + w) bs) z;
        fits = number-limit bs at w all;
        fails = e;
        answer = number_bad l k bs at w _ ok next h refl e ∙ ap (λ j. Err (fault Malformed l j)) z;
      }))

  pub outcome : (f : Format A) (at : ℕ) → at ≤ length bs → Outcome l f k bs at (walk l f k bs at)
  outcome (number w ok next) at h =
      elim (cases_lt (length bs) (at + w)) [
        | inl s ↦ inr (inr (record { before = []; left = number w ok next; along = refl; rest = drop at bs; bytes = refl; short = rw length-drop (omega arith); answer = number_cut l k bs at w ok next s }))
        | inr s ↦ at_number w at ok next _ s refl (λ e. outcome (next (number_at bs at w)) (at + w) s)
      ]
  outcome (string n next) at h =
      elim (cases_lt (length bs) (at + n)) [
        | inl s ↦ inr (inr (record { before = []; left = string n next; along = refl; rest = drop at bs; bytes = refl; short = rw length-drop (omega arith); answer = string-cut l k bs at n next s }))
        | inr s ↦
            let p = part_at bs at n in
            let long = part_length bs at n s in
            more l k bs at n (str p) long (part_back bs at n) (string n next) (next p) _ _
            (λ fs a q. (long, bytes_part bs at n all, q))
            (λ ds g q. (long, bytes_part bs at n all, q))
            (string-step l k bs at n p next s refl) (outcome (next p) (at + n) s)
      ]
  outcome (done a) at h =
      let z : at ≡ at + 0 = omega arith in
      inl (record { fields = []; holds = a; frame = refl; bytes = ap (λ j. drop j bs) z; inside = omega arith; answer = ap (k a) z })
