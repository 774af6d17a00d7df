-- Records that are to be written one behind the other: what the judge says of them, and the marks that a reader finds.
use Rattle.std.proofs.Common.{◌≡◌, ℕ, suc, ◌+◌, Bool, true, false, leb, List, [], ◌∷◌, ◌++◌, map, length, Ok, Err, Result, sym, refl, ap, ◌∙◌, subst, arith}
use Rattle.std.specs.List.{flat_map, AllByRecursion}
use Rattle.std.proofs.lemmas.List.{append_assoc, append-nil, length-append}
use Rattle.std.proofs.lemmas.Bool.{leb-true}
use Rattle.fault.specs.declared.Fault.{Fault}
use Rattle.fault.specs.declared.Layer.{Layer}
use Rattle.fault.specs.declared.Cause.TheVariants.{Malformed}
use Rattle.fault.specs.Codes.{fault}
use Rattle.octets.specs.Numbers.{limit, be}
use Rattle.octets.proofs.NumberLaws.{length-be}
use Rattle.record.specs.Chains.{unless, after, and_then}
use Rattle.record.specs.Formats.{Format, number, string, done, ◌>>=◌, repeat, Field, num, str, written}
use Rattle.record.specs.Rules.{spots}
use Rattle.record.specs.Runs.{Run, behind, spotted, planned_run}
use Rattle.record.specs.Writing.{judge}
use Rattle.record.proofs.Steps.{never, same_ok, then_some}
use Rattle.record.proofs.Paths.{written-append}
use Rattle.record.proofs.Rules.{after-unless}
use Rattle.record.proofs.Judging.{Exact}
use Rattle.record.proofs.Marking.{Kind}

-- rule 1 on fields by themselves
abbrev pub verdict : {A : Type 0} → Layer → Format A → List Field → ℕ → Result (Unit {0}) Fault
verdict l f fs at = judge l f (λ a gs e. Ok tt) fs at

under_tests : {A : Type 0} (b c : Bool) (f g : Fault) (x y : Result A Fault) → (b ≡ true → c ≡ true → x ≡ y) → unless b f (unless c g x) ≡ unless b f (unless c g y)
under_tests true true f g x y h = h refl refl
under_tests true false f g x y h = refl
under_tests false c f g x y h = refl

module _ {A B : Type 0} (l : Layer) (k : A → List Field → ℕ → Result B Fault) where
  through_tests : (b c : Bool) (f g : Fault) (x : Result B Fault) (v : Result (Unit {0}) Fault) (y : Result B Fault) → (b ≡ true → c ≡ true → x ≡ after v y) → unless b f (unless c g x) ≡ after (unless b f (unless c g v)) y
  through_tests b c f g x v y h =
      under_tests b c f g x (after v y) h
      ∙ ap (unless b f) (sym (after-unless c g v y))
      ∙ sym (after-unless b f (unless c g v) y)

  -- fields of a record, and then others: the verdict on the first, and what comes behind them
  pub judge_exact : (f : Format A) (fs gs : List Field) (b : A) (at : ℕ) → Exact f fs b → judge l f k (fs ++ gs) at ≡ after (verdict l f fs at) (k b gs (at + length (written fs)))
  judge_exact (number w ok next) [] gs b at x = absurd x
  judge_exact (number w ok next) (num v n ∷ fs) gs b at x =
      let e : at + w + length (written fs) ≡ at + length (be v n ++ written fs) = omega (arith, length-append (be v n) (written fs), length-be v n, x.0) in
      let f = fault Malformed l at in
      through_tests (leb n (limit w)) (ok n) f f (judge l (next n) k (fs ++ gs) (at + w)) (verdict l (next n) fs (at + w)) (k b gs (at + length (be v n ++ written fs)))
      (λ p q. judge_exact (next n) fs gs b (at + w) (x.1 (leb-true n (limit w) p) q) ∙ ap (λ j. after (verdict l (next n) fs (at + w)) (k b gs j)) e)
  judge_exact (number w ok next) (str s ∷ fs) gs b at x = absurd x
  judge_exact (string n next) [] gs b at x = absurd x
  judge_exact (string n next) (num v m ∷ fs) gs b at x = absurd x
  judge_exact (string n next) (str s ∷ fs) gs b at x =
      let e : at + n + length (written fs) ≡ at + length (s ++ written fs) = omega (arith, length-append s (written fs), x.0) in
      through_tests (leb n (length s)) (leb (length s) n) (fault Malformed l (at + length s)) (fault Malformed l (at + n)) (judge l (next s) k (fs ++ gs) (at + n)) (verdict l (next s) fs (at + n)) (k b gs (at + length (s ++ written fs)))
      (λ p q. judge_exact (next s) fs gs b (at + n) x.1 ∙ ap (λ j. after (verdict l (next s) fs (at + n)) (k b gs j)) e)
  judge_exact (done a) [] gs b at x = let e : at ≡ at + 0 = omega arith in λ i. k (x i) gs (e i)
  judge_exact (done a) (f ∷ fs) gs b at x = absurd x

pub judge_bind : {A B C : Type 0} (l : Layer) (f : Format A) (h : A → Format B) (k : B → List Field → ℕ → Result C Fault) (fs : List Field) (at : ℕ) → judge l (f >>= h) k fs at ≡ judge l f (λ a gs e. judge l (h a) k gs e) fs at
judge_bind l (number w ok next) h k [] at = refl
judge_bind l (number w ok next) h k (num v n ∷ fs) at = ap (λ r. unless (leb n (limit w)) (fault Malformed l at) (unless (ok n) (fault Malformed l at) r)) (judge_bind l (next n) h k fs (at + w))
judge_bind l (number w ok next) h k (str s ∷ fs) at = refl
judge_bind l (string n next) h k [] at = refl
judge_bind l (string n next) h k (num v m ∷ fs) at = refl
judge_bind l (string n next) h k (str s ∷ fs) at = ap (λ r. unless (leb n (length s)) (fault Malformed l (at + length s)) (unless (leb (length s) n) (fault Malformed l (at + n)) r)) (judge_bind l (next s) h k fs (at + n))
judge_bind l (done a) h k fs at = refl

module _ {B R P : Type 0} (k : Kind B R) (of : P → B) (exact : (p : P) → Exact k.format (k.fields (of p)) (of p))
    (ends_at : (p : P) (at : ℕ) → k.ends (k.mark (of p) at (at + length (written (k.fields (of p))))) ≡ at + length (written (k.fields (of p)))) where
  -- the mark of a record where it is to be written, or what is refused there
  abbrev pub judged_part : P → ℕ → Result R Fault
  judged_part p at = judge k.layer k.format (λ b gs e. Ok (k.mark b at e)) (k.fields (of p)) at

  abbrev pub plan : List P → ℕ → Run R
  plan ps at = planned_run judged_part k.ends ps at

  abbrev behind_it : P → ℕ → ℕ
  behind_it p at = at + length (written (k.fields (of p)))

  part_is : (p : P) (at : ℕ) → judged_part p at ≡ after (verdict k.layer k.format (k.fields (of p)) at) (Ok (k.mark (of p) at (behind_it p at)))
  part_is p at = ap (λ fs. judge k.layer k.format (λ b gs e. Ok (k.mark b at e)) fs at) (sym (append-nil (k.fields (of p)))) ∙ judge_exact k.layer (λ b gs e. Ok (k.mark b at e)) k.format (k.fields (of p)) [] (of p) at (exact p)

  pub plan_judge : {C : Type 0} (ps : List P) (gs : List Field) (at : ℕ) (m : List B → List Field → ℕ → Result C Fault) → judge k.layer (repeat (length ps) k.format) m (flat_map k.fields (map of ps) ++ gs) at ≡ and_then (plan ps at) (λ q. m (map of ps) gs q.1)
  plan_judge [] gs at m = refl
  plan_judge {C} (p ∷ ps) gs at m =
      let b = of p in
      let n = length ps in
      let rest = flat_map k.fields (map of ps) ++ gs in
      let next : B → Format (List B) = λ x. repeat n k.format >>= (λ xs. done (x ∷ xs)) in
      ap (λ fs. judge k.layer (repeat (suc n) k.format) m fs at) (append_assoc (k.fields b) (flat_map k.fields (map of ps)) gs)
      ∙ judge_bind k.layer k.format next m (k.fields b ++ rest) at
      ∙ judge_exact k.layer (λ x hs e. judge k.layer (next x) m hs e) k.format (k.fields b) rest b at (exact p)
      ∙ ap (after (verdict k.layer k.format (k.fields b) at)) (judge_bind k.layer (repeat n k.format) (λ xs. done (b ∷ xs)) m rest (behind_it p at) ∙ plan_judge ps gs (behind_it p at) (λ xs hs e. m (b ∷ xs) hs e))
      ∙ go (verdict k.layer k.format (k.fields b) at)
      ∙ ap (λ s. and_then (and_then s (λ r. behind (r ∷ []) (plan ps (k.ends r)))) close) (sym (part_is p at))
    where
      close : List R × ℕ → Result C Fault
      close q = m (of p ∷ map of ps) gs q.1

      push : (r : R) (w : Run R) → and_then w close ≡ and_then (behind (r ∷ []) w) close
      push r (Ok q) = refl
      push r (Err f) = refl

      go : (v : Result (Unit {0}) Fault) → after v (and_then (plan ps (behind_it p at)) close) ≡ and_then (and_then (after v (Ok (k.mark (of p) at (behind_it p at)))) (λ r. behind (r ∷ []) (plan ps (k.ends r)))) close
      go (Ok u) = ap (λ j. and_then (plan ps j) close) (sym (ends_at p at)) ∙ push (k.mark (of p) at (behind_it p at)) (plan ps (k.ends (k.mark (of p) at (behind_it p at))))
      go (Err f) = refl

  -- the marks of a plan are where the records will begin
  pub record Planned (number place : R → ℕ) (item : B → ℕ) (ps : List P) (at : ℕ) (q : List R × ℕ) : Type 0 where
    pub count : length q.0 ≡ length ps
    pub places : spotted number place q.0 ≡ spots item k.fields at (map of ps)
    pub numbers : map number q.0 ≡ map item (map of ps)
    pub to : q.1 ≡ at + length (written (flat_map k.fields (map of ps)))

  module _ (number place : R → ℕ) (item : B → ℕ) (here : (b : B) (at e : ℕ) → (number (k.mark b at e) ≡ item b) × (place (k.mark b at e) ≡ at)) where
    pub planned_well : (ps : List P) (at : ℕ) (q : List R × ℕ) → plan ps at ≡ Ok q → Planned number place item ps at q
    planned_well [] at q e = subst (Planned number place item [] at) (same_ok ([], at) q e) (record { count = refl; places = refl; numbers = refl; to = omega arith })
    planned_well (p ∷ ps) at q e =
        let t = then_some (judged_part p at) (λ r. behind (r ∷ []) (plan ps (k.ends r))) q e in
        let m = k.mark (of p) at (behind_it p at) in
        let same : m ≡ t.0 = mark-is (verdict k.layer k.format (k.fields (of p)) at) m t.0 (sym (part_is p at) ∙ t.1) in
        let f = fronted t.0 (plan ps (k.ends t.0)) q t.2 in
        let j = behind_it p at in
        let on : plan ps j ≡ Ok f.0 = ap (plan ps) (sym (ap k.ends (sym same) ∙ ends_at p at)) ∙ f.1 in
        let r = planned_well ps j f.0 on in
        let x = here (of p) at j in
        let tail = flat_map k.fields (map of ps) in
        let longer : j + length (written tail) ≡ at + length (written (k.fields (of p) ++ tail)) = omega (arith, ap length (written-append (k.fields (of p)) tail), length-append (written (k.fields (of p))) (written tail)) in
        subst (Planned number place item (p ∷ ps) at) ((λ i. (same i ∷ f.0.0, f.0.1)) ∙ f.2)
        (record {
          count = ap suc r.count;
          places = λ i. record { number = x.0 i; place = x.1 i } ∷ r.places i;
          numbers = λ i. x.0 i ∷ r.numbers i;
          to = r.to ∙ longer;
        })
      where
        mark-is : (v : Result (Unit {0}) Fault) (m r : R) → after v (Ok m) ≡ Ok r → m ≡ r
        mark-is (Ok u) m r h = same_ok m r h
        mark-is (Err f) m r h = never f r h

        fronted : (r : R) (w : Run R) (q : List R × ℕ) → behind (r ∷ []) w ≡ Ok q → (s : List R × ℕ) × (w ≡ Ok s) × ((r ∷ s.0, s.1) ≡ q)
        fronted r (Ok s) q h = (s, refl, same_ok _ _ h)
        fronted r (Err f) q h = never f q h

  -- what holds of each record that passed
  pub planned-each : (Q : P → Type 0) → ((p : P) (at : ℕ) (r : R) → judged_part p at ≡ Ok r → Q p) → (ps : List P) (at : ℕ) (q : List R × ℕ) → plan ps at ≡ Ok q → AllByRecursion Q ps
  planned-each Q c [] at q e = tt
  planned-each Q c (p ∷ ps) at q e =
      let t = then_some (judged_part p at) (λ r. behind (r ∷ []) (plan ps (k.ends r))) q e in
      let f = front_some t.0 (plan ps (k.ends t.0)) q t.2 in
      (c p at t.0 t.1, planned-each Q c ps (k.ends t.0) f.0 f.1)
    where
      front_some : (r : R) (w : Run R) (q : List R × ℕ) → behind (r ∷ []) w ≡ Ok q → (s : List R × ℕ) × (w ≡ Ok s)
      front_some r (Ok s) q h = (s, refl)
      front_some r (Err f) q h = never f q h

-- the bytes of records one behind the other
pub joined-written : {B P : Type 0} (fields : B → List Field) (of : P → B) (bytes : P → List ℕ) → ((p : P) → written (fields (of p)) ≡ bytes p) → (ps : List P) → written (flat_map fields (map of ps)) ≡ flat_map bytes ps
joined-written fields of bytes same [] = refl
joined-written fields of bytes same (p ∷ ps) = written-append (fields (of p)) (flat_map fields (map of ps)) ∙ (λ i. same p i ++ joined-written fields of bytes same ps i)
