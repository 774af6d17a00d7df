-- A kind of record: its format, and the marks of where such records stand. A run of marks is a walk over as many records.
use Rattle.std.proofs.Common.{◌≡◌, ℕ, zero, suc, ◌+◌, ◌≤◌, List, [], ◌∷◌, ◌++◌, map, length, drop, Ok, Err, Result, sym, refl, ap, ◌∙◌, subst, inl, inr, arith}
use Rattle.std.specs.List.{flat_map, AllByRecursion}
use Rattle.std.proofs.lemmas.List.{length-append}
use Rattle.fault.specs.declared.Fault.{Fault}
use Rattle.fault.specs.declared.Layer.{Layer}
use Rattle.octets.specs.Numbers.{Bytes}
use Rattle.record.specs.Chains.{and_then}
use Rattle.record.specs.Formats.{Format, done, ◌>>=◌, repeat, Field, written, walk}
use Rattle.record.specs.Rules.{spots}
use Rattle.record.specs.Runs.{Run, run, behind, spotted}
use Rattle.record.proofs.Steps.{never, same_ok, then_some}
use Rattle.record.proofs.Paths.{written-append}
use Rattle.record.proofs.Walks.{outcome}
use Rattle.record.proofs.Rules.{walk_then, walk_bind}
use Rattle.record.proofs.Codings.{Coding}

-- what is held, and the place behind it
abbrev pub both : {B : Type 0} → B → ℕ → Result (B × ℕ) Fault
both b e = Ok (b, e)

pub record Kind (B R : Type 0) : Type 1 where
  pub layer : Layer
  pub format : Format B
  pub fields : B → List Field
  pub In : B → Type 0
  pub coding : Coding format fields In
  pub mark : B → ℕ → ℕ → R
  pub ends : R → ℕ
  pub body : List ℕ → R → B
  pub stops : (bs : List ℕ) (at : ℕ) (b : B) (e : ℕ) → walk layer format both bs at ≡ Ok (b, e) → (ends (mark b at e) ≡ e) × (body bs (mark b at e) ≡ b)

module _ {B R : Type 0} (k : Kind B R) (bs : List ℕ) where
  abbrev pub stands : List ℕ → ℕ → Result R Fault
  stands cs at = walk k.layer k.format (λ b e. Ok (k.mark b at e)) cs at

  abbrev pub marked : ℕ → ℕ → Run R
  marked n at = run stands k.ends bs n at

  pub stands-is : (at : ℕ) → stands bs at ≡ and_then (walk k.layer k.format both bs at) (λ p. Ok (k.mark p.0 at p.1))
  stands-is at = walk_then k.layer bs (λ p. Ok (k.mark p.0 at p.1)) k.format both (λ b e. Ok (k.mark b at e)) at (λ b e. refl)

  module _ {C : Type 0} where
    behind_then : (m : R) (r : Run R) (h : List R × ℕ → Result C Fault) → and_then (behind (m ∷ []) r) h ≡ and_then r (λ p. h (m ∷ p.0, p.1))
    behind_then m (Ok p) h = refl
    behind_then m (Err f) h = refl

    pub run-walk : (n at : ℕ) (last : List B → ℕ → Result C Fault) → walk k.layer (repeat n k.format) last bs at ≡ and_then (marked n at) (λ p. last (map (k.body bs) p.0) p.1)
    run-walk zero at last = refl
    run-walk (suc n) at last =
        walk_bind k.layer bs k.format (λ x. repeat n k.format >>= (λ xs. done (x ∷ xs))) last at
        ∙ walk_then k.layer bs next k.format both (λ x e. next (x, e)) at (λ x e. refl)
        ∙ go (walk k.layer k.format both bs at) refl (λ b e. run-walk n e (λ xs j. last (b ∷ xs) j))
        ∙ ap (λ s. and_then (and_then s (λ r. behind (r ∷ []) (marked n (k.ends r)))) close) (sym (stands-is at))
      where
        next : B × ℕ → Result C Fault
        next p = walk k.layer (repeat n k.format >>= (λ xs. done (p.0 ∷ xs))) last bs p.1

        close : List R × ℕ → Result C Fault
        close p = last (map (k.body bs) p.0) p.1

        go : (s : Result (B × ℕ) Fault) → walk k.layer k.format both bs at ≡ s
            → ((b : B) (e : ℕ) → walk k.layer (repeat n k.format) (λ xs j. last (b ∷ xs) j) bs e ≡ and_then (marked n e) (λ p. last (b ∷ map (k.body bs) p.0) p.1))
            → and_then s next ≡ and_then (and_then (and_then s (λ p. Ok (k.mark p.0 at p.1))) (λ r. behind (r ∷ []) (marked n (k.ends r)))) close
        go (Ok (b, e)) q rec =
            let m = k.mark b at e in
            let t = k.stops bs at b e q in
            walk_bind k.layer bs (repeat n k.format) (λ xs. done (b ∷ xs)) last e
            ∙ rec b e
            ∙ (λ i. and_then (marked n (sym t.0 i)) (λ p. last (sym t.1 i ∷ map (k.body bs) p.0) p.1))
            ∙ sym (behind_then m (marked n (k.ends m)) close)
        go (Err f) q rec = refl

  -- what a walk over one record came over
  pub record Stood (at : ℕ) (b : B) (e : ℕ) : Type 0 where
    pub from : at ≤ length bs
    pub is : walk k.layer k.format both bs at ≡ Ok (b, e)
    pub to : e ≡ at + length (written (k.fields b))
    pub inside : e ≤ length bs
    pub range : k.In b
    pub bytes : drop at bs ≡ written (k.fields b) ++ drop e bs

  pub stood : Bytes bs → (at : ℕ) (b : B) (e : ℕ) → at ≤ length bs → walk k.layer k.format both bs at ≡ Ok (b, e) → Stood at b e
  stood all at b e h q =
      elim (outcome k.layer both bs all k.format at h) [
        | inl o ↦
            let z = same_ok (o.holds, at + length (written o.fields)) (b, e) (sym o.answer ∙ q) in
            let same : o.holds ≡ b = ap (λ p. p.0) z in
            let end : at + length (written o.fields) ≡ e = ap (λ p. p.1) z in
            let c = k.coding.of o.fields o.holds o.frame in
            let to : at + length (written (k.fields o.holds)) ≡ e = ap (λ fs. at + length (written fs)) (sym c.0) ∙ end in
            subst (λ x. Stood at x e) same
            (record {
              from = h;
              is = q ∙ ap (λ x. Ok (x, e)) (sym same);
              to = sym to;
              inside = omega (arith, o.inside, end);
              range = c.1;
              bytes = o.bytes ∙ (λ i. written (c.0 i) ++ drop (end i) bs);
            })
        | inr (inl o) ↦ never _ (b, e) (sym o.answer ∙ q)
        | inr (inr o) ↦ never _ (b, e) (sym o.answer ∙ q)
      ]

  -- what a run of marks is: nothing, or a mark and the run behind it
  pub record More (n at : ℕ) (p : List R × ℕ) : Type 0 where
    pub holds : B
    pub end : ℕ
    pub stood_there : Stood at holds end
    pub rest : List R × ℕ
    pub run_on : marked n end ≡ Ok rest
    pub is : (k.mark holds at end ∷ rest.0, rest.1) ≡ p

  pub one_more : Bytes bs → (n at : ℕ) (p : List R × ℕ) → at ≤ length bs → marked (suc n) at ≡ Ok p → More n at p
  one_more all n at p h e =
      let t = then_some (stands bs at) (λ r. behind (r ∷ []) (marked n (k.ends r))) p e in
      let u = then_some (walk k.layer k.format both bs at) (λ q. Ok (k.mark q.0 at q.1)) t.0 (sym (stands-is at) ∙ t.1) in
      let b = u.0.0 in
      let j = u.0.1 in
      let m = k.mark b at j in
      let same : m ≡ t.0 = same_ok m t.0 u.2 in
      let f = fronted t.0 (marked n (k.ends t.0)) p t.2 in
      let ends = ap k.ends (sym same) ∙ (k.stops bs at b j u.1).0 in
      record {
        holds = b;
        end = j;
        stood_there = stood all at b j h u.1;
        rest = f.0;
        run_on = ap (marked n) (sym ends) ∙ f.1;
        is = (λ i. (same i ∷ f.0.0, f.0.1)) ∙ f.2;
      }
    where
      fronted : (r : R) (w : Run R) (p : List R × ℕ) → behind (r ∷ []) w ≡ Ok p → (q : List R × ℕ) × (w ≡ Ok q) × ((r ∷ q.0, q.1) ≡ p)
      fronted r (Ok q) p e = (q, refl, same_ok _ _ e)
      fronted r (Err f) p e = never f p e

  -- the marks of a run are where their records begin, and behind them is where the fields end
  pub record Ran (number place : R → ℕ) (item : B → ℕ) (n at : ℕ) (p : List R × ℕ) : Type 0 where
    pub count : length p.0 ≡ n
    pub places : spotted number place p.0 ≡ spots item k.fields at (map (k.body bs) p.0)
    pub numbers : map number p.0 ≡ map item (map (k.body bs) p.0)
    pub to : p.1 ≡ at + length (written (flat_map k.fields (map (k.body bs) p.0)))
    pub inside : p.1 ≤ length bs
    pub range : AllByRecursion k.In (map (k.body bs) p.0)

  module _ (number place : R → ℕ) (item : B → ℕ) (here : (b : B) (at e : ℕ) → (number (k.mark b at e) ≡ item b) × (place (k.mark b at e) ≡ at)) (all : Bytes bs) where
    pub ran : (n at : ℕ) (p : List R × ℕ) → at ≤ length bs → marked n at ≡ Ok p → Ran number place item n at p
    ran zero at p h e =
        let z = same_ok ([], at) p e in
        subst (Ran number place item 0 at) z (record { count = refl; places = refl; numbers = refl; to = omega arith; inside = h; range = tt })
    ran (suc n) at p h e =
        let m = one_more all n at p h e in
        let s = m.stood_there in
        let t = k.stops bs at m.holds m.end s.is in
        let r = ran n m.end m.rest s.inside m.run_on in
        let x = here m.holds at m.end in
        let bodies = map (k.body bs) m.rest.0 in
        let tail = written (flat_map k.fields bodies) in
        let one = k.body bs (k.mark m.holds at m.end) in
        let first = sym t.1 in
        let long : at + length (written (k.fields one)) ≡ m.end = ap (λ b. at + length (written (k.fields b))) t.1 ∙ sym s.to in
        let longer : m.end + length tail ≡ at + length (written (k.fields one ++ flat_map k.fields bodies)) = omega (arith, long, ap length (written-append (k.fields one) (flat_map k.fields bodies)), length-append (written (k.fields one)) tail) in
        subst (Ran number place item (suc n) at) m.is
        (record {
          count = ap suc r.count;
          places = (λ i. record { number = (x.0 ∙ ap item first) i; place = x.1 i } ∷ r.places i) ∙ (λ i. record { number = item one; place = at } ∷ spots item k.fields (sym long i) bodies);
          numbers = (λ i. (x.0 ∙ ap item first) i ∷ r.numbers i);
          to = r.to ∙ longer;
          inside = r.inside;
          range = (subst k.In first s.range, r.range);
        })

  -- what holds of each mark where it stands holds of all marks of a run
  pub each : Bytes bs → (P : R → Type 0) → ((at : ℕ) (b : B) (e : ℕ) → Stood at b e → P (k.mark b at e)) → (n at : ℕ) (p : List R × ℕ) → at ≤ length bs → marked n at ≡ Ok p → AllByRecursion P p.0
  each all P c zero at p h e = subst (λ q. AllByRecursion P q.0) (same_ok ([], at) p e) tt
  each all P c (suc n) at p h e =
      let m = one_more all n at p h e in
      let s = m.stood_there in
      subst (λ q. AllByRecursion P q.0) m.is (c at m.holds m.end s, each all P c n m.end m.rest s.inside m.run_on)
