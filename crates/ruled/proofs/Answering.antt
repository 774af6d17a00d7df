-- What a scan answers is what the rules say, and they say one thing only.
use Rattle.std.proofs.Common.{◌≡◌, ℕ, ◌+◌, ◌≤◌, false, cond, eqb, leb, List, [], ◌++◌, length, take, drop, Ok, Err, Result, sym, refl, ap, ◌∙◌, subst, inl, inr, arith}
use Rattle.std.proofs.lemmas.List.{append-nil, length-append, length-take-le, take-append-drop, take_at}
use Rattle.std.proofs.lemmas.Bool.{le-leb}
use Rattle.fault.specs.declared.Cause.{Cause}
use Rattle.fault.specs.declared.Cause.TheVariants.{Malformed, NotRising, WrongTag, Unread, NotMember, NoRoom, WrongRange, Unmatched, Stale, NotOpen, BankFull, NotCommitted, Evicted, NoShareDue, Unsealed, Settled}
use Rattle.fault.specs.declared.Fault.{Fault}
use Rattle.fault.specs.declared.Layer.{Layer}
use Rattle.fault.specs.Codes.{fault, number}
use Rattle.octets.specs.Numbers.{Bytes}
use Rattle.record.specs.Formats.{written}
use Rattle.record.specs.Refusals.{InRange, Says}
use Rattle.record.proofs.Steps.{never, pass, refuse}
use Rattle.record.proofs.Paths.{Live}
use Rattle.record.proofs.Rule1.{says, only}
use Rattle.ruled.specs.Ruled.{Ruled, plain, rows, ending, scan_by}
use Rattle.ruled.specs.Standing.{Before, Alike, Broken, Stands, Kept, Answered}
use Rattle.ruled.proofs.Tables.{guards_pass, guards_passed}
use Rattle.ruled.proofs.Scans.{scan-frame, scan_walks}
use Rattle.ruled.proofs.Least.{Tidy, spoken, by_bool, Sooner, beside_walk}
use Rattle.ruled.proofs.Alike.{Partly, beside_frame, scan-fault}

-- a cause is known by its number
cause_of : ℕ → Cause
cause_of n =
    cond (eqb n 1) Malformed (cond (eqb n 2) NotRising (cond (eqb n 3) WrongTag (cond (eqb n 4) Unread
    (cond (eqb n 5) NotMember (cond (eqb n 6) NoRoom (cond (eqb n 7) WrongRange (cond (eqb n 8) Unmatched
    (cond (eqb n 9) Stale (cond (eqb n 10) NotOpen (cond (eqb n 11) BankFull (cond (eqb n 12) NotCommitted
    (cond (eqb n 13) Evicted (cond (eqb n 14) NoShareDue (cond (eqb n 15) Unsealed Settled))))))))))))))

cause_back : (c : Cause) → cause_of (number c) ≡ c
unfolding cause_of
cause_back Malformed = refl
cause_back NotRising = refl
cause_back WrongTag = refl
cause_back Unread = refl
cause_back NotMember = refl
cause_back NoRoom = refl
cause_back WrongRange = refl
cause_back Unmatched = refl
cause_back Stale = refl
cause_back NotOpen = refl
cause_back BankFull = refl
cause_back NotCommitted = refl
cause_back Evicted = refl
cause_back NoShareDue = refl
cause_back Unsealed = refl
cause_back Settled = refl

-- two faults of a layer of which none is behind the other are one
pub same-fault : (d e : Fault) → d.layer ≡ e.layer → Before d e → Before e d → d ≡ e
same-fault d e y (inl p) (inl q) = absurd (omega arith)
same-fault d e y (inl p) (inr q) = absurd (omega (arith, q.0))
same-fault d e y (inr p) (inl q) = absurd (omega (arith, p.0))
same-fault d e y (inr p) (inr q) =
    let n : number d.cause ≡ number e.cause = omega (arith, p.1, q.1) in
    let c = sym (cause_back d.cause) ∙ ap cause_of n ∙ cause_back e.cause in
    λ i. record { cause = c i; layer = y i; place = p.0 i }

-- strings that are alike, in parts
alike_from : (p : ℕ) (q mine theirs bs cs : List ℕ) → bs ≡ q ++ mine → cs ≡ q ++ theirs → length q ≡ p + 1 → Alike p bs cs
alike_from p q mine theirs bs cs b c e =
    record {
      there = omega (arith, ap length b, length-append q mine, e);
      same = ap (take (p + 1)) b ∙ take_at q mine (p + 1) e ∙ sym (ap (take (p + 1)) c ∙ take_at q theirs (p + 1) e);
    }

module _ {A : Type 0} (l : Layer) (c : Ruled A) (bs : List ℕ) where
  late : (a : A) (j : ℕ) (d : Fault) → j ≤ length bs → ending l bs a j ≡ Err d → j ≤ d.place
  late a j d h e =
      let t = leb (length bs) j in
      by_bool t
      (λ y. never d a (sym e ∙ pass t (fault Malformed l j) (Ok a) y))
      (λ y. let q : fault Malformed l j ≡ d = let z = sym (refuse t (fault Malformed l j) (Ok a) y) ∙ e in cc in subst (λ x. j ≤ x.place) q (omega arith))

  partly_from : (d : Fault) → Broken c bs d → Partly c bs 0 d
  partly_from d o =
      let n = d.place + 1 in
      let q = take n bs in
      let long : length q ≡ n = length-take-le n bs (omega (arith, o.alike.there)) in
      record {
        fields = o.fields;
        holds = o.holds;
        frame = o.frame;
        row = o.row;
        shared = q;
        mine = drop n bs;
        theirs = drop n (written o.fields);
        here = sym (take-append-drop n bs);
        there = sym (take-append-drop n (written o.fields)) ∙ ap (λ x. x ++ drop n (written o.fields)) (sym o.alike.same);
        long = omega (arith, long);
      }

  broken_from : (d : Fault) → Partly c bs 0 d → Broken c bs d
  broken_from d p =
      record {
        fields = p.fields;
        holds = p.holds;
        frame = p.frame;
        alike = alike_from d.place p.shared p.mine p.theirs bs (written p.fields) p.here p.there (omega (arith, p.long));
        row = p.row;
      }

  module _ (live : Live (plain c)) (tidy : Tidy l c) where
    start : 0 ≤ length bs
    start = omega arith

    -- a fault that stands is not before the scan's
    sooner : (d : Fault) → Stands l c bs d → Sooner l (ending l bs) bs late c 0 d
    sooner d (inl s) = beside_walk l (ending l bs) bs late c 0 d tidy start (sym (only l (plain c) bs (Err d) live s))
    sooner d (inr s) = beside_frame l (ending l bs) bs late c 0 d tidy start (partly_from d s)

    of_layer : (d : Fault) → Stands l c bs d → d.layer ≡ l
    of_layer d (inl s) = s.1
    of_layer d (inr s) = (spoken l c s.fields 0 false d tidy s.row).layer

    kept_read : (a : A) → Kept c bs a → scan_by l c bs ≡ Ok a
    kept_read a k =
        let fs = k.fields in
        let z : 0 + length (written fs) ≡ length bs = omega (arith, ap length k.bytes) in
        scan-frame l (ending l bs) bs c fs a [] 0 start k.frame (k.bytes ∙ sym (append-nil (written fs)))
        ∙ guards_pass (rows c fs 0) (ending l bs a (0 + length (written fs))) k.keeps
        ∙ pass (leb (length bs) (0 + length (written fs))) (fault Malformed l (0 + length (written fs))) (Ok a) (le-leb (length bs) (0 + length (written fs)) (omega (arith, z)))

    module _ (all : Bytes bs) where
      fault-stands : (e : Fault) → scan_by l c bs ≡ Err e → Stands l c bs e
      fault-stands e s =
          elim (scan-fault l (ending l bs) bs late c 0 e tidy live all start s) [
            | inl w ↦ inl (subst (Says l (plain c) bs) w (says l (plain c) bs live all))
            | inr p ↦ inr (broken_from e p)
          ]

      fault_least : (e d : Fault) → scan_by l c bs ≡ Err e → Stands l c bs d → Before e d
      fault_least e d s t =
          let y = sooner d t in
          let q : y.fault ≡ e = let z = sym y.answer ∙ s in cc in
          subst (λ x. Before x d) q y.before

      read_kept : (a : A) → scan_by l c bs ≡ Ok a → Kept c bs a
      read_kept a s =
          let o : InRange (plain c) bs a = subst (Says l (plain c) bs) (scan_walks l (ending l bs) bs c 0 a s) (says l (plain c) bs live all) in
          let fs = o.fields in
          let f = scan-frame l (ending l bs) bs c fs a [] 0 start o.fields_ok (o.bytes ∙ sym (append-nil (written fs))) in
          record { fields = fs; frame = o.fields_ok; bytes = o.bytes; keeps = (guards_passed (rows c fs 0) (ending l bs a (0 + length (written fs))) a (sym f ∙ s)).0 }

      pub answered : Answered l c bs (scan_by l c bs)
      answered = go (scan_by l c bs) refl
        where
          go : (r : Result A Fault) → scan_by l c bs ≡ r → Answered l c bs r
          go (Ok a) e = read_kept a e
          go (Err x) e = (fault-stands x e, λ d s. fault_least x d e s)

      pub answered-only : (r : Result A Fault) → Answered l c bs r → r ≡ scan_by l c bs
      answered-only (Ok a) k = sym (kept_read a k)
      answered-only (Err e) s =
          let y = sooner e s.0 in
          let mine = fault-stands y.fault y.answer in
          let same = same-fault e y.fault (of_layer e s.0 ∙ sym (of_layer y.fault mine)) (s.1 y.fault mine) y.before in
          ap Err same ∙ sym y.answer
