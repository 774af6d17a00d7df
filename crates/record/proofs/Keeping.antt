-- The promises of readers and writers, kept for every coding of records as fields.
use Rattle.std.proofs.Common.{◌≡◌, ℕ, ◌+◌, ◌≤◌, Bool, leb, List, [], ◌∷◌, ◌++◌, length, take, drop, Ok, Result, sym, refl, ap, ◌∙◌, subst, inl, inr, arith}
use Rattle.std.proofs.lemmas.List.{append-nil, take_at}
use Rattle.std.proofs.lemmas.Bool.{le-leb, leb-true}
use Rattle.fault.specs.declared.Fault.{Fault}
use Rattle.fault.specs.declared.Layer.{Layer}
use Rattle.fault.specs.declared.Layer.TheVariants.{Frame}
use Rattle.fault.specs.declared.Cause.TheVariants.{Malformed, NoRoom}
use Rattle.fault.specs.Codes.{fault}
use Rattle.octets.specs.Numbers.{Bytes}
use Rattle.record.specs.Chains.{unless, after, and_then, guards}
use Rattle.record.specs.Formats.{Format, Field, written, Fields, walk, closing, read_by}
use Rattle.record.specs.Refusals.{Judged}
use Rattle.record.specs.Writing.{judge, room_for, write_by, filled, Fitting}
use Rattle.record.specs.Promises.{Reads, Writes}
use Rattle.record.proofs.Steps.{never, passed, pass, same_ok}
use Rattle.record.proofs.Paths.{Live}
use Rattle.record.proofs.Walks.{walk-frame}
use Rattle.record.proofs.Rules.{judged, judged-only, guards_ok, guards-after, after_then, walk_then}
use Rattle.record.proofs.Codings.{Coding}
use Rattle.record.proofs.Judging.{Exact, Strings, strings, judged-frame, same_place}

-- rows that an answer came through let every answer through
pub through : {A B : Type 0} (rows : List (Bool × Fault)) (r : Result A Fault) (y : A) (s : Result B Fault) → guards rows r ≡ Ok y → (r ≡ Ok y) × (guards rows s ≡ s)
through [] r y s e = (e, refl)
through (row ∷ rows) r y s e =
    let p = passed row.0 row.1 (guards rows r) y e in
    let q = through rows r y s p.1 in
    (q.0, pass row.0 row.1 (guards rows s) p.0 ∙ q.1)

module _ {A : Type 0} (l : Layer) (f : Format A) (rules : A → List (Bool × Fault)) (fields : A → List Field) (In : A → Type 0) (c : Coding f fields In) where
  accepted-from : (bs : List ℕ) (r : Result A Fault) (a : A) → Judged l f rules bs r → r ≡ Ok a → In a × (guards (rules a) (Ok a) ≡ Ok a) × (bs ≡ written (fields a))
  accepted-from bs r a (inl h) e = never h.0 a (sym h.1 ∙ e)
  accepted-from bs r a (inr h) e =
      let keeps = sym h.2 ∙ e in
      let same = guards_ok (rules h.0) h.0 a keeps in
      let o = h.1 in
      let q = c.of o.fields h.0 o.fields_ok in
      subst (λ x. In x × (guards (rules x) (Ok x) ≡ Ok x) × (bs ≡ written (fields x))) same
      (q.1, keeps ∙ ap Ok (sym same), o.bytes ∙ ap written q.0)

  pub reading : (bs : List ℕ) → Live f → Bytes bs → Reads l f rules fields In bs (read_by l f rules bs)
  reading bs live all =
      record {
        judged = judged l f rules bs live all;
        only = λ s h. judged-only l f rules bs s live h;
        accepted = λ a e. accepted-from bs (read_by l f rules bs) a (judged l f rules bs live all) e;
        accepts = λ a h keeps e.
            sym (sym keeps ∙ judged-only l f rules bs (guards (rules a) (Ok a)) live (inr (a, record { fields = fields a; fields_ok = c.to a h; bytes = e }, refl)));
      }

  module _ (a : A) (exact : Exact f (fields a) a) (old : List ℕ) where
    pub written_well : (n : ℕ) → Strings (fields a) → write_by l f rules (fields a) (length old) ≡ Ok n → Fields f (fields a) a × (read_by l f rules (written (fields a)) ≡ Ok a) × (n ≡ length (written (fields a))) × (n ≤ length old)
    written_well n t0 h =
        let k : A → List Field → ℕ → Result ℕ Fault = λ x gs e. guards (rules x) (room_for e (length old)) in
        let whole = written (fields a) in
        let j = judged-frame l k f (fields a) [] a 0 n exact t0 (ap (λ fs. judge l f k fs 0) (append-nil (fields a)) ∙ h) in
        let z : 0 + length whole ≡ length whole = omega arith in
        let t = through {B = A} (rules a) (room_for (0 + length whole) (length old)) n (Ok a) j.1 in
        let p = passed (leb (0 + length whole) (length old)) (fault NoRoom Frame 0) (Ok (0 + length whole)) n t.0 in
        let e = same_ok (0 + length whole) n p.1 in
        let fits = leb-true (0 + length whole) (length old) p.0 in
        let r = walk-frame l (closing l rules whole) f [] [] (fields a) a j.0 in
        let read : read_by l f rules whole ≡ Ok a =
        ap (λ x. walk l f (closing l rules whole) x 0) (sym (append-nil whole))
        ∙ r
        ∙ pass (leb (length whole) (0 + length whole)) (fault Malformed l (0 + length whole)) (guards (rules a) (Ok a)) (le-leb (length whole) (0 + length whole) (omega arith))
        ∙ t.1
        in
        (j.0, read, sym e ∙ z, omega (arith, e, fits))

    same-refusals : Fitting (fields a) → write_by l f rules (fields a) (length old) ≡ after (read_by l f rules (written (fields a))) (room_for (length (written (fields a))) (length old))
    same-refusals fit =
        let whole = written (fields a) in
        let last : Result ℕ Fault = room_for (length whole) (length old) in
        let k : A → ℕ → Result ℕ Fault = λ x e. and_then (closing l rules whole x e) (λ y. last) in
        let m : A → List Field → ℕ → Result ℕ Fault = λ x gs e. guards (rules x) (room_for e (length old)) in
        let here : (e : ℕ) → e ≡ 0 + length whole → k a e ≡ m a [] e = λ e q.
        let t = le-leb (length whole) e (omega arith) in
        let z : length whole ≡ e = omega arith in
        ap (λ b. and_then (unless b (fault Malformed l e) (guards (rules a) (Ok a))) (λ y. last)) t
        ∙ after_then (guards (rules a) (Ok a)) last
        ∙ guards-after (rules a) a last
        ∙ ap (λ n. guards (rules a) (room_for n (length old))) z
        in
        let moved = same_place l k m [] f [] [] (fields a) a exact fit here in
        let split = walk_then l whole (λ y. last) f (closing l rules whole) k 0 (λ x e. refl) in
        ap (λ fs. judge l f m fs 0) (sym (append-nil (fields a)))
        ∙ sym moved
        ∙ ap (λ x. walk l f k x 0) (append-nil whole)
        ∙ split
        ∙ after_then (read_by l f rules whole) last

    pub writing : (new : List ℕ) (r : Result ℕ Fault) → r ≡ write_by l f rules (fields a) (length old) → new ≡ filled r (written (fields a)) old → Bytes new → Writes l f rules fields In a old new r
    writing new r e b all =
        record {
          buffer = b;
          back = λ n h.
              let whole = written (fields a) in
              let put : new ≡ whole ++ drop n old = b ∙ ap (λ x. filled x whole old) h in
              let w = written_well n (strings (fields a) (drop n old) (subst Bytes put all)) (sym e ∙ h) in
              let front : take n new ≡ whole = ap (take n) put ∙ take_at whole (drop n old) n (sym w.2) in
              ((c.of (fields a) a w.0).1, ap (read_by l f rules) front ∙ w.1);
          same = λ fit. e ∙ same-refusals fit;
        }
