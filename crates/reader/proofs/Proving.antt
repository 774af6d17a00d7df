-- A proof that its reader accepts: what the check may lean on.
use Rattle.std.proofs.Common.{◌≡◌, ℕ, zero, suc, ◌+◌, ◌<◌, List, [], ◌∷◌, ◌++◌, map, length, get_or, Some, None, Ok, Result, refl, ap, ◌∙◌, subst, arith}
use Rattle.std.specs.List.{range_with_len, AllByRecursion, AllByRecursion as All}
use Rattle.std.specs.List.Sorted.{IsStrictlyIncreasing}
use Rattle.std.proofs.lemmas.Bool.{ltb-true}
use Rattle.fault.specs.declared.Fault.{Fault}
use Rattle.fault.specs.declared.Layer.{Layer}
use Rattle.fault.specs.declared.Layer.TheVariants.{Proof}
use Rattle.octets.specs.Numbers.{Bytes}
use Rattle.record.specs.Formats.{Field, written}
use Rattle.record.specs.Rules.{boards, rising, spots}
use Rattle.entry.specs.Bodies.{PairBody, SealedBody, entry_bytes}
use Rattle.ruled.specs.Standing.{Passes}
use Rattle.ruled.proofs.Tables.{every-left, every_right}
use Rattle.proof.specs.Bodies.{EntriesIn, ProofBody, item_fields, pair_fields}
use Rattle.entry.specs.Bodies.{sealed_bytes}
use Rattle.proof.specs.Rules.{entries_at, item_number, item_spots, member_row, member_rows, pair_number, pair_spots, proof_of, rising_rows}
use Rattle.proof.specs.Promises.{ProofAnswered, ProofKept}
use Rattle.proof.proofs.Keeping.{reads}
use Rattle.history.specs.Events.{width}
use Rattle.reader.specs.Accepted.{Proven, Sealed, version_of}

climbs_more : (x y : ℕ) (ys : List ℕ) → x < y → IsStrictlyIncreasing (y ∷ ys) → IsStrictlyIncreasing (x ∷ y ∷ ys)
climbs_more x y ys lt c zero in' = lt
climbs_more x y ys lt c (suc k) in' =
    let e : suc (k + 1) ≡ suc k + 1 = omega arith in
    subst (λ (n : ℕ). get_or (y ∷ ys) k 0 < get_or (x ∷ y ∷ ys) n 0) e (c k (omega arith))

-- rows of the rising rule that pass, over records one behind the other
module _ {A : Type 0} (l : Layer) (number : A → ℕ) (fields : A → List Field) where
  rises-above : (m at : ℕ) (xs : List A) → AllByRecursion Passes (rising l (Some m) (spots number fields at xs)) → IsStrictlyIncreasing (m ∷ map number xs)
  rises-above m at [] rows = λ k in'. absurd (omega arith)
  rises-above m at (x ∷ xs) (row, rows) =
      climbs_more m (number x) (map number xs) (ltb-true _ _ row) (rises-above (number x) (at + length (written (fields x))) xs rows)

  rises : (at : ℕ) (xs : List A) → AllByRecursion Passes (rising l None (spots number fields at xs)) → IsStrictlyIncreasing (map number xs)
  rises at [] rows = λ k in'. absurd (omega arith)
  rises at (x ∷ xs) (row, rows) = rises-above (number x) (at + length (written (fields x))) xs rows

members : (f at : ℕ) (ps : List PairBody) → AllByRecursion Passes (map (member_row f) (spots pair_number pair_fields at ps)) → All (λ (p : PairBody). p.signer < boards f) ps
members f at [] rows = tt
members f at (p ∷ ps) (row, rows) = (ltb-true _ _ row, members f (at + length (written (pair_fields p))) ps rows)

each-version : (f due : ℕ) (es : List SealedBody) → EntriesIn f due es → map version_of es ≡ range_with_len due (length es)
each-version f due [] in' = refl
each-version f due (s ∷ es) (one, more) =
    ap (λ (v : ℕ). v ∷ map version_of es) one.dated ∙ ap (λ (vs : List ℕ). due ∷ vs) (each-version f (due + 1) es more)

all_sealed : (w f due at : ℕ) (es : List SealedBody) → EntriesIn f due es → AllByRecursion Passes (rising_rows w at es) → AllByRecursion Passes (member_rows w f at es) → All (Sealed f) es
all_sealed w f due at [] in' up mem = tt
all_sealed w f due at (s ∷ es) (one, more) up mem =
    let items = rising Proof None (item_spots w at s) in
    let pairs = rising Proof None (pair_spots w at s) in
    let rest = rising_rows w (at + length (sealed_bytes w s)) es in
    let behind = every_right Passes items (pairs ++ rest) up in
    let own = map (member_row f) (pair_spots w at s) in
    let others = member_rows w f (at + length (sealed_bytes w s)) es in (
      record {
        items = rises Proof item_number item_fields (at + w + 1) s.entry.items (every-left Passes items (pairs ++ rest) up);
        quorum = one.sealed;
        signers = rises Proof pair_number pair_fields (at + length (entry_bytes w s.entry)) s.pairs (every-left Passes pairs rest behind);
        members = members f (at + length (entry_bytes w s.entry)) s.pairs (every-left Passes own others mem);
      },
      all_sealed w f (due + 1) (at + length (sealed_bytes w s)) es more (every_right Passes pairs rest behind) (every_right Passes own others mem),
    )

pub kept-proven : (w f : ℕ) (b : ProofBody) → ProofKept w f b → Proven f b.low b.high b.entries
kept-proven w f b kept = record {
  from = kept.in_range.low-some;
  each = each-version f b.low b.entries kept.in_range.entries ∙ ap (range_with_len b.low) kept.in_range.count;
  sealed = all_sealed w f b.low (entries_at w) b.entries kept.in_range.entries kept.rises kept.members;
}

pub read_kept : (f : ℕ) (bs : List ℕ) (b : ProofBody) → Bytes bs → proof_of width f bs ≡ Ok b → ProofKept width f b
read_kept f bs b all e = (subst (λ (r : Result ProofBody Fault). ProofAnswered width f bs r) e (reads 1 f bs all).answered).0

pub read-proven : (f : ℕ) (bs : List ℕ) (b : ProofBody) → Bytes bs → proof_of width f bs ≡ Ok b → Proven f b.low b.high b.entries
read-proven f bs b all e = kept-proven width f b (read_kept f bs b all e)
