-- The check's answer, joined from those of its parts.
use Rattle.std.proofs.Common.{◌≡◌, ℕ, ◌<◌, ◌≤◌, max, Bool, List, [], length, Ok, Err, Decides, Result, sym, refl, ap, ◌∙◌, subst, arith}
use Rattle.std.specs.List.{AllByRecursion as All}
use Rattle.std.proofs.ByRecursion.{All-weaker}
use Rattle.std.proofs.lemmas.List.{append-nil}
use Rattle.fault.specs.declared.Cause.TheVariants.{WrongRange}
use Rattle.fault.specs.declared.Fault.{Fault}
use Rattle.fault.specs.declared.Layer.TheVariants.{Reader}
use Rattle.fault.specs.Codes.{fault}
use Rattle.octets.specs.Numbers.{Bytes}
use Rattle.record.specs.Rules.{boards}
use Rattle.entry.specs.Bodies.{PairBody, SealedBody, sealed_bytes}
use Rattle.proof.specs.Bodies.{ProofBody}
use Rattle.proof.specs.Parts.{Holds, Seen}
use Rattle.proof.specs.Rules.{entries_at, proof_of}
use Rattle.proof.specs.declared.read.Proof.{Proof}
use Rattle.reading.specs.Bodies.{ReadingBody, ReadingItemBody, ReadingItemIn, ReadingReads, reading_of}
use Rattle.reading.specs.Readings.{Found, held}
use Rattle.reading.specs.declared.Reading.{Reading}
use Rattle.history.specs.Events.{width}
use Rattle.history.specs.Tables.{Case, Read, Under}
use Rattle.reader.specs.Accepted.{Proven, Sealed}
use Rattle.reader.specs.Checks.{CheckAnswers, RightRange, along, check_table, highest, item_rows, items_at, lowest, read_item_bytes, sealed_rows}
use Rattle.reader.specs.Items.{Judged, JudgesItems}
use Rattle.reader.specs.Tags.{JudgesProof}
use Rattle.reader.proofs.Clear.{clear_append, clear_ok, clear_then, ok_clear, refused-first}
use Rattle.reader.proofs.Proving.{read-proven}

module _ (digest : List ℕ → List ℕ) (passes : ℕ → List ℕ → List ℕ → Type 0) (f : ℕ) (rs bs : List ℕ) where
  -- the answer behind the reading's reader
  abbrev Behind : Result ℕ Fault → ReadingBody → Result ProofBody Fault → Type 0
  Behind r q s = Read s (λ b. Under (check_table digest passes b.low b.high b.entries q.items) (λ m. m ≡ highest q.items)) r

  pub reading-refused : (e : Fault) → Err e ≡ reading_of width rs → CheckAnswers digest passes f rs bs (Err e)
  reading-refused e is = subst (λ (s : Result ReadingBody Fault). Read s (λ q r. Behind r q (proof_of width f bs)) (Err e)) is refl

  module _ (q : Reading) (read : Ok (held q) ≡ reading_of width rs) where
    behind : (r : Result ℕ Fault) → Behind r (held q) (proof_of width f bs) → CheckAnswers digest passes f rs bs r
    behind r u = subst (λ (s : Result ReadingBody Fault). Read s (λ q r. Behind r q (proof_of width f bs)) r) read u

    pub proof-refused : (e : Fault) → Seen f (Err e) (proof_of width f bs) → CheckAnswers digest passes f rs bs (Err e)
    proof-refused e seen = behind (Err e) (go (proof_of width f bs) seen)
      where
        go : (s : Result ProofBody Fault) → Seen f (Err e) s → Behind (Err e) (held q) s
        go (Ok b) n = absurd n
        go (Err d) same = ap Err same

    module _ (proof : Proof) (bytes : Bytes bs) (seen : Seen f (Ok proof) (proof_of width f bs)) where
      -- the answer under the table for what the frames hold
      tabled : (r : Result ℕ Fault) → ((b : ProofBody) → Holds f proof b → Proven f b.low b.high b.entries → Under (check_table digest passes b.low b.high b.entries (held q).items) (λ m. m ≡ highest (held q).items) r) → CheckAnswers digest passes f rs bs r
      tabled r under = behind r (go (proof_of width f bs) refl seen)
        where
          go : (s : Result ProofBody Fault) → proof_of width f bs ≡ s → Seen f (Ok proof) s → Behind r (held q) s
          go (Ok b) e holds = under b holds (read-proven f bs b bytes e)
          go (Err d) e n = absurd n

      -- a proof that covers the versions found
      pub ranged : (t : Bool) (low high : ℕ) → low ≡ lowest (held q).items → high ≡ highest (held q).items → ((g : ℕ) (b : ProofBody) → Holds g proof b → Decides t ((b.low ≡ max 1 low) × (b.high ≡ high))) → (b : ProofBody) → Holds f proof b → Decides t (RightRange b.low b.high (held q).items)
      ranged t low high l h covers b holds =
          let decides = covers f b holds in
          (λ y. let r = decides.0 y in (r.0 ∙ ap (max 1) l, r.1 ∙ h), λ r. decides.1 (r.0 ∙ sym (ap (max 1) l), r.1 ∙ sym h))

      abbrev Covered : Type 0
      Covered = (b : ProofBody) → Holds f proof b → RightRange b.low b.high (held q).items

      pub wrong-range : ((b : ProofBody) → Holds f proof b → RightRange b.low b.high (held q).items → ⊥) → CheckAnswers digest passes f rs bs (Err (fault WrongRange Reader 1))
      wrong-range not = tabled (Err (fault WrongRange Reader 1)) (λ b holds proven. (λ n. refl, λ n. absurd (n (not b holds))))

      module _ (few : f ≤ 5) (covered : Covered) where
        abbrev tags : ProofBody → List Case
        tags b = along (sealed_bytes width) (sealed_rows passes) (entries_at width) b.entries

        abbrev items : ProofBody → List Case
        items b = along read_item_bytes (item_rows digest b.entries) items_at (held q).items

        -- every board is a signer that a seal takes
        signers : (b : ProofBody) → Proven f b.low b.high b.entries → All (λ (s : SealedBody). All (λ (p : PairBody). p.signer ≤ 31) s.pairs) b.entries
        signers b proven =
            All-weaker (Sealed f) (λ (s : SealedBody). All (λ (p : PairBody). p.signer ≤ 31) s.pairs) (λ s seal.
            All-weaker (λ (p : PairBody). p.signer < boards f) (λ (p : PairBody). p.signer ≤ 31) (λ p lt. omega arith) s.pairs seal.members) b.entries proven.sealed

        pub wrong-tag : (e : Fault) → JudgesProof passes proof (Err e) → CheckAnswers digest passes f rs bs (Err e)
        wrong-tag e judged = tabled (Err e) (λ b holds proven.
            (λ n. absurd (n (covered b holds)), λ n. refused-first (λ u. Unit {0}) (λ m. m ≡ highest (held q).items) (tags b) (items b) e (judged f b holds few (signers b proven))))

        module _ (u : Unit {0}) (tagged : JudgesProof passes proof (Ok u)) (found : Found rs q) (reads : ReadingReads width rs (Ok (held q))) where
          judges : (b : ProofBody) → Holds f proof b → Proven f b.low b.high b.entries → Judged q proof rs f b
          judges b holds proven = record {
            found = found;
            holds = holds;
            proven = proven;
            range = covered b holds;
            short = All-weaker (ReadingItemIn width) (λ (p : ReadingItemBody). length p.value ≤ 65535) (λ p in'. let n = in'.value in omega arith) (held q).items (reads.accepted (held q) refl).0.items;
          }

          pub wrong-item : (e : Fault) → JudgesItems digest q proof (Err e) → CheckAnswers digest passes f rs bs (Err e)
          wrong-item e judged = tabled (Err e) (λ b holds proven. (
            λ n. absurd (n (covered b holds)),
            λ n. clear_then (λ m. m ≡ highest (held q).items) (tags b) (items b) (Err e) (ok_clear (λ u. Unit {0}) (tags b) u (tagged f b holds few (signers b proven))).0
                (rw append-nil at (refused-first (λ u. Unit {0}) (λ m. m ≡ highest (held q).items) (items b) [] e (judged rs f b (judges b holds proven)))),
          ))

          pub accepted : (v : Unit {0}) (m : ℕ) → m ≡ highest (held q).items → JudgesItems digest q proof (Ok v) → CheckAnswers digest passes f rs bs (Ok m)
          accepted v m is judged = tabled (Ok m) (λ b holds proven.
              clear_ok (λ m. m ≡ highest (held q).items) (check_table digest passes b.low b.high b.entries (held q).items) m
              (λ n. n (covered b holds), clear_append (tags b) (items b) (ok_clear (λ u. Unit {0}) (tags b) u (tagged f b holds few (signers b proven))).0 (ok_clear (λ u. Unit {0}) (items b) v (judged rs f b (judges b holds proven))).0) is)
