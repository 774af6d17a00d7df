-- The instance, by computing it.
use Rattle.std.proofs.Common.{◌≡◌, ℕ, zero, suc, ◌<◌, Bool, true, false, cond, eqb, List, [], ◌∷◌, get_or, take, replicate, Ok, Err, Result, sym, refl, ap, ◌∙◌, subst, arith}
use Rattle.std.specs.List.{ContainsAt as Has}
use Rattle.std.specs.List.Sorted.{IsStrictlyIncreasing}
use Rattle.fault.specs.declared.Fault.{Fault}
use Rattle.fault.specs.declared.Cause.TheVariants.{WrongTag}
use Rattle.fault.specs.declared.Layer.TheVariants.{Seal}
use Rattle.fault.specs.Codes.{fault}
use Rattle.siphash.specs.SipHash.{ending, little, run, sip_hash, sip_round, sip_rounds}
use Rattle.digest.specs.Fnv.{fnv_words, hashed, step}
use Rattle.label.specs.declared.Label.TheVariants.{Entry}
use Rattle.label.specs.Labels.{labelled}
use Rattle.seal.specs.Seals.{passes}
use Rattle.entry.specs.Bodies.{entry_bytes}
use Rattle.proof.specs.Bodies.{ProofBody, proof_bytes}
use Rattle.proof.specs.Rules.{proof_of}
use Rattle.reading.specs.Bodies.{ReadingItemBody, ReadingBody, reading_of}
use Rattle.history.specs.Commits.{Left, Wrote, left_after, left_from, written}
use Rattle.history.specs.Events.{width}
use Rattle.history.specs.Tables.{Read, Under}
use Rattle.reader.specs.Checks.{CheckAnswers, check_table, highest}
use Rattle.reader.specs.Accepted.{FirstPart, Holds, HonestProof, Proven}
use Rattle.reader.specs.Example.{AcceptedAndRefused, commits, digest, faulty, forged, proof, reading, reading_bytes, tag, wrong_proof, wrong_reading}
use Rattle.reader.proofs.Lefts.{some_same}
use Rattle.reader.proofs.Members.{has_here}
use Rattle.reader.proofs.Clear.{clear_ok}
use Rattle.reader.proofs.Holding.{holds_passed}
use Rattle.reader.proofs.Accepting.{table_clear}

-- the frames hold what they were made of
reads : reading_of width (reading_bytes reading) ≡ Ok (record { items = reading })
reads = refl

proves : proof_of width 1 (proof_bytes width proof) ≡ Ok proof
unfolding fnv_words hashed step sip_hash run sip_rounds sip_round little ending
proves = refl

reads_too : reading_of width (reading_bytes wrong_reading) ≡ Ok (record { items = wrong_reading })
reads_too = refl

proves_too : proof_of width 1 (proof_bytes width wrong_proof) ≡ Ok wrong_proof
unfolding fnv_words hashed step sip_hash run sip_rounds sip_round little ending
proves_too = refl

-- an answer from what the two frames hold
module _ (r p : List ℕ) (ps : List ReadingItemBody) (b : ProofBody) (a : Result ℕ Fault) where
  answered : reading_of width r ≡ Ok (record { items = ps }) → proof_of width 1 p ≡ Ok b → Under (check_table digest (passes tag) b.low b.high b.entries ps) (λ m. m ≡ highest ps) a → CheckAnswers digest (passes tag) 1 r p a
  answered e f u =
      subst (λ (s : Result ReadingBody Fault). Read s (λ q. Read (proof_of width 1 p) (λ c. Under (check_table digest (passes tag) c.low c.high c.entries q.items) (λ m. m ≡ highest q.items))) a) (sym e)
      (subst (λ (s : Result ProofBody Fault). Read s (λ c. Under (check_table digest (passes tag) c.low c.high c.entries ps) (λ m. m ≡ highest ps)) a) (sym f) u)

one_climbs : (x : ℕ) → IsStrictlyIncreasing (x ∷ [])
one_climbs x k lt = absurd (omega arith)

two_climb : (x y : ℕ) → x < y → IsStrictlyIncreasing (x ∷ y ∷ [])
two_climb x y up zero lt = up
two_climb x y up (suc k) lt = absurd (omega arith)

proven : Proven 1 1 2 proof.entries
proven = record {
  from = omega arith;
  each = refl;
  sealed = (
    record { items = one_climbs 5; quorum = refl; signers = two_climb 0 3 (omega arith); members = (omega arith, (omega arith, tt)) },
    (record { items = one_climbs 6; quorum = refl; signers = two_climb 1 3 (omega arith); members = (omega arith, (omega arith, tt)) }, tt),
  );
}

holds : Holds commits reading
unfolding left_from written
holds = (omega arith, (refl, (refl, tt)))

honest : HonestProof digest (passes tag) commits proof reading
honest = record { range = (refl, refl); enough = omega arith; entries = refl; tags = ((refl, (refl, tt)), ((refl, (refl, tt)), tt)) }

three : Has faulty 3
three = has_here 3 []

-- board 1 has another tag for the forged entry
mine : replicate 16 0 ≡ tag 1 (labelled Entry (entry_bytes width forged)) → ⊥
unfolding fnv_words hashed step sip_hash run sip_rounds sip_round little ending
mine e = let z = ap (λ (bs : List ℕ). get_or bs 0 0) e in absurd (omega arith)

wrote_5 : (w : List ℕ) → Wrote commits 1 5 w → 7 ∷ [] ≡ w
unfolding written
wrote_5 w h = some_same _ _ _ refl h.2

wrote_6 : (w : List ℕ) → Wrote commits 2 6 w → 8 ∷ 9 ∷ [] ≡ w
unfolding written
wrote_6 w h = some_same _ _ _ refl h.2

apart : digest (0 ∷ []) ≡ digest (8 ∷ 9 ∷ []) → ⊥
unfolding fnv_words hashed step
apart e = let z = ap (λ (bs : List ℕ). get_or bs 15 0) e in absurd (omega arith)

two : (left_after 2 commits 6).value ≡ 8 ∷ 9 ∷ []
unfolding left_from written
two = refl

part : (b : Bool) → FirstPart (cond b (take 1 commits) commits) commits
part true = refl
part false = refl

pub accepted_and_refused : AcceptedAndRefused
unfolding fnv_words
accepted_and_refused = record {
  runs = record {
    few = omega arith;
    first = λ a lt out. part (eqb a 2);
  };
  unforged = (
    (λ out t. (omega arith, refl), (λ out t. absurd (out three), tt)),
    ((λ out t. (omega arith, refl), (λ out t. absurd (out three), tt)), tt),
  );
  distinct = (λ w h e. wrote_5 w h, (λ w h e. wrote_6 w h, tt));
  accepted =
      answered (reading_bytes reading) (proof_bytes width proof) reading proof (Ok 2) reads proves
      (clear_ok (λ m. m ≡ 2) (check_table digest (passes tag) 1 2 proof.entries reading) 2 (table_clear digest (passes tag) 1 2 proof.entries reading (holds_passed digest (passes tag) 1 proof reading proven commits commits refl honest holds)) refl);
  holds = holds;
  unforged_too = (
    (λ out t. (omega arith, refl), (λ out t. absurd (out three), tt)),
    ((λ out t. absurd (mine t), (λ out t. absurd (out three), tt)), tt),
  );
  distinct_too = (λ w h e. wrote_5 w h, (λ w h e. absurd (apart (e ∙ ap digest (sym (wrote_6 w h)))), tt));
  refused =
      answered (reading_bytes wrong_reading) (proof_bytes width wrong_proof) wrong_reading wrong_proof (Err (fault WrongTag Seal 112)) reads_too proves_too
      (λ n. absurd (n (refl, refl)), λ y. (λ n. absurd (n refl), λ y. (λ n. absurd (n refl), λ y. (λ n. refl, λ n. absurd (n mine)))));
  wrong = λ h. let z = ap (λ (bs : List ℕ). get_or bs 0 0) (sym two ∙ ap (λ (l : Left). l.value) h.1.1.0) in absurd (omega arith);
}
