-- Thirty-three commits: version 1 is evicted, and version 2 is kept.
use Rattle.std.proofs.Common.{◌≡◌, ℕ, ◌+◌, ◌<◌, ◌≤◌, ltb, List, [], ◌∷◌, ◌++◌, map, length, replicate, Ok, Err, Result, sym, refl, ap, ◌∙◌, subst, inr, arith, lit<}
use Rattle.std.proofs.lemmas.List.{length-append}
use Rattle.std.proofs.lemmas.Bool.{cond-true, lt-ltb}
use Rattle.fault.specs.declared.Fault.{Fault}
use Rattle.fault.specs.declared.Cause.TheVariants.{Evicted, Malformed, NoRoom, NoShareDue, NotCommitted, NotMember, Unsealed, WrongTag}
use Rattle.fault.specs.declared.Layer.TheVariants.{Board, Frame, Seal}
use Rattle.fault.specs.Codes.{fault, number}
use Rattle.octets.specs.Numbers.{limit}
use Rattle.record.specs.Chains.{guards}
use Rattle.record.specs.Formats.{written}
use Rattle.record.specs.Rules.{boards}
use Rattle.record.proofs.Rules.{judged-only}
use Rattle.share.specs.Shares.{ShareBody, ShareIn, read_share, share_fields, share_format, share_rules}
use Rattle.share.proofs.ShareLaws.{coding, live}
use Rattle.history.specs.Events.{Effect, width}
use Rattle.history.specs.Commits.{commits}
use Rattle.history.specs.Entries.{sealed_string, shares_of, versions}
use Rattle.history.specs.Tables.{Case, Read, Succeeds, Under, when}
use Rattle.history.specs.Answers.{ShareInAnswers, ShareOutAnswers, not_kept, proof_table, share_bytes, share_table, unsealed}
use Rattle.worked.specs.Requests.{Carried, DigestOf32, TagOf16}
use Rattle.worked.specs.Boards.{EvictedAfter33, FirstEvicted, SharesVersion}
use Rattle.worked.proofs.Carrying.{carried_one, one}
use Rattle.worked.proofs.Measuring.{all_same, bytes-from_all}
use Rattle.worked.proofs.Occurring.{commits_occur}

-- there is a share of every version
shares_occur : (f v : ℕ) → 1 ≤ v → v ≤ limit width → (frame : List ℕ) × SharesVersion f frame v
shares_occur f v low high =
    let s : ShareBody = record { signer = 0; version = v; tag = replicate 16 0 } in
    let bs = written (share_fields width s) in
    let inside : ShareIn width s = record { signer = omega arith; low = low; high = high; tag = refl; bytes = bytes-from_all (replicate 16 0) (all_same (λ n. n < 256) 0 16 (omega arith)) } in
    let member = cond-true (ltb 0 (boards f)) (Ok s) (Err (fault NotMember Frame 1)) (lt-ltb 0 (boards f) (omega arith)) in (
      bs,
      (
        s,
        (
          sym (judged-only Frame (share_format width) (share_rules f) bs (guards (share_rules f s) (Ok s)) (live 1)
              (inr (s, record { fields = share_fields width s; fields_ok = (coding width).to s inside; bytes = refl }, refl))) ∙ member,
          refl,
        ),
      ),
    )

-- no row of a table that applies refuses with this fault
Avoids : Fault → List Case → Type 0
Avoids e [] = Unit {0}
Avoids e (c ∷ cs) = (c.condition → c.refusal ≡ e → ⊥) × Avoids e cs

err_same : {A : Type 0} (d e : Fault) → ◌≡◌ {A = Result A Fault} (Err d) (Err e) → d ≡ e
err_same d e q = cc

-- so the answer is another
never : {A : Type 0} (t : List Case) (P : A → Type 0) (r : Result A Fault) (e : Fault) → Avoids e t → Under t P r → r ≡ Err e → ⊥
unfolding Avoids
never [] P r e a u is = subst (Succeeds P) is u
never {A} (c ∷ cs) P r e a u is = never cs P r e a.1 (u.1 (λ holds. a.0 holds (err_same {A = A} c.refusal e (sym (u.0 holds) ∙ is)))) is

avoids_append : (e : Fault) (s t : List Case) → Avoids e s → Avoids e t → Avoids e (s ++ t)
unfolding Avoids
avoids_append e [] t a b = b
avoids_append e (c ∷ s) t a b = (a.0, avoids_append e s t a.1 b)

-- a fault with another cause
other : (d : Fault) → (number d.cause ≡ number Evicted → ⊥) → d ≡ fault Evicted Board 0 → ⊥
other d ne same = ne (ap (λ (x : Fault). number x.cause) same)

module _ (digest : List ℕ → List ℕ) (tag : ℕ → List ℕ → List ℕ) (f own : ℕ) (sized : DigestOf32 digest) (sealed : TagOf16 tag) where
  -- the rows of a version that is kept
  module _ (es : List Effect) (n : length (commits es) ≡ 33) where
    kept_2 : (v : ℕ) → v ≡ 2 → Avoids (fault Evicted Board 0) (not_kept digest tag f own es v)
    unfolding Avoids
    kept_2 v e = (λ _. other (fault NotCommitted Board 0) (λ z. omega arith), (λ old _. omega arith, tt))

    share-bytes : (v : ℕ) → length (share_bytes digest tag f own es v) ≡ 20
    share-bytes v =
        let t = tag own (sealed_string digest (commits es) v) in
        let a = length-append t [] in
        let b = sealed.long own (sealed_string digest (commits es) v) in
        omega arith

    sealed_avoid : (vs : List ℕ) → Avoids (fault Evicted Board 0) (map (unsealed digest tag f own es) vs)
    unfolding Avoids
    sealed_avoid [] = tt
    sealed_avoid (v ∷ vs) = (λ _. other (fault Unsealed Board v) (λ z. omega arith), sealed_avoid vs)

    out_avoids : (room : ℕ) → Avoids (fault Evicted Board 0) (when (◌≡◌ {A = ℕ} 2 0) (fault Malformed Frame 1) ∷ not_kept digest tag f own es 2 ++ when (room < length (share_bytes digest tag f own es 2)) (fault NoRoom Board 0) ∷ [])
    unfolding Avoids
    out_avoids room =
        let kept = kept_2 2 refl in
        (λ _. other (fault Malformed Frame 1) (λ z. omega arith), (kept.0, (kept.1.0, (λ _. other (fault NoRoom Board 0) (λ z. omega arith), tt))))

    in_avoids : (s : ShareBody) → s.version ≡ 2 → Avoids (fault Evicted Board 0) (share_table digest tag f own es s)
    unfolding Avoids
    in_avoids s e =
        let kept = kept_2 s.version e in (
          kept.0,
          (
            kept.1.0,
            (λ _. other (fault NoShareDue Board 0) (λ z. omega arith), (λ _. other (fault WrongTag Seal (width + 2)) (λ z. omega arith), tt)),
          ),
        )

    proof_avoids : (high room : ℕ) → Avoids (fault Evicted Board 0) (proof_table digest tag f own es 2 high room)
    unfolding Avoids
    proof_avoids high room = (
      λ _. other (fault Malformed Frame 3) (λ z. omega arith),
      (
        λ _. other (fault NotCommitted Board 0) (λ z. omega arith),
        (
          λ old _. let gone : 2 + 32 ≤ length (commits es) = old.1 in omega arith,
          avoids_append (fault Evicted Board 0) (map (unsealed digest tag f own es) (versions 2 high)) _ (sealed_avoid (versions 2 high))
              (λ _. other (fault NoRoom Board 0) (λ z. omega arith), tt),
        ),
      ),
    )

    write_20 : (room : ℕ) (r : Result ℕ Fault) → 20 ≤ room → ShareOutAnswers digest tag f own es 2 room r → r ≡ Ok 20
    write_20 room r le u =
        let n20 = share-bytes 2 in
        ok r ((((u.1 (λ z. omega arith)).1 (λ above. omega arith)).1 (λ old. omega arith)).1 (λ short. omega arith))
      where
        ok : (r : Result ℕ Fault) → Succeeds (λ n. n ≡ length (share_bytes digest tag f own es 2)) r → r ≡ Ok 20
        ok (Ok n) is = ap Ok (is ∙ share-bytes 2)
        ok (Err e) is = absurd is

  -- the table behind a share's frame
  share-under : (es : List Effect) (frame : List ℕ) (s : ShareBody) (r : Result ℕ Fault) → read_share width f frame ≡ Ok s → ShareInAnswers digest tag f own es frame r
      → Under (share_table digest tag f own es s) (λ n. n ≡ length (shares_of s.version es) + 1) r
  share-under es frame s r held a = subst (λ x. Read x (λ s. Under (share_table digest tag f own es s) (λ n. n ≡ length (shares_of s.version es) + 1)) r) held a

  first-evicted : (es : List Effect) → length (commits es) ≡ 33 → FirstEvicted digest tag f own es
  first-evicted es n = record {
    share_out = λ room r u. ((u.1 (λ z. omega arith)).1 (λ above. omega arith)).0 (omega arith);
    share_in = λ frame r (s, (held, v)) u. ((share-under es frame s r held u).1 (λ above. omega arith)).0 (omega arith);
    proof = λ low high room r small some le u. ((u.1 (λ above. omega arith)).1 (λ above. omega arith)).0 (some, omega arith);
    share_out_kept = λ room r u is. never _ _ r (fault Evicted Board 0) (out_avoids es n room) u is;
    share_in_kept = λ frame r (s, (held, v)) u is. never _ _ r (fault Evicted Board 0) (in_avoids es n s v) (share-under es frame s r held u) is;
    proof-kept = λ high room r u is. never _ _ r (fault Evicted Board 0) (proof_avoids es n high room) u is;
    share-written = λ room r le u. write_20 es n room r le u;
  }

  pub evicted-after_33 : EvictedAfter33 digest tag f own
  evicted-after_33 = record {
    first = first-evicted;
    occurs =
        let cs = replicate 33 (one 0 []) in
        let made = commits_occur digest tag f own sized sealed cs (all_same Carried (one 0 []) 33 (carried_one 0 [] (omega arith) (omega arith) (λ i. lit< tt))) (omega arith) in
        (made.0, (made.1.0, made.1.1, ap length made.1.2));
    shares_occur = shares_occur f;
  }
