-- The promise of the writer of proofs.
use Rattle.std.proofs.Common.{◌≡◌, ℕ, suc, ◌+◌, ◌-◌, ◌≤◌, ◌&&◌, eqb, leb, List, [], ◌∷◌, map, length, take, drop, Ok, Err, Result, sym, refl, ap, ◌∙◌, subst, arith}
use Rattle.std.specs.List.{AllByRecursion}
use Rattle.std.proofs.lemmas.List.{length-map, take_at}
use Rattle.std.proofs.lemmas.Bool.{le-leb, leb-true, and_from, and_parts}
use Rattle.fault.specs.declared.Fault.{Fault}
use Rattle.fault.specs.declared.Layer.TheVariants.{Frame, Proof}
use Rattle.fault.specs.declared.Cause.TheVariants.{Malformed, NoRoom}
use Rattle.fault.specs.Codes.{fault}
use Rattle.octets.specs.Numbers.{Bytes, limit}
use Rattle.record.specs.Chains.{unless, after, and_then}
use Rattle.record.specs.Formats.{within}
use Rattle.record.specs.Writing.{room_for, filled}
use Rattle.record.proofs.Steps.{pass, passed, then_some, same_ok}
use Rattle.record.proofs.Walks.{bytes_part}
use Rattle.ruled.specs.Ruled.{ending}
use Rattle.entry.specs.Bodies.{item_body, pair_body, sealed_body}
use Rattle.entry.specs.declared.parts.ItemDigest.{ItemDigest}
use Rattle.entry.specs.declared.parts.Pair.{Pair}
use Rattle.entry.specs.declared.parts.SealedEntry.{SealedEntry}
use Rattle.proof.specs.Bodies.{ProofBody, proof_bytes, range}
use Rattle.proof.specs.Rules.{entries_at, proof_of}
use Rattle.proof.specs.Promises.{ProofAnswered}
use Rattle.proof.specs.Writing.{weigh_entries, weigh_proof, write_proof, Framed, ProofWrites, drafted}
use Rattle.proof.proofs.Keeping.{reads}
use Rattle.proof.proofs.Weighing.{Solid, weighed_proof, proof-end}

-- what is to be written has digests of 32 bytes and tags of 16
items_solid : (xs : List ItemDigest) → AllByRecursion (λ i. length i.digest ≡ 32) (map item_body xs)
items_solid [] = tt
items_solid (x ∷ xs) = (x.whole, items_solid xs)

pairs_solid : (xs : List Pair) → AllByRecursion (λ p. length p.tag ≡ 16) (map pair_body xs)
pairs_solid [] = tt
pairs_solid (x ∷ xs) = (x.whole, pairs_solid xs)

pub solid : (es : List SealedEntry) → AllByRecursion Solid (map sealed_body es)
solid [] = tt
solid (s ∷ ss) = (record { items = items_solid _; pairs = pairs_solid _ }, solid ss)

-- a proof whose low passes: high is judged, then the entries
pub behind-low : (f low high : ℕ) (es : List SealedEntry) → 1 ≤ low → low ≤ limit 2
    → weigh_proof 2 f (drafted low high es) ≡ unless (leb high (limit 2) && (range low high && eqb (length es) (high + 1 - low))) (fault Malformed Proof 3) (weigh_entries 2 f low (map sealed_body es) 5)
behind-low f low high es some fits =
    let tail = weigh_entries 2 f low (map sealed_body es) 5 in
    pass (within 1 (limit 2) low) (fault Malformed Proof 1) (unless (leb high (limit 2) && (range low high && eqb (length (map sealed_body es)) (high + 1 - low))) (fault Malformed Proof 3) tail) (and_from (leb 1 low) (leb low (limit 2)) (le-leb 1 low some) (le-leb low (limit 2) fits))
    ∙ ap (λ n. unless (leb high (limit 2) && (range low high && eqb n (high + 1 - low))) (fault Malformed Proof 3) tail) (length-map es sealed_body)

-- a proof that passes has low and high that fit their width
pub both_fit : (w f : ℕ) (b : ProofBody) (e : ℕ) → weigh_proof w f b ≡ Ok e → (b.low ≤ limit w) × (b.high ≤ limit w)
both_fit w f b e q =
    let all = weigh_entries w f b.low b.entries (entries_at w) in
    let counted = range b.low b.high && eqb (length b.entries) (b.high + 1 - b.low) in
    let whole = leb b.high (limit w) && counted in
    let one = passed (within 1 (limit w) b.low) (fault Malformed Proof 1) (unless whole (fault Malformed Proof (1 + w)) all) e q in
    let two = passed whole (fault Malformed Proof (1 + w)) all e one.1 in (
      leb-true b.low (limit w) (and_parts (leb 1 b.low) (leb b.low (limit w)) one.0).1,
      leb-true b.high (limit w) (and_parts (leb b.high (limit w)) counted two.0).0,
    )

-- the frame ends with its bytes
closes : (b : ProofBody) (bs : List ℕ) (e : ℕ) → e ≡ length bs → ending Proof bs b e ≡ Ok b
closes b bs e q = pass (leb (length bs) e) (fault Malformed Proof e) (Ok b) (le-leb (length bs) e (omega (arith, q)))

module _ (w f : ℕ) (b : ProofBody) (solid : AllByRecursion Solid b.entries) where
  abbrev W : ℕ
  W = suc w

  read_back : (e : ℕ) → weigh_proof W f b ≡ Ok e → proof_of W f (proof_bytes W b) ≡ Ok b
  read_back e q =
      let z = proof-end w f b e solid q in
      weighed_proof w f b solid z.0 ∙ ap (λ r. and_then r (λ j. ending Proof (proof_bytes W b) b j)) q ∙ closes b (proof_bytes W b) e z.1

  same-refusals : (room : ℕ) → Framed W f b → write_proof W f b room ≡ after (proof_of W f (proof_bytes W b)) (room_for (length (proof_bytes W b)) room)
  same-refusals room framed = go (weigh_proof W f b) refl
    where
      go : (r : Result ℕ Fault) → weigh_proof W f b ≡ r → write_proof W f b room ≡ after (proof_of W f (proof_bytes W b)) (room_for (length (proof_bytes W b)) room)
      go (Ok e) q =
          ap (λ r. and_then r (λ j. room_for j room)) q
          ∙ ap (λ j. room_for j room) (proof-end w f b e solid q).1
          ∙ sym (ap (λ r. after r (room_for (length (proof_bytes W b)) room)) (read_back e q))
      go (Err d) q =
          ap (λ r. and_then r (λ j. room_for j room)) q
          ∙ sym (ap (λ r. after r (room_for (length (proof_bytes W b)) room)) (weighed_proof w f b solid framed ∙ ap (λ r. and_then r (λ j. ending Proof (proof_bytes W b) b j)) q))

  pub writes : (old new : List ℕ) (r : Result ℕ Fault) → r ≡ write_proof W f b (length old) → new ≡ filled r (proof_bytes W b) old → Bytes new → ProofWrites W f b old new r
  writes old new r e put all =
      record {
        buffer = put;
        back = λ n h.
            let bs = proof_bytes W b in
            let m = then_some (weigh_proof W f b) (λ j. room_for j (length old)) n (sym e ∙ h) in
            let p = passed (leb m.0 (length old)) (fault NoRoom Frame 0) (Ok m.0) n m.2 in
            let same : m.0 ≡ n = same_ok m.0 n p.1 in
            let long : n ≡ length bs = sym same ∙ (proof-end w f b m.0 solid m.1).1 in
            let front : take n new ≡ bs = ap (take n) (put ∙ ap (λ x. filled x bs old) h) ∙ take_at bs (drop n old) n (sym long) in
            let read = read_back m.0 m.1 in
            let pure : Bytes bs = subst Bytes front (bytes_part new 0 n all) in
            let k : ProofAnswered W f bs (Ok b) = subst (ProofAnswered W f bs) read (reads w f bs pure).answered in
            (k.0, long, ap (proof_of W f) front ∙ read);
        same = λ framed. e ∙ same-refusals (length old) framed;
      }
