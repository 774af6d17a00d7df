-- A reading that mixes two states is stale.
use Rattle.std.proofs.Common.{◌≡◌, ℕ, ◌-◌, ◌<◌, List, [], ◌∷◌, ◌++◌, map, get_or, Ok, Err, Result, sym, refl, ap, ◌∙◌, subst, inl, arith, lit≤}
use Rattle.std.specs.List.{ContainsAt as Has}
use Rattle.std.proofs.ByRecursion.{all-has}
use Rattle.fault.specs.declared.Fault.{Fault}
use Rattle.fault.specs.declared.Cause.TheVariants.{Stale}
use Rattle.fault.specs.declared.Layer.TheVariants.{Reader}
use Rattle.fault.specs.Codes.{fault}
use Rattle.siphash.specs.SipHash.{ending, little, run, sip_hash, sip_round, sip_rounds}
use Rattle.digest.specs.Fnv.{fnv_words, hashed, step}
use Rattle.seal.specs.Seals.{passes}
use Rattle.entry.specs.Bodies.{EntryBody, ItemBody, SealedBody, sealed_bytes}
use Rattle.proof.specs.Bodies.{ProofBody, proof_bytes}
use Rattle.proof.specs.Rules.{entries_at, proof_of}
use Rattle.reading.specs.Bodies.{ReadingBody, ReadingItemBody, reading_of}
use Rattle.request.specs.Bodies.{WriteBody}
use Rattle.history.specs.Commits.{Wrote}
use Rattle.history.specs.Commits as commits
use Rattle.history.specs.Entries.{entry_at, recorded, versions}
use Rattle.history.specs.Events.{width}
use Rattle.history.specs.Tables.{Case, Read, Under}
use Rattle.history.proofs.Writes.{written_from}
use Rattle.reader.specs.Accepted.{HonestProof, entry_of}
use Rattle.reader.specs.Checks.{CheckAnswers, Matched, NothingNewer, Writes, along, check_table, highest, item_of, item_rows, items_at, read_item_bytes, sealed_rows}
use Rattle.reader.specs.Example.{digest as fnv, reading_bytes, sealed, signed, tag as sip, write}
use Rattle.reader.proofs.Clear.{Clear, along_clear}
use Rattle.reader.proofs.Members.{has_here, has-map, has_there, has_unmap}
use Rattle.reader.proofs.Rows.{sealed_clear}
use Rattle.worked.specs.Readings.{BothTwice, MixedIsStale, mixed}

-- behind rows that are clear the others decide
behind_clear : {A : Type 0} (P : A → Type 0) (cs ds : List Case) (r : Result A Fault) → Clear cs → Under (cs ++ ds) P r → Under ds P r
behind_clear P [] ds r none u = u
behind_clear P (c ∷ cs) ds r (n, h) u = behind_clear P cs ds r h (u.1 n)

module _ (digest : List ℕ → List ℕ) (tag : ℕ → List ℕ → List ℕ) (cs : List (List WriteBody)) (v u : List ℕ) (b : ProofBody) (honest : HonestProof digest (passes tag) cs b (mixed v u)) where
  -- the entry of a version from 1 to 3
  entry-of : (k : ℕ) → Has (versions 1 3) k → (s : SealedBody) × (Has b.entries s × (s.entry ≡ entry_at digest cs k))
  entry-of k has =
      let all : map entry_of b.entries ≡ map (entry_at digest cs) (versions 1 3) =
      honest.entries ∙ (λ i. map (entry_at digest cs) (versions (honest.range.0 i) (honest.range.1 i))) in
      has_unmap entry_of b.entries (entry_at digest cs k) (subst (λ l. Has l (entry_at digest cs k)) (sym all) (has-map (entry_at digest cs) (versions 1 3) k has))

  -- an entry records what its commit wrote
  records : (k x : ℕ) (w : List ℕ) → Wrote cs k x w → Has (entry_at digest cs k).items (record { item = x; digest = digest w })
  records k x w (low, high, is) =
      let from = written_from (get_or cs (k - 1) []) x w is in
      let it = from.1 in
      subst (λ (i : ItemBody). Has (entry_at digest cs k).items i) (λ i. record { item = it.1 i; digest = digest (it.2 i) })
      (has-map (recorded digest) (get_or cs (k - 1) []) from.0 it.0)

  matched : Wrote cs 1 5 v → Matched digest b.entries (record { item = 5; version = 1; value = v })
  matched wrote =
      let s = entry-of 1 (has_here 1 (2 ∷ 3 ∷ [])) in
      let e = s.1.1 in
      inl (lit≤ tt, (s.0, (s.1.0, ap (λ (x : EntryBody). x.version) e, subst (λ (x : EntryBody). Has x.items (record { item = 5; digest = digest v })) (sym e) (records 1 5 v wrote))))

  newer : (w : List ℕ) → Wrote cs 3 5 w → NothingNewer b.entries (record { item = 5; version = 1; value = v }) → ⊥
  newer w wrote none =
      let s = entry-of 3 (has_there 1 3 (2 ∷ 3 ∷ []) (has_there 2 3 (3 ∷ []) (has_here 3 []))) in
      let e = s.1.1 in
      let there : Writes s.0.entry 5 = subst (λ (x : EntryBody). Writes x 5) (sym e) (has-map item_of (entry_at digest cs 3).items (record { item = 5; digest = digest w }) (records 3 5 w wrote)) in
      let late : 1 < s.0.entry.version = let n = ap (λ (x : EntryBody). x.version) e in omega arith in
      all-has (λ (x : SealedBody). 1 < x.entry.version → Writes x.entry 5 → ⊥) b.entries s.0 none s.1.0 late there

  stale : (r : Result ℕ Fault) → BothTwice cs v u → Under (check_table digest (passes tag) b.low b.high b.entries (mixed v u)) (λ m. m ≡ highest (mixed v u)) r → r ≡ Err (fault Stale Reader 2)
  stale r twice under =
      let tags = along (sealed_bytes width) (sealed_rows (passes tag)) (entries_at width) b.entries in
      let items = along read_item_bytes (item_rows digest b.entries) items_at (mixed v u) in
      let clear = along_clear (sealed_bytes width) (sealed_rows (passes tag)) _ (sealed_clear (passes tag)) (entries_at width) b.entries honest.tags in
      let rest = behind_clear (λ m. m ≡ highest (mixed v u)) tags items r clear (under.1 (λ wrong. wrong honest.range)) in
      (rest.1 (λ n. n (matched twice.five))).0 (newer twice.five_again.0 twice.five_again.1)

-- behind the readers of the two frames
answer-under : (digest : List ℕ → List ℕ) (tag : ℕ → List ℕ → List ℕ) (f : ℕ) (reading proof : List ℕ) (r : Result ℕ Fault) (ps : List ReadingItemBody) (b : ProofBody)
    → reading_of width reading ≡ Ok (record { items = ps }) → proof_of width f proof ≡ Ok b → CheckAnswers digest (passes tag) f reading proof r
    → Under (check_table digest (passes tag) b.low b.high b.entries ps) (λ m. m ≡ highest ps) r
answer-under digest tag f reading proof r ps b read proven a =
    let behind : ReadingBody → ProofBody → Result ℕ Fault → Type 0 = λ q c. Under (check_table digest (passes tag) c.low c.high c.entries q.items) (λ m. m ≡ highest q.items) in
    subst (λ (x : Result ProofBody Fault). Read x (behind (record { items = ps })) r) proven
    (subst (λ (x : Result ReadingBody Fault). Read x (λ q. Read (proof_of width f proof) (behind q)) r) read a)

-- three commits, and a proof of their entries with the tags of boards 0 and 1
sample : List (List WriteBody)
sample = (write 5 (1 ∷ []) ∷ write 6 (2 ∷ []) ∷ []) ∷ (write 7 (3 ∷ []) ∷ []) ∷ (write 5 (4 ∷ []) ∷ write 6 (5 ∷ []) ∷ []) ∷ []

signed_by_two : ℕ → SealedBody
signed_by_two k = let e = entry_at fnv sample k in sealed e (signed 0 e) (signed 1 e)

sample_proof : ProofBody
sample_proof = record { low = 1; high = 3; entries = signed_by_two 1 ∷ signed_by_two 2 ∷ signed_by_two 3 ∷ [] }

sample_twice : BothTwice sample (1 ∷ []) (5 ∷ [])
unfolding sample commits.written
sample_twice = record {
  five = (omega arith, omega arith, refl);
  six = (2 ∷ [], (omega arith, omega arith, refl));
  five_again = (4 ∷ [], (omega arith, omega arith, refl));
  six_again = (omega arith, omega arith, refl);
}

sample_proven : proof_of width 1 (proof_bytes width sample_proof) ≡ Ok sample_proof
unfolding sample signed_by_two sample_proof fnv_words hashed step sip_hash run sip_rounds sip_round little ending
sample_proven = refl

sample_honest : HonestProof fnv (passes sip) sample sample_proof (mixed (1 ∷ []) (5 ∷ []))
unfolding sample signed_by_two sample_proof
sample_honest = record {
  range = (refl, refl);
  enough = omega arith;
  entries = refl;
  tags = ((refl, (refl, tt)), ((refl, (refl, tt)), ((refl, (refl, tt)), tt)));
}

pub mixed-is_stale : MixedIsStale
mixed-is_stale = record {
  refused = λ digest tag f reading proof r m a.
      stale digest tag m.commits m.old m.new m.body m.honest r m.twice
      (answer-under digest tag f reading proof r (mixed m.old m.new) m.body m.read m.proven a);
  occurs = (
    reading_bytes (mixed (1 ∷ []) (5 ∷ [])),
    (
      proof_bytes width sample_proof,
      record { commits = sample; old = 1 ∷ []; new = 5 ∷ []; twice = sample_twice; body = sample_proof; read = refl; proven = sample_proven; honest = sample_honest },
    ),
  );
}
