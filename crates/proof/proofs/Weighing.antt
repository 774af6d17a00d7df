-- Records that are to be written, and what their reader says of their bytes.
use Rattle.std.proofs.Common.{◌≡◌, ℕ, zero, suc, ◌+◌, ◌-◌, ◌≤◌, Bool, true, false, ◌&&◌, eqb, leb, List, [], ◌∷◌, ◌++◌, length, take, drop, Some, None, Ok, Err, Option, Result, sym, refl, ap, ◌∙◌, subst, arith}
use Rattle.std.specs.List.{flat_map, AllByRecursion}
use Rattle.std.proofs.lemmas.List.{append_assoc, append-nil, length-append, length-take-le, take-append-drop}
use Rattle.std.proofs.lemmas.Bool.{le-leb, leb-true, eq-eqb, eqb-true, and_parts, and_from}
use Rattle.fault.specs.declared.Fault.{Fault}
use Rattle.fault.specs.declared.Layer.TheVariants.{Proof}
use Rattle.fault.specs.declared.Cause.TheVariants.{Malformed}
use Rattle.fault.specs.Codes.{fault}
use Rattle.octets.specs.Numbers.{limit, be, number_at}
use Rattle.octets.proofs.NumberLaws.{length-be, number-there}
use Rattle.record.specs.Chains.{unless, and_then, guards}
use Rattle.record.specs.Formats.{is, up_to, within}
use Rattle.record.proofs.Steps.{never, passed, then_some, same_ok}
use Rattle.record.proofs.Rules.{unless_then}
use Rattle.entry.specs.Bodies.{ItemBody, PairBody, SealedBody, item_bytes, pair_bytes, head_bytes, entry_bytes, sealed_bytes}
use Rattle.ruled.specs.Ruled.{Ruled, numeral, text, end, free, follow, scan, ending}
use Rattle.ruled.proofs.Tables.{guards_passed}
use Rattle.ruled.proofs.Scans.{lies, text-step, scan-follow, guards_then}
use Rattle.proof.specs.Bodies.{ProofBody, proof_bytes, range}
use Rattle.proof.specs.Rules.{numbered, records_from, items_from, pairs_from, sealed_from, entries_from, proof_of, item_number, pair_number}
use Rattle.proof.specs.Writing.{weigh_records, weigh_sealed, weigh_entries, weigh_proof, Framed}
use Rattle.proof.proofs.Records.{piece_bytes, item_of, pair_of}
use Rattle.proof.proofs.Frames.{digest_of, tag_of}

-- a number that lies at a place is the one that was written, whatever its size
pub number-written : (bs post : List ℕ) (at w n : ℕ) → at ≤ length bs → drop at bs ≡ be (suc w) n ++ post → number_at bs at (suc w) ≡ n
number-written bs post at w n h d =
    let front = take at bs in
    let long : length front ≡ at = length-take-le at bs h in
    let whole : front ++ (be (suc w) n ++ post) ≡ bs = ap (λ x. front ++ x) (sym d) ∙ take-append-drop at bs in
    subst (λ j. number_at bs j (suc w) ≡ n) long (subst (λ x. number_at x (length front) (suc w) ≡ n) whole (number-there front post w n))

module _ {A B : Type 0} (k : A → ℕ → Result B Fault) (bs : List ℕ) (at : ℕ) (start : at ≤ length bs) where
  -- a number that was written is judged there
  pub number-judged : (w n : ℕ) (ok : ℕ → Bool) (rules : ℕ → ℕ → List (Bool × Fault)) (next : ℕ → Ruled A) (post : List ℕ) → drop at bs ≡ be (suc w) n ++ post
      → scan Proof (numeral (suc w) ok rules next) k bs at ≡ unless (ok n) (fault Malformed Proof at) (guards (rules n at) (scan Proof (next n) k bs (at + suc w)))
  number-judged w n ok rules next post d =
      let y = lies bs (be (suc w) n) post at (suc w) start (length-be (suc w) n) d in
      let t = le-leb (at + suc w) (length bs) y.room in
      let e = number-written bs post at w n start d in
      λ i. unless (t i) (fault Malformed Proof (length bs)) (unless (ok (e i)) (fault Malformed Proof at) (guards (rules (e i) at) (scan Proof (next (e i)) k bs (at + suc w))))

unless-guards_then : {A B : Type 0} (b : Bool) (f : Fault) (rows : List (Bool × Fault)) (r : Result A Fault) (g : A → Result B Fault) → and_then (unless b f (guards rows r)) g ≡ unless b f (guards rows (and_then r g))
unless-guards_then b f rows r g = unless_then b f (guards rows r) g ∙ ap (unless b f) (guards_then rows r g)

then_then : {A B C : Type 0} (r : Result A Fault) (g : A → Result B Fault) (h : B → Result C Fault) → and_then (and_then r g) h ≡ and_then r (λ x. and_then (g x) h)
then_then (Ok x) g h = refl
then_then (Err e) g h = refl

then_same : {A B : Type 0} (r : Result A Fault) (g h : A → Result B Fault) → ((x : A) → r ≡ Ok x → g x ≡ h x) → and_then r g ≡ and_then r h
then_same (Ok x) g h e = e x refl
then_same (Err f) g h e = refl

-- records: a kind with its number and string
module _ {R : Type 0} (key : R → ℕ) (body : R → List ℕ) (make : ℕ → List ℕ → R) (again : (x : R) → make (key x) (body x) ≡ x) (top size : ℕ) (asked : Option ℕ) where
  abbrev bytes : R → List ℕ
  bytes = piece_bytes key body

  abbrev Long : R → Type 0
  Long x = length (body x) ≡ size

  pub weighed_records : {B : Type 0} (bs : List ℕ) (xs : List R) (last : Option ℕ) (at : ℕ) (post : List ℕ) (k : List R → ℕ → Result B Fault) → AllByRecursion Long xs → at ≤ length bs → drop at bs ≡ flat_map bytes xs ++ post
      → scan Proof (records_from make top size asked (length xs) last) k bs at ≡ and_then (weigh_records key top size asked (length xs) last xs at) (λ e. k xs e)
  weighed_records bs [] last at post k h start d = refl
  weighed_records bs (x ∷ xs) last at post k h start d =
      let n = key x in
      let rest = flat_map bytes xs ++ post in
      let lay : drop at bs ≡ be 1 n ++ (body x ++ rest) = d ∙ append_assoc (bytes x) (flat_map bytes xs) post in
      let one = lies bs (be 1 n) (body x ++ rest) at 1 start refl lay in
      let two = lies bs (body x) rest (at + 1) size one.room h.0 one.behind in
      let c = records_from make top size asked (length xs) (Some n) in
      let there = at + 1 + size in
      let behind : scan Proof (text size (λ s. follow c (λ ys. end (make n s ∷ ys)))) k bs (at + 1) ≡ and_then (weigh_records key top size asked (length xs) (Some n) xs there) (λ e. k (x ∷ xs) e) =
      text-step Proof k bs (at + 1) size (body x) (λ s. follow c (λ ys. end (make n s ∷ ys))) two.room two.part
      ∙ scan-follow Proof bs c (λ ys. end (make n (body x) ∷ ys)) k there
      ∙ weighed_records bs xs (Some n) there post (λ ys e. k (make n (body x) ∷ ys) e) h.1 two.room two.behind
      ∙ ap (λ y. and_then (weigh_records key top size asked (length xs) (Some n) xs there) (λ e. k (y ∷ xs) e)) (again x)
      in
      number-judged k bs at start 0 n (up_to top) (numbered asked last) (λ m. text size (λ s. follow (records_from make top size asked (length xs) (Some m)) (λ ys. end (make m s ∷ ys)))) (body x ++ rest) lay
      ∙ ap (λ r. unless (up_to top n) (fault Malformed Proof at) (guards (numbered asked last n at) r)) behind
      ∙ sym (unless-guards_then (up_to top n) (fault Malformed Proof at) (numbered asked last n at) (weigh_records key top size asked (length xs) (Some n) xs there) (λ e. k (x ∷ xs) e))

  -- where they pass, as many were due as there are, and they end behind the last
  pub weighed_end : (n : ℕ) (last : Option ℕ) (xs : List R) (at e : ℕ) → AllByRecursion Long xs → weigh_records key top size asked n last xs at ≡ Ok e → (length xs ≡ n) × (e ≡ at + length (flat_map bytes xs))
  weighed_end zero last [] at e h q = (refl, let same = same_ok at e q in omega (arith, same))
  weighed_end zero last (x ∷ xs) at e h q = never (fault Malformed Proof at) e q
  weighed_end (suc n) last [] at e h q = never (fault Malformed Proof at) e q
  weighed_end (suc n) last (x ∷ xs) at e h q =
      let rest = weigh_records key top size asked n (Some (key x)) xs (at + 1 + size) in
      let one = passed (up_to top (key x)) (fault Malformed Proof at) (guards (numbered asked last (key x) at) rest) e q in
      let two = guards_passed (numbered asked last (key x) at) rest e one.1 in
      let r = weighed_end n (Some (key x)) xs (at + 1 + size) e h.1 two.1 in
      (ap suc r.0, omega (arith, r.1, length-append (body x) (flat_map bytes xs), h.0))

-- what the types of the code give: digests of 32 bytes and tags of 16
pub record Solid (s : SealedBody) : Type 0 where
  pub items : AllByRecursion (λ i. length i.digest ≡ 32) s.entry.items
  pub pairs : AllByRecursion (λ p. length p.tag ≡ 16) s.pairs

abbrev weigh_items : List ItemBody → ℕ → Result ℕ Fault
weigh_items xs at = weigh_records item_number 63 32 None (length xs) None xs at

abbrev weigh_pairs : ℕ → List PairBody → ℕ → Result ℕ Fault
weigh_pairs f ps at = weigh_records pair_number 255 16 (Some f) (f + 1) None ps at

module _ (w f : ℕ) where
  abbrev W : ℕ
  W = suc w

  pub weighed_sealed : {B : Type 0} (bs : List ℕ) (due : ℕ) (s : SealedBody) (at : ℕ) (post : List ℕ) (k : SealedBody → ℕ → Result B Fault) → Solid s → length s.pairs ≡ f + 1 → at ≤ length bs → drop at bs ≡ sealed_bytes W s ++ post
      → scan Proof (sealed_from W f due) k bs at ≡ and_then (weigh_sealed W f due s at) (λ e. k s e)
  weighed_sealed {B} bs due s at post k h full start d =
      let v = s.entry.version in
      let xs = s.entry.items in
      let n = length xs in
      let its = flat_map item_bytes xs in
      let ps = flat_map pair_bytes s.pairs in
      let lay : drop at bs ≡ be W v ++ (n ∷ (its ++ (ps ++ post))) =
      d
      ∙ append_assoc (entry_bytes W s.entry) ps post
      ∙ append_assoc (head_bytes W v n) its (ps ++ post)
      ∙ append_assoc (be W v) (n ∷ []) (its ++ (ps ++ post))
      in
      let one = lies bs (be W v) (n ∷ (its ++ (ps ++ post))) at W start (length-be W v) lay in
      let two = lies bs (n ∷ []) (its ++ (ps ++ post)) (at + W) 1 one.room refl one.behind in
      let there = at + W + 1 in
      let three = lies bs its (ps ++ post) there (length its) two.room refl two.behind in
      let last : List ItemBody → List PairBody → SealedBody = λ us ys. record { entry = record { version = v; items = us }; pairs = ys } in
      let back : List ItemBody → Ruled SealedBody = λ us. follow (pairs_from f (f + 1)) (λ ys. end (last us ys)) in
      let pairs : (e : ℕ) → weigh_items xs there ≡ Ok e → scan Proof (back xs) k bs e ≡ and_then (weigh_pairs f s.pairs e) (λ j. k s j) = λ e q.
      let r = weighed_end item_number digest_of item_of (λ x. refl) 63 32 None n None xs there e h.items q in
      let same : there + length its ≡ e = sym r.1 in
      let fits : e ≤ length bs = omega (arith, three.room, same) in
      let lies-there : drop e bs ≡ ps ++ post = ap (λ j. drop j bs) (sym same) ∙ three.behind in
      scan-follow Proof bs (pairs_from f (f + 1)) (λ ys. end (last xs ys)) k e
      ∙ ap (λ m. scan Proof (pairs_from f m) (λ ys j. k (last xs ys) j) bs e) (sym full)
      ∙ weighed_records pair_number tag_of pair_of (λ x. refl) 255 16 (Some f) bs s.pairs None e post (λ ys j. k (last xs ys) j) h.pairs fits lies-there
      ∙ ap (λ m. and_then (weigh_records pair_number 255 16 (Some f) m None s.pairs e) (λ j. k s j)) full
      in
      let rest : scan Proof (follow (items_from n) back) k bs there ≡ and_then (and_then (weigh_items xs there) (weigh_pairs f s.pairs)) (λ j. k s j) =
      scan-follow Proof bs (items_from n) back k there
      ∙ weighed_records item_number digest_of item_of (λ x. refl) 63 32 None bs xs None there (ps ++ post) (λ us e. scan Proof (back us) k bs e) h.items two.room two.behind
      ∙ then_same (weigh_items xs there) (λ e. scan Proof (back xs) k bs e) (λ e. and_then (weigh_pairs f s.pairs e) (λ j. k s j)) pairs
      ∙ sym (then_then (weigh_items xs there) (weigh_pairs f s.pairs) (λ j. k s j))
      in
      let a = is due v in
      let b = within 1 8 n in
      let p = fault Malformed Proof at in
      let q = fault Malformed Proof (at + W) in
      let all = and_then (weigh_items xs there) (weigh_pairs f s.pairs) in
      number-judged k bs at start w v (is due) free (λ version. numeral 1 (within 1 8) free (λ count. follow (items_from count) (λ items. follow (pairs_from f (f + 1)) (λ pairs. end (record { entry = record { version = version; items = items }; pairs = pairs }))))) (n ∷ (its ++ (ps ++ post))) lay
      ∙ ap (unless a p) (number-judged k bs (at + W) one.room 0 n (within 1 8) free (λ count. follow (items_from count) (λ items. follow (pairs_from f (f + 1)) (λ pairs. end (record { entry = record { version = v; items = items }; pairs = pairs })))) (its ++ (ps ++ post)) one.behind
      ∙ ap (unless b q) rest)
      ∙ sym (unless_then a p (unless b q all) (λ j. k s j) ∙ ap (unless a p) (unless_then b q all (λ j. k s j)))

  pub sealed-end : (due : ℕ) (s : SealedBody) (at e : ℕ) → Solid s → weigh_sealed W f due s at ≡ Ok e → (length s.pairs ≡ f + 1) × (e ≡ at + length (sealed_bytes W s))
  sealed-end due s at e h q =
      let v = s.entry.version in
      let xs = s.entry.items in
      let n = length xs in
      let there = at + W + 1 in
      let all = and_then (weigh_items xs there) (weigh_pairs f s.pairs) in
      let one = passed (is due v) (fault Malformed Proof at) (unless (within 1 8 n) (fault Malformed Proof (at + W)) all) e q in
      let two = passed (within 1 8 n) (fault Malformed Proof (at + W)) all e one.1 in
      let m = then_some (weigh_items xs there) (weigh_pairs f s.pairs) e two.1 in
      let x = weighed_end item_number digest_of item_of (λ y. refl) 63 32 None n None xs there m.0 h.items m.1 in
      let y = weighed_end pair_number tag_of pair_of (λ z. refl) 255 16 (Some f) (f + 1) None s.pairs m.0 e h.pairs m.2 in (
        y.0,
        omega (
          arith,
          x.1,
          y.1,
          length-append (entry_bytes W s.entry) (flat_map pair_bytes s.pairs),
          length-append (head_bytes W v n) (flat_map item_bytes xs),
          length-append (be W v) (n ∷ []),
          length-be W v,
        ),
      )

  pub weighed_entries : {B : Type 0} (bs : List ℕ) (due : ℕ) (ss : List SealedBody) (at : ℕ) (post : List ℕ) (k : List SealedBody → ℕ → Result B Fault) → AllByRecursion Solid ss → AllByRecursion (λ s. length s.pairs ≡ f + 1) ss → at ≤ length bs → drop at bs ≡ flat_map (sealed_bytes W) ss ++ post
      → scan Proof (entries_from W f due (length ss)) k bs at ≡ and_then (weigh_entries W f due ss at) (λ e. k ss e)
  weighed_entries bs due [] at post k h full start d = refl
  weighed_entries bs due (s ∷ ss) at post k h full start d =
      let n = length ss in
      let rest = flat_map (sealed_bytes W) ss ++ post in
      let c = entries_from W f (due + 1) n in
      let back : SealedBody → Ruled (List SealedBody) = λ x. follow c (λ xs. end (x ∷ xs)) in
      let lay : drop at bs ≡ sealed_bytes W s ++ rest = d ∙ append_assoc (sealed_bytes W s) (flat_map (sealed_bytes W) ss) post in
      let one = lies bs (sealed_bytes W s) rest at (length (sealed_bytes W s)) start refl lay in
      let more : (e : ℕ) → weigh_sealed W f due s at ≡ Ok e → scan Proof (back s) k bs e ≡ and_then (weigh_entries W f (due + 1) ss e) (λ j. k (s ∷ ss) j) = λ e q.
      let same : at + length (sealed_bytes W s) ≡ e = sym (sealed-end due s at e h.0 q).1 in
      let fits : e ≤ length bs = omega (arith, one.room, same) in
      scan-follow Proof bs c (λ xs. end (s ∷ xs)) k e
      ∙ weighed_entries bs (due + 1) ss e post (λ xs j. k (s ∷ xs) j) h.1 full.1 fits (ap (λ j. drop j bs) (sym same) ∙ one.behind)
      in
      scan-follow Proof bs (sealed_from W f due) back k at
      ∙ weighed_sealed bs due s at rest (λ x e. scan Proof (back x) k bs e) h.0 full.0 start lay
      ∙ then_same (weigh_sealed W f due s at) (λ e. scan Proof (back s) k bs e) (λ e. and_then (weigh_entries W f (due + 1) ss e) (λ j. k (s ∷ ss) j)) more
      ∙ sym (then_then (weigh_sealed W f due s at) (λ e. weigh_entries W f (due + 1) ss e) (λ j. k (s ∷ ss) j))

  pub entries-end : (due : ℕ) (ss : List SealedBody) (at e : ℕ) → AllByRecursion Solid ss → weigh_entries W f due ss at ≡ Ok e → AllByRecursion (λ s. length s.pairs ≡ f + 1) ss × (e ≡ at + length (flat_map (sealed_bytes W) ss))
  entries-end due [] at e h q = (tt, let same = same_ok at e q in omega (arith, same))
  entries-end due (s ∷ ss) at e h q =
      let m = then_some (weigh_sealed W f due s at) (λ j. weigh_entries W f (due + 1) ss j) e q in
      let x = sealed-end due s at m.0 h.0 m.1 in
      let y = entries-end (due + 1) ss m.0 e h.1 m.2 in
      ((x.0, y.0), omega (arith, x.1, y.1, length-append (sealed_bytes W s) (flat_map (sealed_bytes W) ss)))

  and_between : (a b c : Bool) → a ≡ true → c ≡ true → (a && (b && c)) ≡ b
  and_between a true c x y = and_from a (true && c) x y
  and_between a false c x y = ap (λ t. t && (false && c)) x

  -- a proof with a frame of its shape: what its reader says of its bytes
  pub weighed_proof : (b : ProofBody) → AllByRecursion Solid b.entries → Framed W f b → proof_of W f (proof_bytes W b) ≡ and_then (weigh_proof W f b) (λ e. ending Proof (proof_bytes W b) b e)
  weighed_proof b h framed =
      let bs = proof_bytes W b in
      let low = b.low in
      let high = b.high in
      let ss = b.entries in
      let n = high + 1 - low in
      let tail = flat_map (sealed_bytes W) ss in
      let k : ProofBody → ℕ → Result ProofBody Fault = ending Proof bs in
      let start : 0 ≤ length bs = omega arith in
      let one = lies bs (4 ∷ []) (be W low ++ (be W high ++ tail)) 0 1 start refl refl in
      let two = lies bs (be W low) (be W high ++ tail) 1 W one.room (length-be W low) one.behind in
      let three = lies bs (be W high) tail (1 + W) W two.room (length-be W high) two.behind in
      let last : List SealedBody → ProofBody = λ xs. record { low = low; high = high; entries = xs } in
      let c = entries_from W f low n in
      let rest : scan Proof (follow c (λ xs. end (last xs))) k bs (1 + W + W) ≡ and_then (weigh_entries W f low ss (1 + W + W)) (λ e. k b e) =
      scan-follow Proof bs c (λ xs. end (last xs)) k (1 + W + W)
      ∙ ap (λ m. scan Proof (entries_from W f low m) (λ xs e. k (last xs) e) bs (1 + W + W)) (sym framed.count)
      ∙ weighed_entries bs low ss (1 + W + W) [] (λ xs e. k (last xs) e) h framed.sealed three.room (three.behind ∙ sym (append-nil tail))
      in
      let all = weigh_entries W f low ss (1 + W + W) in
      let a = within 1 (limit W) low in
      let g = range low high in
      let whole = leb high (limit W) && (g && eqb (length ss) n) in
      let same : whole ≡ g = and_between (leb high (limit W)) g (eqb (length ss) n) (le-leb high (limit W) framed.high) (eq-eqb (length ss) n framed.count) in
      let p = fault Malformed Proof 1 in
      let q = fault Malformed Proof (1 + W) in
      let next-high : ℕ → ℕ → Ruled ProofBody = λ x y. follow (entries_from W f x (y + 1 - x)) (λ xs. end (record { low = x; high = y; entries = xs })) in
      let next_low : ℕ → Ruled ProofBody = λ x. numeral W (range x) free (next-high x) in
      number-judged k bs 0 start 0 4 (is 4) free (λ kind. numeral W (within 1 (limit W)) free next_low) (be W low ++ (be W high ++ tail)) refl
      ∙ number-judged k bs 1 one.room w low (within 1 (limit W)) free next_low (be W high ++ tail) one.behind
      ∙ ap (unless a p) (number-judged k bs (1 + W) two.room w high (range low) free (next-high low) tail two.behind
      ∙ ap (unless g q) rest
      ∙ ap (λ t. unless t q (and_then all (λ e. k b e))) (sym same))
      ∙ sym (unless_then a p (unless whole q all) (λ e. k b e) ∙ ap (unless a p) (unless_then whole q all (λ e. k b e)))

  -- where a proof passes, it has a frame of its shape, and ends with it
  pub proof-end : (b : ProofBody) (e : ℕ) → AllByRecursion Solid b.entries → weigh_proof W f b ≡ Ok e → Framed W f b × (e ≡ length (proof_bytes W b))
  proof-end b e h q =
      let low = b.low in
      let high = b.high in
      let ss = b.entries in
      let n = high + 1 - low in
      let all = weigh_entries W f low ss (1 + W + W) in
      let whole = leb high (limit W) && (range low high && eqb (length ss) n) in
      let one = passed (within 1 (limit W) low) (fault Malformed Proof 1) (unless whole (fault Malformed Proof (1 + W)) all) e q in
      let two = passed whole (fault Malformed Proof (1 + W)) all e one.1 in
      let x = and_parts (leb high (limit W)) (range low high && eqb (length ss) n) two.0 in
      let y = and_parts (range low high) (eqb (length ss) n) x.1 in
      let z = entries-end low ss (1 + W + W) e h two.1 in (
        record { high = leb-true high (limit W) x.0; count = eqb-true (length ss) n y.1; sealed = z.0 },
        omega (
          arith,
          z.1,
          length-append (be W low) (be W high ++ flat_map (sealed_bytes W) ss),
          length-append (be W high) (flat_map (sealed_bytes W) ss),
          length-be W low,
          length-be W high,
        ),
      )
