-- The tags of an entry and of a proof, one after the other.
use Rattle.std.proofs.Common.{◌≡◌, ℕ, zero, suc, ◌+◌, ◌*◌, ◌<◌, ◌≤◌, ◌⊎◌, List, [], ◌∷◌, ◌++◌, length, get_or, take, Some, None, Ok, Err, Option, sym, refl, ap, ◌∙◌, subst, inl, inr, arith}
use Rattle.std.specs.List.{AllByRecursion, flat_map, AllByRecursion as All}
use Rattle.std.proofs.ByRecursion.{All-get_or, All-more}
use Rattle.std.proofs.lemmas.List.{length-append, take_all}
use Rattle.fault.specs.declared.Fault.{Fault}
use Rattle.fault.specs.declared.Cause.TheVariants.{WrongTag}
use Rattle.fault.specs.declared.Layer.TheVariants.{Seal}
use Rattle.fault.specs.Codes.{fault}
use Rattle.label.specs.declared.Label.TheVariants.{Entry}
use Rattle.label.specs.Labels.{label_bytes, labelled}
use Rattle.seal.specs.Seals.{Refused, Taken, Verified}
use Rattle.entry.specs.Bodies.{ItemBody, PairBody, SealedBody, entry_bytes, item_bytes}
use Rattle.proof.specs.Bodies.{ItemIn, PairIn, ProofBody, SealedIn}
use Rattle.entry.specs.Bodies.{pair_bytes, sealed_bytes}
use Rattle.proof.specs.Rules.{entries_at}
use Rattle.proof.specs.Parts.{FoundAt, Holds, PairHolds, PartHolds, entry_place, tag_place}
use Rattle.proof.specs.declared.part.PairPart.{PairPart}
use Rattle.proof.specs.declared.part.SealedPart.{SealedPart}
use Rattle.proof.specs.declared.read.Proof.{Proof}
use Rattle.history.specs.Events.{width}
use Rattle.reader.specs.Checks.{Tagged, along, pair_rows, sealed_rows}
use Rattle.reader.specs.Tags.{Judges, JudgesProof, JudgesTags}
use Rattle.reader.proofs.Clear.{along_clear, along-refused, clear_ok, ok_clear}
use Rattle.reader.proofs.Rows.{Unrefuted, clear_sealed, pair_clear, sealed_clear, unrefuted_clear}

-- the bytes of pairs, and of an entry's body
pairs-long : (ps : List PairBody) (k : ℕ) → AllByRecursion PairIn ps → k ≤ length ps → length (flat_map pair_bytes (take k ps)) ≡ 17 * k
pairs-long ps zero in' le = refl
pairs-long [] (suc k) in' le = absurd (omega arith)
pairs-long (p ∷ ps) (suc k) (one, more) le =
    let tag = one.tag in
    let n = length-append (pair_bytes p) (flat_map pair_bytes (take k ps)) in
    let ih = pairs-long ps k more (omega arith) in
    omega arith

items-long : (is : List ItemBody) → AllByRecursion ItemIn is → length (flat_map item_bytes is) ≡ 33 * length is
items-long [] in' = refl
items-long (i ∷ is) (one, more) =
    let digest = one.digest in
    let n = length-append (item_bytes i) (flat_map item_bytes is) in
    let ih = items-long is more in
    omega arith

body-short : (f due : ℕ) (s : SealedBody) → SealedIn f due s → length (labelled Entry (entry_bytes width s.entry)) ≤ 65535
body-short f due s in' =
    let few = in'.few in
    let n = items-long s.entry.items in'.items in
    omega arith

module _ (passes : ℕ → List ℕ → List ℕ → Type 0) (part : SealedPart) where
  -- the first k tags pass
  abbrev pub Verifies : ℕ → Type 0
  Verifies k = (f at : ℕ) (s : SealedBody) → PartHolds f at part s → f ≤ 5 → All (λ (p : PairBody). p.signer ≤ 31) s.pairs → All (Tagged passes s.entry) (take k s.pairs)

  abbrev pub FoundPair : ℕ → Option PairPart → Type 0
  FoundPair k o = (f at : ℕ) (s : SealedBody) → PartHolds f at part s → f < 255 → FoundAt (PairHolds (tag_place 2 at s k)) s.pairs k o

  nobody : PairBody
  nobody = record { signer = 0; tag = [] }

  pub verifies_none : Verifies 0
  verifies_none f at s holds few signers = tt

  module _ (k : ℕ) (p : PairPart) (label : List ℕ) (found : FoundPair k (Some p)) (entry : label ≡ label_bytes Entry) where
    -- a tag as it stands in the frame, and as the proof holds it
    seen : (f at : ℕ) (s : SealedBody) → PartHolds f at part s → f ≤ 5 → passes p.signer (label ++ part.body.now) p.tag.now → Tagged passes s.entry (get_or s.pairs k nobody)
    seen f at s holds few t =
        let held = (found f at s holds (omega (arith, few))).1 nobody in
        let string : label ++ part.body.now ≡ labelled Entry (entry_bytes width s.entry) = ap (λ l. l ++ part.body.now) entry ∙ ap (λ b. label_bytes Entry ++ b) holds.body in
        subst (λ (a : ℕ). passes a (labelled Entry (entry_bytes width s.entry)) (get_or s.pairs k nobody).tag) held.signer
        (subst (λ (b : List ℕ). passes p.signer b (get_or s.pairs k nobody).tag) string
        (subst (λ (b : List ℕ). passes p.signer (label ++ part.body.now) b) held.tag t))

    unseen : (f at : ℕ) (s : SealedBody) → PartHolds f at part s → f ≤ 5 → Tagged passes s.entry (get_or s.pairs k nobody) → passes p.signer (label ++ part.body.now) p.tag.now
    unseen f at s holds few t =
        let held = (found f at s holds (omega (arith, few))).1 nobody in
        let string : label ++ part.body.now ≡ labelled Entry (entry_bytes width s.entry) = ap (λ l. l ++ part.body.now) entry ∙ ap (λ b. label_bytes Entry ++ b) holds.body in
        subst (λ (b : List ℕ). passes p.signer (label ++ part.body.now) b) (sym held.tag)
        (subst (λ (b : List ℕ). passes p.signer b (get_or s.pairs k nobody).tag) (sym string)
        (subst (λ (a : ℕ). passes a (labelled Entry (entry_bytes width s.entry)) (get_or s.pairs k nobody).tag) (sym held.signer) t))

    pub verifies_more : passes p.signer (label ++ part.body.now) p.tag.now → Verifies k → Verifies (k + 1)
    verifies_more t before f at s holds few signers =
        All-more (Tagged passes s.entry) s.pairs k nobody (found f at s holds (omega (arith, few))).0 (before f at s holds few signers) (seen f at s holds few t)

    -- a tag that does not pass is refused at its place; nothing else is
    pub wrong-tag : (e : Fault) → Verified {A = Unit {0}} passes p.signer (label ++ part.body.now) p.tag.now p.place (Err e) → Verifies k → JudgesTags passes part (Err e)
    wrong-tag e verified before f at s holds few signers = go verified
      where
        held : PairHolds (tag_place 2 at s k) p (get_or s.pairs k nobody)
        held = (found f at s holds (omega (arith, few))).1 nobody

        taken : Taken p.signer (length (label ++ part.body.now))
        taken =
            let board = All-get_or (λ (q : PairBody). q.signer ≤ 31) s.pairs k nobody (found f at s holds (omega (arith, few))).0 signers in
            let signer = held.signer in
            let string : label ++ part.body.now ≡ labelled Entry (entry_bytes width s.entry) = ap (λ l. l ++ part.body.now) entry ∙ ap (λ b. label_bytes Entry ++ b) holds.body in
            let long = ap length string in
            let short = body-short f s.entry.version s holds.in_range in
            (omega arith, omega arith)

        go : Refused p.signer (length (label ++ part.body.now)) e ⊎ (Taken p.signer (length (label ++ part.body.now)) × (passes p.signer (label ++ part.body.now) p.tag.now → ⊥) × (e ≡ fault WrongTag Seal p.place)) → Judges (sealed_rows passes at s) (Err e)
        go (inl refused) = absurd (refused.0 taken)
        go (inr (t, wrong, is)) =
            let inside = (found f at s holds (omega (arith, few))).0 in
            let stride = pairs-long s.pairs k holds.in_range.pairs (omega arith) in
            let place = held.place in
            let body = length (entry_bytes width s.entry) in
            let there : p.place ≡ at + body + length (flat_map pair_bytes (take k s.pairs)) + 1 = omega arith in
            let refusal : e ≡ fault WrongTag Seal (at + body + length (flat_map pair_bytes (take k s.pairs)) + 1) = is ∙ ap (fault WrongTag Seal) there in
            along-refused pair_bytes (pair_rows passes s.entry) (Tagged passes s.entry) (λ u. Unit {0}) (pair_clear passes s.entry) (at + body) k s.pairs nobody e inside (before f at s holds few signers)
            (λ n. ap Err refusal, λ n. absurd (n (λ t. wrong (unseen f at s holds few t))))

  all_verified : (f at : ℕ) (s : SealedBody) (k : ℕ) → PartHolds f at part s → f ≤ 5 → All (λ (p : PairBody). p.signer ≤ 31) s.pairs → length s.pairs ≤ k → Verifies k → Judges (sealed_rows passes at s) (Ok tt)
  all_verified f at s k holds few signers le before =
      clear_ok (λ u. Unit {0}) (sealed_rows passes at s) tt
      (sealed_clear passes at s (subst (λ (ps : List PairBody). All (Tagged passes s.entry) ps) (take_all k s.pairs le) (before f at s holds few signers))) tt

  pub verifies_end : (k : ℕ) → FoundPair k None → Verifies k → JudgesTags passes part (Ok tt)
  verifies_end k found before f at s holds few signers = all_verified f at s k holds few signers (found f at s holds (omega (arith, few))) before

-- what stands at an index of a proof's entries
abbrev pub FoundEntry : Proof → ℕ → Option SealedPart → Type 0
FoundEntry proof i o = (f : ℕ) (b : ProofBody) → Holds f proof b → FoundAt (PartHolds f (entry_place 2 b i)) b.entries i o

abbrev pub empty : SealedBody
empty = record { entry = record { version = 0; items = [] }; pairs = [] }

module _ (passes : ℕ → List ℕ → List ℕ → Type 0) (proof : Proof) where
  abbrev Boards : SealedBody → Type 0
  Boards s = All (λ (p : PairBody). p.signer ≤ 31) s.pairs

  -- of the first i entries no tag is refuted
  abbrev pub Proves : ℕ → Type 0
  Proves i = (f : ℕ) (b : ProofBody) → Holds f proof b → f ≤ 5 → All Boards b.entries → All (Unrefuted passes) (take i b.entries)

  pub proves-none : Proves 0
  proves-none f b holds few boards = tt

  module _ (i : ℕ) (part : SealedPart) (found : FoundEntry proof i (Some part)) (before : Proves i) where
    pub proves-more : (u : Unit {0}) → JudgesTags passes part (Ok u) → Proves (i + 1)
    proves-more u judged f b holds few boards =
        let here = found f b holds in
        let s = get_or b.entries i empty in
        let clear = ok_clear (λ u. Unit {0}) (sealed_rows passes (entry_place 2 b i) s) u (judged f (entry_place 2 b i) s (here.1 empty) few (All-get_or Boards b.entries i empty here.0 boards)) in
        All-more (Unrefuted passes) b.entries i empty here.0 (before f b holds few boards) (clear_sealed passes (entry_place 2 b i) s clear.0)

    pub proves-wrong : (e : Fault) → JudgesTags passes part (Err e) → JudgesProof passes proof (Err e)
    proves-wrong e judged f b holds few boards =
        let here = found f b holds in
        let s = get_or b.entries i empty in
        along-refused (sealed_bytes width) (sealed_rows passes) (Unrefuted passes) (λ u. Unit {0}) (unrefuted_clear passes) (entries_at width) i b.entries empty e here.0 (before f b holds few boards)
        (judged f (entry_place 2 b i) s (here.1 empty) few (All-get_or Boards b.entries i empty here.0 boards))

  pub proves-end : (i : ℕ) → FoundEntry proof i None → Proves i → JudgesProof passes proof (Ok tt)
  proves-end i found before f b holds few boards =
      clear_ok (λ u. Unit {0}) (along (sealed_bytes width) (sealed_rows passes) (entries_at width) b.entries) tt
      (along_clear (sealed_bytes width) (sealed_rows passes) (Unrefuted passes) (unrefuted_clear passes) (entries_at width) b.entries
      (subst (λ (ss : List SealedBody). All (Unrefuted passes) ss) (take_all i b.entries (found f b holds)) (before f b holds few boards))) tt
