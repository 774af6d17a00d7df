-- The items read, judged one after the other against the entries of a proof.
use Rattle.std.proofs.Common.{◌≡◌, ℕ, ◌+◌, ◌-◌, ◌<◌, ◌≤◌, List, [], ◌∷◌, length, get_or, take, Some, None, Ok, Err, Result, sym, refl, ap, ◌∙◌, subst, inl, inr, arith}
use Rattle.std.specs.List.{ContainsAt as Has, flat_map, AllByRecursion as All}
use Rattle.std.proofs.lemmas.List.FromFn.{get_or-range_with_len, length-range_with_len}
use Rattle.std.proofs.ByRecursion.{All-get_or, All-more, All-weaker, has_get_or}
use Rattle.std.proofs.lemmas.List.{get_or-map, get_or-take, length-map, length-take, take_all}
use Rattle.std.proofs.lemmas.Bool.{cases_eq}
use Rattle.fault.specs.declared.Cause.{Cause}
use Rattle.fault.specs.declared.Cause.TheVariants.{Stale, Unmatched}
use Rattle.fault.specs.declared.Fault.{Fault}
use Rattle.fault.specs.declared.Layer.TheVariants.{Reader}
use Rattle.fault.specs.Codes.{fault}
use Rattle.entry.specs.Bodies.{SealedBody}
use Rattle.proof.specs.Bodies.{ProofBody}
use Rattle.proof.specs.Parts.{FoundAt, PartHolds, entry_place}
use Rattle.proof.specs.declared.part.SealedPart.{SealedPart}
use Rattle.proof.specs.declared.read.Proof.{Proof}
use Rattle.reading.specs.Bodies.{ReadingItemBody}
use Rattle.reading.specs.Readings.{Found, held, item_of, item_seen}
use Rattle.reading.specs.declared.Reading.{Reading}
use Rattle.reading.specs.declared.ReadingItem.{ReadingItem}
use Rattle.history.specs.Tables.{Under}
use Rattle.reader.specs.Accepted.{Proven, version_of}
use Rattle.reader.specs.Checks.{Matched, NothingNewer, Writes, along, item_rows, items_at, read_item_bytes}
use Rattle.reader.specs.Entries.{Records}
use Rattle.reader.specs.Items.{Agrees, FoundWrong, Judged, JudgesItems, WrongBy}
use Rattle.reader.specs.Tags.{Judges}
use Rattle.reader.proofs.Clear.{along_clear, along-refused, clear_ok}
use Rattle.reader.proofs.Ranges.{at_least_lowest, at_most-highest}
use Rattle.reader.proofs.Rows.{item_clear}
use Rattle.reader.proofs.Spots.{item_at, item-place, item_read}
use Rattle.reader.proofs.Tagging.{FoundEntry, empty}

-- entry k of a proof is of version low + k
module _ (f low high : ℕ) (es : List SealedBody) (proven : Proven f low high es) where
  count : length es ≡ high + 1 - low
  count = sym (length-map es version_of) ∙ ap length proven.each ∙ length-range_with_len low (high + 1 - low)

  version_at : (k : ℕ) → k < length es → (get_or es k empty).entry.version ≡ low + k
  version_at k lt =
      let n = count in
      sym (get_or-map version_of es k empty 0 lt) ∙ ap (λ (vs : List ℕ). get_or vs k 0) proven.each ∙ get_or-range_with_len low (high + 1 - low) k 0 (omega arith)

  module _ (x v : ℕ) (d : List ℕ) where
    -- the entry of a version is the only one
    only : (s : SealedBody) (j : ℕ) → Has es s → j < length es → s.entry.version ≡ v → (get_or es j empty).entry.version ≡ v → get_or es j empty ≡ s
    only s j (k, lt, is) inside a b =
        let one = version_at k lt in
        let two = version_at j inside in
        let same : (get_or es k empty).entry.version ≡ s.entry.version = ap version_of (is empty) in
        let index : j ≡ k = omega arith in
        ap (λ (i : ℕ). get_or es i empty) index ∙ is empty

    -- the entry of the version read is before every newer one, and agrees if those before this one do
    own : (j : ℕ) → low ≤ v → v < low + j → j ≤ length es → All (Agrees x v d) (take j es) → (s : SealedBody) × (Has es s × (s.entry.version ≡ v) × Records s.entry x d)
    own j from below inside all =
        let k = v - low in
        let n = length-take j es in
        let there : k < length es = omega arith in
        let before : k < j = omega arith in
        let at = version_at k there in
        let version : (get_or es k empty).entry.version ≡ v = omega arith in
        let agrees = subst (Agrees x v d) (get_or-take j es k empty before) (All-get_or (Agrees x v d) (take j es) k empty (omega arith) all) in
        (get_or es k empty, (has_get_or es k empty there, version, agrees.0 version))

-- the first j entries agree with an item read
abbrev pub Agreeing : Reading → Proof → ReadingItem → List ℕ → ℕ → Type 0
Agreeing reading proof read d j =
    (bs : List ℕ) (f : ℕ) (b : ProofBody) → Judged reading proof bs f b → All (Agrees read.item read.version d) (take j b.entries)

module _ (reading : Reading) (proof : Proof) (j : ℕ) where
  pub agreeing-more : (read : ReadingItem) (d : List ℕ) (part : SealedPart) → FoundEntry proof j (Some part) → Agreeing reading proof read d j → FoundWrong part read d None → Agreeing reading proof read d (j + 1)
  agreeing-more read d part found agreeing agrees bs f b judged =
      let there = found f b judged.holds in
      All-more (Agrees read.item read.version d) b.entries j empty there.0 (agreeing bs f b judged) (agrees f (entry_place 2 b j) (get_or b.entries j empty) (there.1 empty))

module _ (digest : List ℕ → List ℕ) (reading : Reading) (proof : Proof) where
  abbrev Passing : ProofBody → ReadingItemBody → Type 0
  Passing b p = Matched digest b.entries p × NothingNewer b.entries p

  -- the first i items pass
  abbrev pub PassedItems : ℕ → Type 0
  PassedItems i = (bs : List ℕ) (f : ℕ) (b : ProofBody) → Judged reading proof bs f b → All (Passing b) (take i (held reading).items)

  pub passed_judges : (i : ℕ) → ((bs : List ℕ) (f : ℕ) (b : ProofBody) → Judged reading proof bs f b → length (held reading).items ≤ i) → PassedItems i → JudgesItems digest reading proof (Ok tt)
  passed_judges i past before bs f b judged =
      clear_ok (λ u. Unit {0}) (along read_item_bytes (item_rows digest b.entries) items_at (held reading).items) tt
      (along_clear read_item_bytes (item_rows digest b.entries) (Passing b) (item_clear digest b.entries) items_at (held reading).items
      (subst (λ (ps : List ReadingItemBody). All (Passing b) ps) (take_all i (held reading).items (past bs f b judged)) (before bs f b judged))) tt

  module _ (i : ℕ) (read : ReadingItem) (here : (bs : List ℕ) → Found bs reading → item_seen (Some read) ≡ item_of reading i) where
    -- the item read as the reading holds it
    abbrev item : ReadingItemBody
    item = item_read read

    at : (bs : List ℕ) (f : ℕ) (b : ProofBody) → Judged reading proof bs f b → (i < length (held reading).items) × ((d : ReadingItemBody) → get_or (held reading).items i d ≡ item)
    at bs f b judged = item_at reading i bs judged.found read (here bs judged.found)

    has-item : (bs : List ℕ) (f : ℕ) (b : ProofBody) → Judged reading proof bs f b → Has (held reading).items item
    has-item bs f b judged =
        let it = at bs f b judged in
        subst (λ (p : ReadingItemBody). Has (held reading).items p) (it.1 item) (has_get_or (held reading).items i item it.0)

    -- a fault at this item is the answer
    refused : (c : Cause) (bs : List ℕ) (f : ℕ) (b : ProofBody) → Judged reading proof bs f b → PassedItems i
        → ((n : ℕ) → Under (item_rows digest b.entries n item) (λ (u : Unit {0}). Unit {0}) (Err (fault c Reader n)))
        → Judges (along read_item_bytes (item_rows digest b.entries) items_at (held reading).items) (Err (fault c Reader read.place))
    refused c bs f b judged before under =
        let place = item-place reading i bs judged.found read (here bs judged.found) in
        let it = at bs f b judged in
        along-refused read_item_bytes (item_rows digest b.entries) (Passing b) (λ u. Unit {0}) (item_clear digest b.entries) items_at i (held reading).items item (fault c Reader read.place) it.0 (before bs f b judged)
        (subst (λ (p : ReadingItemBody). Under (item_rows digest b.entries (items_at + length (flat_map read_item_bytes (take i (held reading).items))) p) (λ (u : Unit {0}). Unit {0}) (Err (fault c Reader read.place))) (sym (it.1 item))
        (subst (λ (n : ℕ). Under (item_rows digest b.entries n item) (λ (u : Unit {0}). Unit {0}) (Err (fault c Reader read.place))) place (under read.place)))

    unmatched : (b : ProofBody) → (Matched digest b.entries item → ⊥) → (n : ℕ) → Under (item_rows digest b.entries n item) (λ (u : Unit {0}). Unit {0}) (Err (fault Unmatched Reader n))
    unmatched b not n = (λ m. refl, λ m. absurd (m not))

    stale : (b : ProofBody) → Matched digest b.entries item → (NothingNewer b.entries item → ⊥) → (n : ℕ) → Under (item_rows digest b.entries n item) (λ (u : Unit {0}). Unit {0}) (Err (fault Stale Reader n))
    stale b matched not n = (λ m. absurd (m matched), λ m. (λ k. refl, λ k. absurd (k not)))

    -- a value at version 0
    pub value_at_0 : read.version ≡ 0 → 0 < length read.value.now → PassedItems i → JudgesItems digest reading proof (Err (fault Unmatched Reader read.place))
    value_at_0 zero some before bs f b judged = refused Unmatched bs f b judged before (unmatched b not)
      where
        not : Matched digest b.entries item → ⊥
        not (inl m) = let one = m.0 in omega arith
        not (inr m) = let n = ap length m.1 in omega arith

    -- the digest does not refuse the value
    pub value-short : 65535 < length read.value.now → (r : Result (Unit {0}) Fault) → JudgesItems digest reading proof r
    value-short long r bs f b judged =
        let it = at bs f b judged in
        let short = All-get_or (λ (p : ReadingItemBody). length p.value ≤ 65535) (held reading).items i item it.0 judged.short in
        let same = ap (λ (p : ReadingItemBody). length p.value) (it.1 item) in
        absurd (omega arith)

    module _ (d : List ℕ) (is : d ≡ digest read.value.now) (empty-at-0 : read.version ≡ 0 → length read.value.now ≡ 0) where
      empty_list : (xs : List ℕ) → length xs ≡ 0 → xs ≡ []
      empty_list [] e = refl
      empty_list (x ∷ xs) e = absurd (omega arith)

      -- where the entries up to the version read agree, the item is matched
      matched : (bs : List ℕ) (f : ℕ) (b : ProofBody) → Judged reading proof bs f b → (j : ℕ) → j ≤ length b.entries → (1 ≤ read.version → read.version < b.low + j) → All (Agrees read.item read.version d) (take j b.entries) → Matched digest b.entries item
      matched bs f b judged j inside below agrees = elim (cases_eq read.version 0) [
        | inl z ↦ inr (z, empty_list read.value.now (empty-at-0 z))
        | inr nz ↦
            let one : 1 ≤ read.version = omega arith in
            let least = at_least_lowest (held reading).items item (has-item bs f b judged) in
            let low = judged.range.0 in
            let s = own f b.low b.high b.entries judged.proven read.item read.version d j (omega arith) (below one) inside agrees in
            inl (one, (s.0, (s.1.0, s.1.1, subst (λ (e : List ℕ). Records s.0.entry read.item e) is s.1.2)))
      ]

      -- all entries agree: the item passes
      pub agreed_all : (j : ℕ) → FoundEntry proof j None → Agreeing reading proof read d j → PassedItems i → PassedItems (i + 1)
      agreed_all j found agreeing before bs f b judged =
          let past : length b.entries ≤ j = found f b judged.holds in
          let it = at bs f b judged in
          let es = b.entries in
          let all = subst (λ (ss : List SealedBody). All (Agrees read.item read.version d) ss) (take_all j es past) (agreeing bs f b judged) in
          let own = subst (λ (ss : List SealedBody). All (Agrees read.item read.version d) ss) (sym (take_all (length es) es (omega arith))) all in
          let most = at_most-highest (held reading).items item (has-item bs f b judged) in
          let high = judged.range.1 in
          let m = count f b.low b.high es judged.proven in
          All-more (Passing b) (held reading).items i item it.0 (before bs f b judged)
          (subst (Passing b) (sym (it.1 item)) (matched bs f b judged (length es) (omega arith) (λ one. omega arith) own, All-weaker (Agrees read.item read.version d) _ (λ s h. h.1) es all))

      module _ (j : ℕ) (part : SealedPart) (found : FoundEntry proof j (Some part)) (agreeing : Agreeing reading proof read d j) where
        -- an entry that does not agree refuses the item
        pub wrong-item : (c : Cause) → FoundWrong part read d (Some c) → PassedItems i → JudgesItems digest reading proof (Err (fault c Reader read.place))
        wrong-item c wrong before bs f b judged = go (wrong f (entry_place 2 b j) s (there.1 empty))
          where
            there : FoundAt (PartHolds f (entry_place 2 b j)) b.entries j (Some part)
            there = found f b judged.holds

            s : SealedBody
            s = get_or b.entries j empty

            version : (get_or b.entries j empty).entry.version ≡ b.low + j
            version = version_at f b.low b.high b.entries judged.proven j there.0

            lacks : (get_or b.entries j empty).entry.version ≡ read.version → (Records (get_or b.entries j empty).entry read.item d → ⊥) → Matched digest b.entries item → ⊥
            lacks v not (inr z) = let from = judged.proven.from in let none = z.0 in let at = version in omega arith
            lacks v not (inl (one, t)) =
                let same = only f b.low b.high b.entries judged.proven read.item read.version d t.0 j t.1.0 there.0 t.1.1 v in
                not (subst (λ (e : List ℕ). Records (get_or b.entries j empty).entry read.item e) (sym is) (subst (λ (u : SealedBody). Records u.entry read.item (digest read.value.now)) (sym same) t.1.2))

            go : WrongBy read.item read.version d (get_or b.entries j empty) (Some c) → Judges (along read_item_bytes (item_rows digest b.entries) items_at (held reading).items) (Err (fault c Reader read.place))
            go (inl (cause, v, not)) =
                subst (λ (k : Cause). Judges (along read_item_bytes (item_rows digest b.entries) items_at (held reading).items) (Err (fault k Reader read.place))) (sym cause)
                (refused Unmatched bs f b judged before (unmatched b (lacks v not)))
            go (inr (cause, newer, writes)) =
                let at = version in let inside = there.0 in
                subst (λ (k : Cause). Judges (along read_item_bytes (item_rows digest b.entries) items_at (held reading).items) (Err (fault k Reader read.place))) (sym cause)
                (refused Stale bs f b judged before
                (stale b (matched bs f b judged j (omega arith) (λ one. omega arith) (agreeing bs f b judged))
                (λ none. All-get_or (λ (u : SealedBody). read.version < u.entry.version → Writes u.entry read.item → ⊥) b.entries j empty there.0 none newer writes)))
