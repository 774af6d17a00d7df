-- What is accepted holds, and against an honest board's proof what holds is accepted.
use Rattle.std.proofs.Common.{◌≡◌, ℕ, ◌-◌, ◌<◌, ◌≤◌, ◌⊎◌, List, [], map, length, get_or, take, sym, refl, ap, ◌∙◌, subst, inl, inr, arith}
use Rattle.std.specs.List.Sorted.{IsStrictlyIncreasing}
use Rattle.std.specs.List.{ContainsAt as Has, AllByRecursion as All}
use Rattle.std.proofs.ByRecursion.{all-has, All-weaker}
use Rattle.std.proofs.lemmas.List.{get_or-take, length-take, length-map}
use Rattle.std.proofs.lemmas.Bool.{cases_eq}
use Rattle.entry.specs.Bodies.{EntryBody, ItemBody, SealedBody}
use Rattle.proof.specs.Bodies.{ProofBody}
use Rattle.reading.specs.Bodies.{ReadingItemBody}
use Rattle.request.specs.Bodies.{WriteBody}
use Rattle.history.specs.Commits.{Left, Wrote, left_after, written}
use Rattle.history.specs.Entries.{entry_at, entry_of, recorded, signer_of, versions}
use Rattle.reader.specs.Checks.{Matched, NothingNewer, RightRange, Writes, highest, item_of}
use Rattle.reader.specs.Accepted.{AllTagged, Commits, FirstPart, Holds, HonestProof, HonestRuns, Made, NoClash, NoForgery, Passed, Proven, Sealed, Warranted, version_of}
use Rattle.reader.specs.Accepted as accepted
use Rattle.reader.proofs.Lefts.{Leaves, leaves, leaves_once}
use Rattle.reader.proofs.Members.{all_from-has, has-map, has_unmap}
use Rattle.reader.proofs.Quorums.{one_outside}
use Rattle.reader.proofs.Ranges.{at_least_lowest, at_most-highest, entry-of, in_range, lowest-highest}
use Rattle.reader.proofs.Recorded.{recorded-has, recorded-value, recorded-wrote}

-- a write among the first commits
wrote-take : (m : ℕ) (cs : Commits) (j x : ℕ) (v : List ℕ) → j ≤ m → Wrote cs j x v → Wrote (take m cs) j x v
wrote-take m cs j x v le (p, q, r) =
    let n = length-take m cs in
    let lt : j - 1 < m = omega arith in
    (p, omega arith, ap (λ (ws : List WriteBody). written ws x) (get_or-take m cs (j - 1) [] lt) ∙ r)

take-wrote : (m : ℕ) (cs : Commits) (j x : ℕ) (v : List ℕ) → Wrote (take m cs) j x v → (j ≤ m) × Wrote cs j x v
take-wrote m cs j x v (p, q, r) =
    let n = length-take m cs in
    let lt : j - 1 < m = omega arith in
    (omega arith, (p, omega arith, sym (ap (λ (ws : List WriteBody). written ws x) (get_or-take m cs (j - 1) [] lt)) ∙ r))

-- a first part has its commits where the whole has them
part_length : (xs ys : Commits) → FirstPart xs ys → length xs ≤ length ys
part_length xs ys e = let n = length-take (length xs) ys in let m = ap length e in omega arith

part_entry : (digest : List ℕ → List ℕ) (xs ys : Commits) (k : ℕ) → FirstPart xs ys → 1 ≤ k → k ≤ length xs → entry_at digest xs k ≡ entry_at digest ys k
part_entry digest xs ys k e low high =
    let lt : k - 1 < length xs = omega arith in
    ap (entry_of digest k) (sym (ap (λ (cs : Commits). get_or cs (k - 1) []) e) ∙ get_or-take (length xs) ys (k - 1) [] lt)

module _ (digest : List ℕ → List ℕ) (cs : Commits) (low high : ℕ) (es : List SealedBody) (ps : List ReadingItemBody) where
  -- the entries are those of the commits
  abbrev Genuine : SealedBody → Type 0
  Genuine s = (s.entry.version ≤ length cs) × (s.entry ≡ entry_at digest cs s.entry.version)

  module _ (from : 1 ≤ low) (each : map version_of es ≡ versions low high) (range : RightRange low high ps) (genuine : All Genuine es) where
    -- the items of the entry of version k
    items_at : (s : SealedBody) (k : ℕ) → Has es s → s.entry.version ≡ k → s.entry.items ≡ map (recorded digest) (get_or cs (k - 1) [])
    items_at s k m v =
        ap (λ (e : EntryBody). e.items) (all-has Genuine es s genuine m).1
        ∙ ap (λ i. map (recorded digest) (get_or cs (i - 1) [])) v

    enough : highest ps ≤ length cs
    enough = elim (cases_eq (highest ps) 0) [
      | inl z ↦ omega arith
      | inr nz ↦
          let le = lowest-highest ps in
          let l = range.0 in let h = range.1 in
          let s = entry-of low high es each (highest ps) (omega arith) (omega arith) in
          let g = (all-has Genuine es s.0 genuine s.1.0).0 in
          let v = s.1.1 in
          omega arith
    ]

    -- an item that passes both predicates is what the commits left
    item-holds : All (λ (s : SealedBody). IsStrictlyIncreasing (map item_of s.entry.items)) es → (p : ReadingItemBody) → Has ps p → ((w : List ℕ) → Wrote cs p.version p.item w → digest p.value ≡ digest w → p.value ≡ w) → Matched digest es p → NothingNewer es p → left_after (highest ps) cs p.item ≡ record { version = p.version; value = p.value }
    item-holds rise p in' clash matched newer = leaves_once (take (highest ps) cs) p.item _ _ (leaves (take (highest ps) cs) p.item) (record { above = above; wrote = wrote matched })
      where
        above : (j : ℕ) (v : List ℕ) → p.version < j → Wrote (take (highest ps) cs) j p.item v → ⊥
        above j v lt w =
            let t = take-wrote (highest ps) cs j p.item v w in
            let most = t.0 in
            let least = at_least_lowest ps p in' in
            let l = range.0 in let h = range.1 in
            let s = entry-of low high es each j (omega arith) (omega arith) in
            let version : s.0.entry.version ≡ j = s.1.1 in
            let has = has-map item_of _ _ (recorded-has digest (get_or cs (j - 1) []) p.item v t.1.2) in
            all-has (λ (u : SealedBody). p.version < u.entry.version → Writes u.entry p.item → ⊥) es s.0 newer s.1.0 (omega arith)
            (subst (λ (is : List ItemBody). Has (map item_of is) p.item) (sym (items_at s.0 j s.1.0 version)) has)

        wrote : Matched digest es p → ((p.version ≡ 0) × (p.value ≡ [])) ⊎ Wrote (take (highest ps) cs) p.version p.item p.value
        wrote (inr z) = inl z
        wrote (inl (one, s)) =
            let items = items_at s.0 p.version s.1.0 s.1.1 in
            let up = subst (λ (is : List ItemBody). IsStrictlyIncreasing (map item_of is)) items (all-has (λ (u : SealedBody). IsStrictlyIncreasing (map item_of u.entry.items)) es s.0 rise s.1.0) in
            let has = subst (λ (is : List ItemBody). Has is (record { item = p.item; digest = digest p.value })) items s.1.2 in
            let u = recorded-value digest (get_or cs (p.version - 1) []) p.item (digest p.value) up has in
            let most = at_most-highest ps p in' in
            let all = enough in
            let there : Wrote cs p.version p.item u.0 = (one, omega arith, u.1.0) in
            let same : p.value ≡ u.0 = clash u.0 there (sym u.1.1) in
            inr (wrote-take (highest ps) cs p.version p.item p.value most (subst (λ (w : List ℕ). Wrote cs p.version p.item w) (sym same) there))

    -- what the commits left passes both predicates
    holds-item : (p : ReadingItemBody) → Has ps p → left_after (highest ps) cs p.item ≡ record { version = p.version; value = p.value } → Matched digest es p × NothingNewer es p
    holds-item p in' e = (matched leave.wrote, all_from-has _ es newer)
      where
        leave : Leaves (take (highest ps) cs) p.item (record { version = p.version; value = p.value })
        leave = subst (λ (l : Left). Leaves (take (highest ps) cs) p.item l) e (leaves (take (highest ps) cs) p.item)

        matched : ((p.version ≡ 0) × (p.value ≡ [])) ⊎ Wrote (take (highest ps) cs) p.version p.item p.value → Matched digest es p
        matched (inl z) = inr z
        matched (inr w) =
            let t = take-wrote (highest ps) cs p.version p.item p.value w in
            let one : 1 ≤ p.version = w.0 in
            let most = t.0 in
            let least = at_least_lowest ps p in' in
            let l = range.0 in let h = range.1 in
            let s = entry-of low high es each p.version (omega arith) (omega arith) in
            let has = recorded-has digest (get_or cs (p.version - 1) []) p.item p.value t.1.2 in
            inl (one, (s.0, (s.1.0, s.1.1, subst (λ (is : List ItemBody). Has is (record { item = p.item; digest = digest p.value })) (sym (items_at s.0 p.version s.1.0 s.1.1)) has)))

        newer : (s : SealedBody) → Has es s → p.version < s.entry.version → Writes s.entry p.item → ⊥
        newer s m lt has =
            let i = in_range low high es each s m in
            let g = all-has Genuine es s genuine m in
            let u = recorded-wrote digest (get_or cs (s.entry.version - 1) []) p.item (subst (λ (is : List ItemBody). Has (map item_of is) p.item) (items_at s s.entry.version m refl) has) in
            let l = i.0 in let most = i.1 in let h = range.1 in let all = g.0 in
            leave.above s.entry.version u.0 lt (wrote-take (highest ps) cs s.entry.version p.item u.0 (omega arith) (omega arith, all, u.1))

module _ (digest : List ℕ → List ℕ) (passes : ℕ → List ℕ → List ℕ → Type 0) (f low high : ℕ) (es : List SealedBody) (ps : List ReadingItemBody) (proven : Proven f low high es) where
  -- an honest board is among the signers, so the entry is that of the commits
  signed : (faulty : List ℕ) (cs : Commits) (of : ℕ → Commits) → HonestRuns f faulty cs of → NoForgery digest passes faulty of es → AllTagged passes es → (s : SealedBody) → Has es s → Genuine digest cs low high es ps s
  signed faulty cs of runs forgery tags s m =
      let seal = all-has (Sealed f) es s proven.sealed m in
      let few = runs.few in let quorum = seal.quorum in
      let count = length-map s.pairs signer_of in
      let one = one_outside (map signer_of s.pairs) faulty seal.signers (omega arith) in
      let pair = has_unmap signer_of s.pairs one.0 one.1.0 in
      let honest : Has faulty pair.0.signer → ⊥ = λ b. one.1.1 (subst (λ (a : ℕ). Has faulty a) pair.1.1 b) in
      let made = all-has _ s.pairs pair.0 (all-has _ es s forgery m) pair.1.0 honest (all-has _ s.pairs pair.0 (all-has _ es s tags m) pair.1.0) in
      let first = runs.first pair.0.signer (all-has _ s.pairs pair.0 seal.members pair.1.0) honest in
      let least = (in_range low high es proven.each s m).0 in let from = proven.from in
      let most = made.0 in let whole = part_length (of pair.0.signer) cs first in
      (omega arith, sym made.1 ∙ part_entry digest (of pair.0.signer) cs s.entry.version first (omega arith) most)

  rise : All (λ (s : SealedBody). IsStrictlyIncreasing (map item_of s.entry.items)) es
  rise = All-weaker (Sealed f) _ (λ s seal. seal.items) es proven.sealed

  -- what passes against entries of the commits holds
  pub passed_holds : (cs : Commits) → All (Genuine digest cs low high es ps) es → NoClash digest cs ps → Passed digest passes low high es ps → Holds cs ps
  passed_holds cs genuine clash passed = (
    enough digest cs low high es ps proven.from proven.each passed.range genuine,
    all_from-has _ ps (λ p m. item-holds digest cs low high es ps proven.from proven.each passed.range genuine rise p m (all-has _ ps p clash m) (all-has _ ps p passed.matched m) (all-has _ ps p passed.fresh m)),
  )

  pub accepted-holds : Passed digest passes low high es ps → Warranted digest passes f es ps
  accepted-holds passed faulty cs of runs forgery clash =
      passed_holds cs (all_from-has _ es (signed faulty cs of runs forgery passed.tags)) clash passed

module _ (digest : List ℕ → List ℕ) (passes : ℕ → List ℕ → List ℕ → Type 0) (f : ℕ) (b : ProofBody) (ps : List ReadingItemBody) (proven : Proven f b.low b.high b.entries) (cs own : Commits) (first : FirstPart own cs) (honest : HonestProof digest passes own b ps) where
  -- an honest board's entries are those of the commits
  pub own_genuine : All (Genuine digest cs b.low b.high b.entries ps) b.entries
  own_genuine = all_from-has _ b.entries (λ s m.
      let at = has_unmap (entry_at digest own) (versions b.low b.high) s.entry (subst (λ (xs : List EntryBody). Has xs s.entry) honest.entries (has-map accepted.entry_of b.entries s m)) in
      let range = in_range b.low b.high b.entries proven.each s m in
      let least = range.0 in let most = range.1 in
      let from = proven.from in let enough = honest.enough in let high = honest.range.1 in
      let version : at.0 ≡ s.entry.version = ap (λ (e : EntryBody). e.version) at.1.1 in
      let whole = part_length own cs first in
      (omega arith, sym at.1.1 ∙ ap (entry_at digest own) version ∙ part_entry digest own cs s.entry.version first (omega arith) (omega arith)))

  -- what holds passes
  pub holds_passed : Holds cs ps → Passed digest passes b.low b.high b.entries ps
  holds_passed holds =
      let both : (p : ReadingItemBody) → Has ps p → Matched digest b.entries p × NothingNewer b.entries p = λ p m.
      holds-item digest cs b.low b.high b.entries ps proven.from proven.each honest.range own_genuine p m (all-has _ ps p holds.1 m) in
      record {
        range = honest.range;
        tags = honest.tags;
        matched = all_from-has _ ps (λ p m. (both p m).0);
        fresh = all_from-has _ ps (λ p m. (both p m).1);
      }
