-- Where a commit, and a number that is used up, bring a board.
use Rattle.std.proofs.Common.{◌≡◌, ℕ, ◌+◌, ◌%◌, ◌<◌, ◌≤◌, cond, eqb, List, [], ◌∷◌, ◌++◌, length, None, Option, sym, refl, ap, ◌∙◌, subst, inl, inr, arith}
use Rattle.std.proofs.lemmas.List.{length_push}
use Rattle.std.proofs.lemmas.Bool.{cases_eq, cases_lt}
use Rattle.store.specs.Slot.{Slot}
use Rattle.entry.specs.Bodies.{EntryBody, PairBody, entry_body}
use Rattle.window.specs.declared.slot.Slot as slots
use Rattle.window.specs.declared.ring.Window.{Window}
use Rattle.window.specs.Shares.{shares_below, shares_of}
use Rattle.window.specs.Windows.{entry_in, shares_in, slot_in, tag_in, tag_of}
use Rattle.numbers.specs.Clients.{TracksAll}
use Rattle.request.specs.Bodies.{ReadBody, WriteBody}
use Rattle.history.specs.Events.{width}
use Rattle.history.specs.Commits.{Passes, kept, left, leave, written}
use Rattle.history.specs.Entries.{Evicted, chain_after, chain_string, entry_at, entry_of, tag_by}
use Rattle.history.proofs.Chains.{chain_push, entry-append, entry_push}
use Rattle.history.proofs.Lefts.{left_push}
use Rattle.history.proofs.ReadLaws.{had_passes, kept-digest, passes_had}
use Rattle.board.specs.declared.state.Board.{Board}
use Rattle.board.specs.Standing.{Holds, Stands}
use Rattle.board.specs.Delivering.{Agrees, Committed}

-- a slot with no tags counts no shares
shares-none : (tag : ℕ → Option (List ℕ)) → ((s : ℕ) → tag s ≡ None) → shares_of tag ≡ 0
unfolding shares_below
shares-none tag none = simp none

tag_by_none : (s : ℕ) → tag_by [] s ≡ None
unfolding tag_by
tag_by_none s = refl

-- what the window holds of a version is in that version's slot
holds-slot : (digest : List ℕ → List ℕ) (f : ℕ) (w u : Window) (cs : List (List WriteBody)) (ps : List PairBody) (v : ℕ)
    → slot_in u v ≡ slot_in w v → Holds digest f w cs ps v → Holds digest f u cs ps v
holds-slot digest f w u cs ps v e h = record {
  entry = ap (λ (s : slots.Slot). entry_body s.entry) e ∙ h.entry;
  tags = λ s lt. ap (λ (x : slots.Slot). tag_of x s) e ∙ h.tags s lt;
  count = ap (λ (x : slots.Slot). shares_of (tag_of x)) e ∙ h.count;
  few = h.few;
  signers = h.signers;
}

-- an entry stays as it was when commits are added
holds_more : (digest : List ℕ → List ℕ) (f : ℕ) (w : Window) (cs more : List (List WriteBody)) (ps : List PairBody) (v : ℕ)
    → 1 ≤ v → v ≤ length cs → Holds digest f w cs ps v → Holds digest f w (cs ++ more) ps v
holds_more digest f w cs more ps v low high h = record {
  entry = h.entry ∙ sym (entry-append digest cs more v low high);
  tags = h.tags;
  count = h.count;
  few = h.few;
  signers = h.signers;
}

module _ {S D L : Type 0} (holds : S → ℕ → Slot) (digest : List ℕ → List ℕ) (tagOf' : L → ℕ → List ℕ → List ℕ)
    (tag : ℕ → List ℕ → List ℕ) (f own : ℕ) where
  -- a read agrees with what the store holds exactly when it passes
  module _ (b : Board S D L) (cs : List (List WriteBody)) (us : ℕ → List ℕ) (ps : ℕ → List PairBody)
      (st : Stands holds digest tagOf' tag f own b cs us ps) where
    held-digest : (x : ℕ) → x < 64 → cond (eqb (holds b.store x).version 0) (digest []) (holds b.store x).digest ≡ digest (left cs x).value
    held-digest x lt =
        ap (λ (s : Slot). cond (eqb s.version 0) (digest []) s.digest) (st.items x lt) ∙ kept-digest digest cs x

    pub agrees_passes : (r : ReadBody) → Agrees digest (holds b.store) r → Passes digest cs r
    agrees_passes r (lt, version, same) =
        had_passes digest cs r (version ∙ ap (λ (s : Slot). s.version) (st.items r.item lt), same ∙ held-digest r.item lt)

    pub passes_agrees : (r : ReadBody) → r.item < 64 → Passes digest cs r → Agrees digest (holds b.store) r
    passes_agrees r lt p =
        let h = passes_had digest cs r p in
        (lt, h.0 ∙ sym (ap (λ (s : Slot). s.version) (st.items r.item lt)), h.1 ∙ sym (held-digest r.item lt))

  -- a commit
  pub stands-commit : (b c : Board S D L) (cs : List (List WriteBody)) (ws : List WriteBody) (us : ℕ → List ℕ) (ps : ℕ → List PairBody)
      → Committed digest holds b c ws → Stands holds digest tagOf' tag f own b cs us ps → Stands holds digest tagOf' tag f own c (cs ++ ws ∷ []) us ps
  stands-commit b c cs ws us ps made st =
      let n : length (cs ++ ws ∷ []) ≡ length cs + 1 = length_push cs ws in
      let counts = st.count in
      let k : b.count + 1 ≡ length cs + 1 = ap (λ m. m + 1) counts in
      let version : made.entry.version ≡ length cs + 1 = ap (λ (e : EntryBody). e.version) made.body ∙ k in
      record {
        faults = ap (λ p. p.size.f) made.place ∙ st.faults;
        number = ap (λ p. p.number) made.place ∙ st.number;
        seal = λ s m. ap (λ l. tagOf' l s m) made.seal ∙ st.seal s m;
        count = made.count ∙ k ∙ sym n;
        chain =
            made.chain ∙ ap (λ x. digest (chain_string digest x (entry_of digest (b.count + 1) ws))) st.chain
            ∙ ap (λ m. digest (chain_string digest (chain_after digest cs) (entry_of digest m ws))) k ∙ sym (chain_push digest cs ws);
        items = λ x lt.
            made.items x (left cs x) (st.items x lt)
            ∙ ap (λ m. kept digest (leave m (written ws x) (left cs x))) k
            ∙ ap (kept digest) (sym (left_push cs ws x));
        clients = subst (λ l. TracksAll width l us) (sym made.clients) st.clients;
        window = λ v low high still. elim (cases_eq v (length cs + 1)) [
          | inl same ↦
              let e : v ≡ made.entry.version = same ∙ sym version in
              let none : ps v ≡ [] = st.none v (omega arith) in
              subst (λ q. Holds digest f c.window (cs ++ ws ∷ []) q v) (sym none) (record {
                entry =
                    ap (entry_in c.window) e ∙ made.window.body ∙ made.body ∙ ap (λ m. entry_of digest m ws) k
                    ∙ sym (entry_push digest cs ws) ∙ ap (entry_at digest (cs ++ ws ∷ [])) (sym same);
                tags = λ s lt. ap (λ u. tag_in c.window u s) e ∙ made.window.none s ∙ sym (tag_by_none s);
                count = ap (shares_in c.window) e ∙ shares-none (tag_in c.window made.entry.version) made.window.none;
                few = omega arith;
                signers = tt;
              })
          | inr ne ↦
              let below : v ≤ length cs = omega arith in
              let late : Evicted (length cs) v → ⊥ = λ gone. still (omega arith) in
              let recent : length cs + 1 < v + 32 = not_le (v + 32) (length cs + 1) (λ le. still (omega arith)) in
              let apart : v % 32 ≡ made.entry.version % 32 → ⊥ = λ same. omega arith in
              holds_more digest f c.window cs (ws ∷ []) (ps v) v low below
              (holds-slot digest f b.window c.window cs (ps v) v (made.window.others v apart) (st.window v low below late))
        ];
        none = λ v lt. st.none v (omega arith);
      }
    where
      not_le : (p q : ℕ) → (p ≤ q → ⊥) → q < p
      not_le p q no' = elim (cases_lt q p) [ inl lt ↦ lt | inr le ↦ absurd (no' le) ]

  -- a number that is used up
  pub stands-used : (b c : Board S D L) (cs : List (List WriteBody)) (us vs : ℕ → List ℕ) (ps : ℕ → List PairBody)
      → c.place ≡ b.place → c.seal ≡ b.seal → c.count ≡ b.count → c.chain ≡ b.chain → c.store ≡ b.store → c.window ≡ b.window
      → TracksAll width c.clients vs → Stands holds digest tagOf' tag f own b cs us ps → Stands holds digest tagOf' tag f own c cs vs ps
  stands-used b c cs us vs ps place seal count chain store window tracks st = record {
    faults = ap (λ p. p.size.f) place ∙ st.faults;
    number = ap (λ p. p.number) place ∙ st.number;
    seal = λ s m. ap (λ l. tagOf' l s m) seal ∙ st.seal s m;
    count = count ∙ st.count;
    chain = chain ∙ st.chain;
    items = λ x lt. ap (λ s. holds s x) store ∙ st.items x lt;
    clients = tracks;
    window = λ v low high still. subst (λ w. Holds digest f w cs (ps v) v) (sym window) (st.window v low high still);
    none = st.none;
  }
