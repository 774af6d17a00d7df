-- A board stands where events that change nothing have brought it.
use Rattle.std.proofs.Common.{◌≡◌, ℕ, ◌<◌, ◌≤◌, List, [], ◌∷◌, ◌++◌, replicate, sym, refl, ap, ◌∙◌, subst, arith}
use Rattle.store.specs.Slot.{Slot, blank}
use Rattle.entry.specs.Bodies.{PairBody}
use Rattle.numbers.specs.Clients.{TracksAll, numbers_of}
use Rattle.numbers.specs.Tracking.{Tracks}
use Rattle.request.specs.Bodies.{WriteBody}
use Rattle.history.specs.Events.{Event, effect, effects, nothing, width}
use Rattle.history.specs.Commits.{commits, kept}
use Rattle.history.specs.Entries.{shares_of}
use Rattle.history.specs.Clients.{used}
use Rattle.history.proofs.Appends.{commits-none, commits-nothing, effects_push, shares-none, shares-nothing, used-none, used-nothing}
use Rattle.history.proofs.Chains.{chain-none}
use Rattle.history.proofs.Lefts.{left-none}
use Rattle.history.proofs.ReadLaws.{kept_fresh}
use Rattle.board.specs.declared.state.Board.{Board}
use Rattle.board.specs.Standing.{Holds, Represents, Stands}

no_version : (v : ℕ) → 1 ≤ v → v ≤ 0 → ⊥
no_version v low high = omega arith

module _ {S D L : Type 0} (holds : S → ℕ → Slot) (digest : List ℕ → List ℕ) (tag_of : L → ℕ → List ℕ → List ℕ)
    (tag : ℕ → List ℕ → List ℕ) (f own : ℕ) (b : Board S D L) where
  -- it stands by what the commits, the used numbers and the shares are
  pub stands_same : (cs ds : List (List WriteBody)) (us vs : ℕ → List ℕ) (ps qs : ℕ → List PairBody) → ds ≡ cs
      → ((c : ℕ) → vs c ≡ us c) → ((v : ℕ) → qs v ≡ ps v) → Stands holds digest tag_of tag f own b cs us ps → Stands holds digest tag_of tag f own b ds vs qs
  stands_same cs ds us vs ps qs e eu ep st =
      let P : List (List WriteBody) → Type 0 = λ xs. Stands holds digest tag_of tag f own b xs vs qs in
      subst P (sym e) (record {
        faults = st.faults;
        number = st.number;
        seal = st.seal;
        count = st.count;
        chain = st.chain;
        items = st.items;
        clients = λ k lt. (let Q : List ℕ → Type 0 = λ u. Tracks width (numbers_of b.clients k) u in subst Q (sym (eu k)) (st.clients k lt));
        window = λ v low high kept. (let Q : List PairBody → Type 0 = λ p. Holds digest f b.window cs p v in subst Q (sym (ep v)) (st.window v low high kept));
        none = λ v lt. ep v ∙ st.none v lt;
      })

  -- an event without effect leaves it where it stood
  pub stands_quiet : (h : List Event) (e : Event) → effect e ≡ nothing → Represents holds digest tag_of tag f own b h
      → Represents holds digest tag_of tag f own b (h ++ e ∷ [])
  stands_quiet h e quiet st =
      let es : effects (h ++ e ∷ []) ≡ effects h ++ nothing ∷ [] = effects_push h e ∙ ap (λ x. effects h ++ x ∷ []) quiet in
      stands_same (commits (effects h)) (commits (effects (h ++ e ∷ []))) (λ c. used c (effects h)) (λ c. used c (effects (h ++ e ∷ [])))
      (λ v. shares_of v (effects h)) (λ v. shares_of v (effects (h ++ e ∷ []))) (ap commits es ∙ commits-nothing (effects h))
      (λ c. ap (used c) es ∙ used-nothing (effects h) c) (λ v. ap (shares_of v) es ∙ shares-nothing (effects h) v) st

  -- a board that was just made stands at no commits
  pub stands-new : b.place.size.f ≡ f → b.place.number ≡ own → ((s : ℕ) (m : List ℕ) → tag_of b.seal s m ≡ tag s m) → b.count ≡ 0
      → b.chain ≡ replicate 32 0 → ((x : ℕ) → x < 64 → holds b.store x ≡ blank) → TracksAll width b.clients (λ c. [])
      → Represents holds digest tag_of tag f own b []
  stands-new faults number seal count chain items clients =
      stands_same [] (commits []) (λ c. []) (λ c. used c []) (λ v. []) (λ v. shares_of v []) commits-none used-none shares-none (record {
        faults = faults;
        number = number;
        seal = seal;
        count = count;
        chain = chain ∙ sym (chain-none digest);
        items = λ x lt. items x lt ∙ sym (ap (kept digest) (left-none x) ∙ kept_fresh digest);
        clients = clients;
        window = λ v low high kept. absurd (no_version v low high);
        none = λ v lt. refl;
      })
