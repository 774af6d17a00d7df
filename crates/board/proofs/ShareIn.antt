-- Where a board stands that has judged a share.
use Rattle.std.proofs.Common.{◌≡◌, ℕ, ◌+◌, ◌%◌, ◌<◌, ◌≤◌, Bool, true, false, ltb, leb, List, [], ◌∷◌, ◌++◌, length, is_some, None, Ok, Decides, Option, Result, sym, refl, ap, ◌∙◌, subst, inl, inr, arith, ltb-true, lt-ltb}
use borrow.Author.Tests.{clash}
use Rattle.std.specs.List.{ContainsAt as Has}
use Rattle.std.proofs.ByRecursion.{All-push}
use Rattle.std.proofs.lemmas.List.{length_push}
use Rattle.std.proofs.lemmas.Bool.{cases_eq}
use Rattle.fault.specs.declared.Fault.{Fault}
use Rattle.fault.specs.declared.Cause.TheVariants.{Evicted as evicted, NoShareDue, NotCommitted}
use Rattle.fault.specs.declared.Layer.TheVariants.{Board as board-layer}
use Rattle.fault.specs.Codes.{fault}
use Rattle.record.specs.Rules.{boards}
use Rattle.store.specs.Slot.{Slot}
use Rattle.entry.specs.Bodies.{PairBody, entry_body, entry_bytes}
use Rattle.label.specs.declared.Label.TheVariants.{Entry}
use Rattle.label.specs.Labels.{labelled}
use Rattle.numbers.specs.declared.clients.Clients.{Clients}
use Rattle.numbers.specs.Clients.{TracksAll}
use Rattle.share.specs.Shares.{ShareBody}
use Rattle.window.specs.Shares.{shares_of as sharesBy}
use Rattle.window.specs.Windows.{Added, entry_in, shares_in, slot_in, tag_in, tag_of as tag_at}
use Rattle.history.specs.Answers.{share_table}
use Rattle.history.specs.Commits.{commits}
use Rattle.history.specs.Entries.{sealed_string, shares_of, signers_of, tag_by}
use Rattle.history.specs.Events.{Effect, share, width}
use Rattle.history.specs.Clients.{used}
use Rattle.history.specs.Tables.{Under}
use Rattle.history.proofs.Appends.{commits-share, shares-share, shares-share-other, used-share}
use Rattle.board.specs.declared.state.Board.{Board}
use Rattle.board.specs.Shares.{Joins, Rest, due_now, kept_now}
use Rattle.board.specs.Standing.{Holds, Stands}
use Rattle.board.proofs.Joining.{joins_ok, joins_under, tag_decides, tag-new, tag-none, tag-other}
use Rattle.board.proofs.ShareOut.{decides_le, decides_lt}
use Rattle.board.proofs.Standing.{stands_same}

-- two versions that are kept have different slots
slots_apart : (n u v : ℕ) → u ≤ n → v ≤ n → (u + 32 ≤ n → ⊥) → (v + 32 ≤ n → ⊥) → (u ≡ v → ⊥) → u % 32 ≡ v % 32 → ⊥
slots_apart n u v hu hv ku kv ne e = omega arith

below : (n v : ℕ) → (n < v → ⊥) → v ≤ n
below n v no' = omega arith

off : {b : Bool} {P : Type 0} → Decides b P → b ≡ false → P → ⊥
off d e p = clash (sym e ∙ d.1 p)

board-few : (f s : ℕ) → s < boards f → f ≤ 5 → s < 16
board-few f s lt few = omega arith

module _ {S D L : Type 0} (holds : S → ℕ → Slot) (digest : List ℕ → List ℕ) (tag_of : L → ℕ → List ℕ → List ℕ)
    (tag : ℕ → List ℕ → List ℕ) (f own : ℕ) (b c : Board S D L) (es : List Effect) (s : ShareBody)
    (st : Stands holds digest tag_of tag f own b (commits es) (λ k. used k es) (λ v. shares_of v es))
    (member : s.signer < boards f) (some : 1 ≤ s.version) where
  -- the share as the history has it
  abbrev pub pair : PairBody
  pair = record { signer = s.signer; tag = s.tag }

  low16 : s.signer < 16
  low16 = board-few f s.signer member (subst (λ k. k ≤ 5) st.faults b.place.size.few)

  decides_above : Decides (ltb b.count s.version) (length (commits es) < s.version)
  decides_above = (let P : ℕ → Type 0 = λ n. Decides (ltb b.count s.version) (n < s.version) in subst P st.count (decides_lt b.count s.version))

  decides_evicted : Decides (leb (s.version + 32) b.count) (s.version + 32 ≤ length (commits es))
  decides_evicted = (let P : ℕ → Type 0 = λ n. Decides (leb (s.version + 32) b.count) (s.version + 32 ≤ n) in subst P st.count (decides_le (s.version + 32) b.count))

  held : ltb b.count s.version ≡ false → leb (s.version + 32) b.count ≡ false → Holds digest f b.window (commits es) (shares_of s.version es) s.version
  held ea eb = st.window s.version some (below (length (commits es)) s.version (off decides_above ea)) (off decides_evicted eb)

  module _ (h : Holds digest f b.window (commits es) (shares_of s.version es) s.version) where
    decides_sent : Decides (is_some (tag_in b.window s.version s.signer)) (Has (signers_of s.version es) s.signer)
    decides_sent = (let P : Option (List ℕ) → Type 0 = λ o. Decides (is_some o) (Has (signers_of s.version es) s.signer) in
        subst P (sym (h.tags s.signer low16)) (tag_decides (shares_of s.version es) s.signer))

    decides_full : Decides (ltb b.place.size.f (shares_in b.window s.version)) (f + 1 ≤ length (shares_of s.version es))
    decides_full = (
      (λ e. up (ltb-true b.place.size.f (shares_in b.window s.version) e)),
      λ le. lt-ltb b.place.size.f (shares_in b.window s.version) (down le),
    )
      where
        up : b.place.size.f < shares_in b.window s.version → f + 1 ≤ length (shares_of s.version es)
        up lt = omega (arith, lt, st.faults, h.count)

        down : f + 1 ≤ length (shares_of s.version es) → b.place.size.f < shares_in b.window s.version
        down le = omega (arith, le, st.faults, h.count)

    same_tag : tag_of b.seal s.signer (labelled Entry (entry_bytes 2 (entry_in b.window s.version))) ≡ tag s.signer (sealed_string digest (commits es) s.version)
    same_tag = st.seal s.signer (labelled Entry (entry_bytes 2 (entry_in b.window s.version))) ∙ ap (λ x. tag s.signer (labelled Entry (entry_bytes 2 x))) h.entry

    none-sent : is_some (tag_in b.window s.version s.signer) ≡ false → tag_by (shares_of s.version es) s.signer ≡ None
    none-sent e = tag-none (shares_of s.version es) s.signer (sym (ap is_some (h.tags s.signer low16)) ∙ e)

    more-shares : is_some (tag_in b.window s.version s.signer) ≡ false → (n : ℕ) → Added b.window c.window s.version s.signer s.tag n
        → n ≡ length (shares_of s.version es) + 1
    more-shares e n a = a.more low16 (h.tags s.signer low16 ∙ none-sent e) ∙ ap (λ k. k + 1) h.count

    -- the entry with the share that joined it
    holds_more : is_some (tag_in b.window s.version s.signer) ≡ false → (f + 1 ≤ length (shares_of s.version es) → ⊥) → (n : ℕ)
        → Added b.window c.window s.version s.signer s.tag n
        → Holds digest f c.window (commits es) (shares_of s.version es ++ pair ∷ []) s.version
    holds_more e room n a = record {
      entry = ap entry_body a.this.entry ∙ h.entry;
      tags = λ k lt. elim (cases_eq k s.signer) [
        | inl same ↦ (let P : ℕ → Type 0 = λ i. tag_in c.window s.version i ≡ tag_by (shares_of s.version es ++ pair ∷ []) i in
            subst P (sym same) (a.this.tagged low16 ∙ sym (tag-new (shares_of s.version es) pair (none-sent e))))
        | inr ne ↦ a.this.signers k ne ∙ h.tags k lt ∙ sym (tag-other (shares_of s.version es) pair k ne)
      ];
      count = sym a.count ∙ more-shares e n a ∙ sym (length_push (shares_of s.version es) pair);
      few = (let size = length_push (shares_of s.version es) pair in omega (arith, size, room));
      signers = All-push (λ (p : PairBody). p.signer < boards f) (shares_of s.version es) pair h.signers member;
    }

  abbrev pub Judged : Result ℕ Fault → Type 0
  Judged r =
      Joins (kept_now b.count s.version) (due_now b.window b.place.size.f s.version s.signer)
      (s.tag ≡ tag_of b.seal s.signer (labelled Entry (entry_bytes 2 (entry_in b.window s.version))))
      (Added b.window c.window s.version s.signer s.tag) r

  pub share_in_answered : (r : Result ℕ Fault) → Judged r → Under (share_table digest tag f own es s) (λ n. n ≡ length (shares_of s.version es) + 1) r
  share_in_answered r j =
      joins_under (ltb b.count s.version) (leb (s.version + 32) b.count) (is_some (tag_in b.window s.version s.signer))
      (ltb b.place.size.f (shares_in b.window s.version)) (length (commits es) < s.version) (s.version + 32 ≤ length (commits es))
      (Has (signers_of s.version es) s.signer) (f + 1 ≤ length (shares_of s.version es))
      (s.tag ≡ tag_of b.seal s.signer (labelled Entry (entry_bytes 2 (entry_in b.window s.version))))
      (s.tag ≡ tag s.signer (sealed_string digest (commits es) s.version))
      (fault NotCommitted board-layer 0) (fault evicted board-layer 0) (fault NoShareDue board-layer 0)
      (Added b.window c.window s.version s.signer s.tag) (λ n. n ≡ length (shares_of s.version es) + 1) r
      decides_above decides_evicted (λ ea eb. (decides_sent (held ea eb), decides_full (held ea eb)))
      (λ ea eb. ((λ p. p ∙ same_tag (held ea eb)), λ p. p ∙ sym (same_tag (held ea eb))))
      (λ ea eb no' n a. more-shares (held ea eb) (unsent (decides_sent (held ea eb)) no') n a) j
    where
      unsent : {t : Bool} {P : Type 0} → Decides t P → (P → ⊥) → t ≡ false
      unsent {t = true} d no' = absurd (no' (d.0 refl))
      unsent {t = false} d no' = refl

  pub stands-share : (n : ℕ) → Judged (Ok n) → Rest b c
      → Stands holds digest tag_of tag f own c (commits (es ++ share s.version pair ∷ [])) (λ k. used k (es ++ share s.version pair ∷ []))
      (λ v. shares_of v (es ++ share s.version pair ∷ []))
  stands-share n j rest =
      let v = s.version in
      let cs = commits es in
      let more = es ++ share v pair ∷ [] in
      let ok = joins_ok (ltb b.count v) (leb (v + 32) b.count) (is_some (tag_in b.window v s.signer)) (ltb b.place.size.f (shares_in b.window v))
      (s.tag ≡ tag_of b.seal s.signer (labelled Entry (entry_bytes 2 (entry_in b.window v)))) (fault NotCommitted board-layer 0) (fault evicted board-layer 0)
      (fault NoShareDue board-layer 0) (Added b.window c.window v s.signer s.tag) n j in
      let a : Added b.window c.window v s.signer s.tag n = ok.5 in
      let h = held ok.0 ok.1 in
      let high : v ≤ length cs = below (length cs) v (off decides_above ok.0) in
      let last : v + 32 ≤ length cs → ⊥ = off decides_evicted ok.1 in
      let this : Holds digest f c.window cs (shares_of v more) v =
      (let P : List PairBody → Type 0 = λ ps. Holds digest f c.window cs ps v in
      subst P (sym (shares-share es v pair)) (holds_more h ok.2 (off (decides_full h) ok.3) n a)) in
      stands_same holds digest tag_of tag f own c cs (commits more) (λ k. used k es) (λ k. used k more) (λ u. shares_of u more) (λ u. shares_of u more)
      (commits-share es v pair) (used-share es v pair) (λ u. refl) (record {
        faults = ap (λ p. p.size.f) rest.place ∙ st.faults;
        number = ap (λ p. p.number) rest.place ∙ st.number;
        seal = λ i m. ap (λ x. tag_of x i m) rest.seal ∙ st.seal i m;
        count = rest.count ∙ st.count;
        chain = rest.chain ∙ st.chain;
        items = λ x lt. ap (λ y. holds y x) rest.store ∙ st.items x lt;
        clients = (let P : Clients → Type 0 = λ k. TracksAll width k (λ i. used i es) in subst P (sym rest.clients) st.clients);
        window = λ u low hu ku. elim (cases_eq u v) [
          | inl e ↦ (let P : ℕ → Type 0 = λ i. Holds digest f c.window cs (shares_of i more) i in subst P (sym e) this)
          | inr ne ↦ (let P : List PairBody → Type 0 = λ ps. Holds digest f c.window cs ps u in
              subst P (sym (shares-share-other es v pair u (λ e. ne (sym e))))
              (other u (st.window u low hu ku) (a.others u (slots_apart (length cs) u v hu high ku last ne))))
        ];
        none = λ u lt. shares-share-other es v pair u (apart u lt high) ∙ st.none u lt;
      })
    where
      other : (u : ℕ) → Holds digest f b.window (commits es) (shares_of u es) u → slot_in c.window u ≡ slot_in b.window u
          → Holds digest f c.window (commits es) (shares_of u es) u
      other u h same = record {
        entry = ap (λ x. entry_body x.entry) same ∙ h.entry;
        tags = λ k lt. ap (λ x. tag_at x k) same ∙ h.tags k lt;
        count = ap (λ x. sharesBy (tag_at x)) same ∙ h.count;
        few = h.few;
        signers = h.signers;
      }

      apart : (u : ℕ) → length (commits es) < u → s.version ≤ length (commits es) → s.version ≡ u → ⊥
      apart u lt high e = omega (arith, lt, high, e)
