-- Writing this board's own share.
use Rattle.std.proofs.Common.{◌≡◌, ℕ, ◌+◌, ◌*◌, ◌<◌, ◌≤◌, Bool, true, false, cond, eqb, ltb, leb, List, [], ◌∷◌, ◌++◌, length, drop, Ok, Err, Decides, Result, sym, refl, ap, ◌∙◌, subst, arith, length-append, ltb-true, le-ltb, lt-ltb, eq-eqb, eqb-true, le-leb, leb-true}
use borrow.Author.Tests.{lt-leb}
use Rattle.std.proofs.lemmas.Bool.{cond-false, cond-true}
use Rattle.std.proofs.lemmas.Bool.Decides.{nat_tests}
use Rattle.fault.specs.declared.Fault.{Fault}
use Rattle.fault.specs.declared.Cause.TheVariants.{Evicted, Malformed, NoRoom, NotCommitted}
use Rattle.fault.specs.declared.Layer.TheVariants.{Board, Frame}
use Rattle.fault.specs.Codes.{fault}
use Rattle.record.specs.Chains.{after}
use Rattle.record.specs.Formats.{written}
use Rattle.record.specs.Writing.{filled}
use Rattle.entry.specs.Bodies.{EntryBody, entry_bytes}
use Rattle.label.specs.declared.Label.TheVariants.{Entry}
use Rattle.label.specs.Labels.{labelled}
use Rattle.share.specs.Shares.{ShareBody, share_fields, write_share}
use Rattle.history.specs.Tables.{Case, Under, when}
use Rattle.board.proofs.Tables.{under-done, under_test}
use Rattle.board.specs.Shares.{kept_now, share_now, share_out_now}

pub share-written : (f own v room : ℕ) (tag : List ℕ) → 1 ≤ v → v ≤ 65535 → own < 3 * f + 1 → own ≤ 255 → 20 ≤ room → length tag ≡ 16
    → write_share 2 f (record { signer = own; version = v; tag = tag }) room ≡ Ok 20
share-written f own v room tag low high member byte space size = grind (arith, nat_tests)

pub out_now : (count v room : ℕ) → 1 ≤ v → v ≤ count → count < v + 32 → 20 ≤ room → share_out_now count v room ≡ Ok 20
out_now count v room low high kept space = grind (arith, nat_tests)

pub kept-range : (count v : ℕ) (u : Unit {0}) → Ok u ≡ kept_now count v → (v ≤ count) × (count < v + 32)
kept-range count v u is = grind (arith, nat_tests)

-- the two tests of a version that is kept, and what follows
abbrev pub two_tests : (a b : Bool) (e f : Fault) → Result (Unit {0}) Fault
two_tests a b e f = cond a (Err e) (cond b (Err f) (Ok tt))

kept-after : {A : Type 0} (a b : Bool) (e f : Fault) (s : Result A Fault)
    → after (two_tests a b e f) s ≡ cond a (Err e) (cond b (Err f) s)
kept-after true b e f s = refl
kept-after false true e f s = refl
kept-after false false e f s = refl

pub decides_eq : (a b : ℕ) → Decides (eqb a b) (a ≡ b)
decides_eq a b = (eqb-true a b, eq-eqb a b)

pub decides_lt : (a b : ℕ) → Decides (ltb a b) (a < b)
decides_lt a b = (ltb-true a b, lt-ltb a b)

pub decides_le : (a b : ℕ) → Decides (leb a b) (a ≤ b)
decides_le a b = (leb-true a b, le-leb a b)

-- a version above the last commit or evicted is refused; then the rest decides
pub kept-answered : {A : Type 0} (count v : ℕ) (cs : List Case) (Q : A → Type 0) (r rest : Result A Fault) → r ≡ after (kept_now count v) rest
    → (v ≤ count → (v + 32 ≤ count → ⊥) → r ≡ rest → Under cs Q r)
    → Under (when (count < v) (fault NotCommitted Board 0) ∷ when (v + 32 ≤ count) (fault Evicted Board 0) ∷ cs) Q r
kept-answered count v cs Q r rest is more =
    let e = is ∙ kept-after (ltb count v) (leb (v + 32) count) (fault NotCommitted Board 0) (fault Evicted Board 0) rest in (
      (λ p. e ∙ cond-true (ltb count v) _ _ (lt-ltb count v p)),
      λ low. (let e2 = e ∙ cond-false (ltb count v) _ _ (le-ltb count v (below low)) in (
        (λ p. e2 ∙ cond-true (leb (v + 32) count) _ _ (le-leb (v + 32) count p)),
        λ kept. more (below low) kept (e2 ∙ cond-false (leb (v + 32) count) _ _ (lt-leb (v + 32) count (above kept))),
      )),
    )
  where
    below : (count < v → ⊥) → v ≤ count
    below low = omega arith

    above : (v + 32 ≤ count → ⊥) → count < v + 32
    above kept = omega arith

pub share_out_answered : (count v room size : ℕ) (r : Result ℕ Fault) → size ≡ 20 → r ≡ share_out_now count v room
    → Under (when (v ≡ 0) (fault Malformed Frame 1) ∷ when (count < v) (fault NotCommitted Board 0) ∷ when (v + 32 ≤ count) (fault Evicted Board 0) ∷ when (room < size) (fault NoRoom Board 0) ∷ []) (λ n. n ≡ size) r
share_out_answered count v room size r long is =
    let Q : ℕ → Type 0 = λ n. n ≡ size in
    let last : Result ℕ Fault = cond (ltb room 20) (Err (fault NoRoom Board 0)) (Ok 20) in
    under_test (eqb v 0) (v ≡ 0) (fault Malformed Frame 1)
    (when (count < v) (fault NotCommitted Board 0) ∷ when (v + 32 ≤ count) (fault Evicted Board 0) ∷ when (room < size) (fault NoRoom Board 0) ∷ []) Q r (after (kept_now count v) last) (decides_eq v 0) is (λ _ is2.
    kept-answered count v (when (room < size) (fault NoRoom Board 0) ∷ []) Q r last is2 (λ low kept is3.
    under_test (ltb room 20) (room < size) (fault NoRoom Board 0) [] Q r (Ok 20) (wide (decides_lt room 20)) is3 (λ _ is4.
    under-done Q r 20 (sym long) is4)))
  where
    wide : Decides (ltb room 20) (room < 20) → Decides (ltb room 20) (room < size)
    wide d = (let P : ℕ → Type 0 = λ n. Decides (ltb room 20) (room < n) in subst P (sym long) d)

-- a share is written only of a version that is kept
pub out_range : (count v room n : ℕ) → share_out_now count v room ≡ Ok n → (1 ≤ v) × (v ≤ count) × (v + 32 ≤ count → ⊥)
out_range count v room n is = grind (arith, nat_tests)

-- a buffer is filled alike where what is written is alike
pub filled-same : (r : Result ℕ Fault) (x y old : List ℕ) → ((n : ℕ) → r ≡ Ok n → x ≡ y) → filled r x old ≡ filled r y old
filled-same (Ok n) x y old same = ap (λ z. z ++ drop n old) (same n refl)
filled-same (Err f) x y old same = refl

-- a share has 20 bytes
pub share-long : (s : ShareBody) → length s.tag ≡ 16 → length (written (share_fields 2 s)) ≡ 20
share-long s size = omega (arith, length-append s.tag [], size)

-- this board's share, by what its seal means and by the entry of the commits
pub share-same : (t u : ℕ → List ℕ → List ℕ) (n own : ℕ) (d e : EntryBody) (v : ℕ) → ((s : ℕ) (m : List ℕ) → t s m ≡ u s m) → n ≡ own → d ≡ e
    → share_now t n d v ≡ share_now u own e v
share-same t u n own d e v seal same held =
    ap (λ k. share_now t k d v) same ∙ ap (λ x. share_now t own x v) held
    ∙ ap (λ x. written (share_fields 2 (record { signer = own; version = v; tag = x }))) (seal own (labelled Entry (entry_bytes 2 e)))
