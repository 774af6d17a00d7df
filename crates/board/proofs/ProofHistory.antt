-- A proof as an event of the history.
use Rattle.std.proofs.Common.{◌≡◌, ℕ, zero, suc, ◌+◌, ◌-◌, ◌<◌, ◌≤◌, max, Bool, true, false, cond, ◌&&◌, ltb, leb, List, [], ◌∷◌, ◌++◌, map, length, get_or, take, Ok, Err, Decides, Result, sym, refl, ap, ◌∙◌, subst, arith}
use Rattle.std.specs.List.{range_with_len, AllByRecursion as All}
use Rattle.std.proofs.lemmas.List.FromFn.{get_or-range_with_len, length-range_with_len}
use Rattle.std.proofs.ByRecursion.{All-from_get_or, All-get_or}
use Rattle.std.proofs.lemmas.Bool.{and_from, and_parts, le-ltb, lt-ltb}
use Rattle.fault.specs.declared.Cause.TheVariants.{Evicted as evicted, Malformed, NoRoom, NotCommitted, Unsealed}
use Rattle.fault.specs.declared.Fault.{Fault}
use Rattle.fault.specs.declared.Layer.TheVariants.{Board as board-layer, Frame}
use Rattle.fault.specs.Codes.{fault}
use Rattle.octets.specs.Numbers.{limit}
use Rattle.record.specs.Chains.{after, tested, unless}
use Rattle.record.specs.Writing.{filled}
use Rattle.record.proofs.Steps.{after-some}
use Rattle.store.specs.Slot.{Slot}
use Rattle.window.specs.declared.ring.Window.{Window}
use Rattle.window.specs.Windows.{shares_in}
use Rattle.proof.specs.Bodies.{ProofBody, proof_bytes}
use Rattle.proof.specs.Rules.{proof_of}
use Rattle.proof.specs.Writing.{weigh_proof}
use Rattle.history.specs.Answers.{Answered, ProofAnswers, ProofReadsBack, proof_body, proof_frame, unsealed}
use Rattle.history.specs.Commits.{commits}
use Rattle.history.specs.Entries.{Evicted, sealed_at, shares_of, versions}
use Rattle.history.specs.Events.{Effect, Event, effects, proved}
use Rattle.history.specs.Tables.{Case, Under, when}
use Rattle.board.specs.declared.state.Board.{Board}
use Rattle.board.specs.Proofs.{framed_now, proof_in, proof_now, range_now, sealed_in, sealed_row}
use Rattle.board.specs.Standing.{Holds, Represents}
use Rattle.board.specs.WriteSets.{WriteSets}
use Rattle.board.proofs.ProofOut.{Ranged, ranged}
use Rattle.board.proofs.ProofSealed.{sealed-same, sealed-whole}
use Rattle.board.proofs.ShareOut.{decides_le, decides_lt, filled-same}
use Rattle.board.proofs.Standing.{stands_quiet}
use Rattle.board.proofs.Tables.{under-done, under_test}
use Rattle.board.proofs.Weighs.{weighs_proof}

-- versions in a row
module _ (P : ℕ → Type 0) (a n : ℕ) where
  all_counted : ((v : ℕ) → a ≤ v → v < a + n → P v) → All P (range_with_len a n)
  all_counted each = All-from_get_or P (range_with_len a n) 0 (λ i lt. here i (subst (λ k. i < k) (length-range_with_len a n) lt))
    where
      here : (i : ℕ) → i < n → P (get_or (range_with_len a n) i 0)
      here i lt = subst P (sym (get_or-range_with_len a n i 0 lt)) (each (a + i) (omega arith) (omega arith))

  counted_at : (v : ℕ) → a ≤ v → v < a + n → All P (range_with_len a n) → P v
  counted_at v from to all =
      let within : v - a < n = omega arith in
      let at : get_or (range_with_len a n) (v - a) 0 ≡ v = get_or-range_with_len a n (v - a) 0 within ∙ omega arith in
      subst P at (All-get_or P (range_with_len a n) (v - a) 0 (omega (arith, within, length-range_with_len a n)) all)

map_same : {X Y : Type 0} (g k : X → Y) (xs : List X) → All (λ x. g x ≡ k x) xs → map g xs ≡ map k xs
map_same g k [] same = refl
map_same g k (x ∷ xs) same = (let rest = map_same g k xs same.1 in λ t. same.0 t ∷ rest t)

decides_and : (a b : Bool) (P Q : Type 0) → Decides a P → Decides b Q → Decides (a && b) (P × Q)
decides_and a b P Q da db = ((λ e. (let both = and_parts a b e in (da.0 both.0, db.0 both.1))), λ pq. and_from a b (da.1 pq.0) (db.1 pq.1))

-- three tests, and what follows
abbrev three_tests : (a b c : Bool) (d e f : Fault) → Result (Unit {0}) Fault
three_tests a b c d e f = cond a (Err d) (cond b (Err e) (cond c (Err f) (Ok tt)))

three_after : {A : Type 0} (a b c : Bool) (d e f : Fault) (s : Result A Fault)
    → after (three_tests a b c d e f) s ≡ cond a (Err d) (cond b (Err e) (cond c (Err f) s))
three_after true b c d e f s = refl
three_after false true c d e f s = refl
three_after false false true d e f s = refl
three_after false false false d e f s = refl

-- the rows of unsealed versions, from the lowest on
module _ (digest : List ℕ → List ℕ) (tag : ℕ → List ℕ → List ℕ) (f own : ℕ) (es : List Effect) (w : Window) where
  under-rows : (vs : List ℕ) (ks : List Case) (Q : ℕ → Type 0) (r rest : Result ℕ Fault) → All (λ v. shares_in w v ≡ length (shares_of v es)) vs
      → r ≡ after (tested (map (sealed_row w f) vs)) rest → (All (λ v. f + 1 ≤ length (shares_of v es)) vs → r ≡ rest → Under ks Q r)
      → Under (map (unsealed digest tag f own es) vs ++ ks) Q r
  under-rows [] ks Q r rest counts is more = more tt is
  under-rows (v ∷ vs) ks Q r rest counts is more =
      let count : shares_in w v ≡ length (shares_of v es) = counts.0 in
      let told : Bool → Result ℕ Fault = λ t. after (unless t (fault Unsealed board-layer v) (tested (map (sealed_row w f) vs))) rest in (
        (λ few. is ∙ ap told (le-ltb f (shares_in w v) (omega arith))),
        λ many. (let full : f + 1 ≤ length (shares_of v es) = omega arith in
            under-rows vs ks Q r rest counts.1 (is ∙ ap told (lt-ltb f (shares_in w v) (omega arith))) (λ others. more (full, others))),
      )

module _ {S D L : Type 0} (holds : S → ℕ → Slot) (digest : List ℕ → List ℕ) (tag_of : L → ℕ → List ℕ → List ℕ)
    (tag : ℕ → List ℕ → List ℕ) (f own : ℕ) (b : Board S D L) (h : List Event) (low high : ℕ)
    (st : Represents holds digest tag_of tag f own b h) (sets : WriteSets h) where
  abbrev es : List Effect
  es = effects h

  abbrev count : ℕ
  count = length (commits es)

  few : f ≤ 5
  few = subst (λ k. k ≤ 5) st.faults b.place.size.few

  -- every version of a range that was let through is held
  held : Ranged count low high → (v : ℕ) → max 1 low ≤ v → v ≤ high → Holds digest f b.window (commits es) (shares_of v es) v
  held (up, there, kept) v from to =
      let recent : count < max 1 low + 32 = kept (omega arith) in
      st.window v (omega arith) (omega arith) (λ gone. omega arith)

  all_held : Ranged count low high → (P : ℕ → Type 0) → ((v : ℕ) → max 1 low ≤ v → v ≤ high → Holds digest f b.window (commits es) (shares_of v es) v → P v) → All P (versions (max 1 low) high)
  all_held rg P each = all_counted P (max 1 low) (high + 1 - max 1 low) (λ v from to. (let in' : v ≤ high = omega arith in each v from in' (held rg v from in')))

  body_same : Ranged count low high → proof_in b.window low high ≡ proof_body digest tag f own es low high
  body_same rg =
      let entries = map_same (sealed_in b.window) (sealed_at digest (commits es) es) (versions (max 1 low) high)
      (all_held rg (λ v. sealed_in b.window v ≡ sealed_at digest (commits es) es v) (λ v from to hd. sealed-same digest f b.window es v few hd)) in
      λ t. record { low = max 1 low; high = high; entries = entries t }

  -- with f + 1 shares each, the frame's writer takes them
  taken : Ranged count low high → All (λ v. f + 1 ≤ length (shares_of v es)) (versions (max 1 low) high)
      → (e : ℕ) × (weigh_proof 2 f (proof_body digest tag f own es low high) ≡ Ok e)
  taken rg full =
      let fits : count ≤ limit 2 = subst (λ n. n ≤ limit 2) st.count b.few in
      let recent : 1 ≤ high → count < max 1 low + 32 = rg.2 in
      weighs_proof f few (sealed_at digest (commits es) es) low high rg.0 (omega (arith, rg.1, fits)) (short rg.1 recent) (λ v from to.
      sealed-whole digest f b.window es v few (held rg v from to) (omega arith) (omega (arith, to, rg.1)) sets
      (counted_at (λ u. f + 1 ≤ length (shares_of u es)) (max 1 low) (high + 1 - max 1 low) v from (omega arith) full))
    where
      short : high ≤ count → (1 ≤ high → count < max 1 low + 32) → high + 1 - max 1 low ≤ 32
      short there recent = none_or high refl
        where
          none_or : (k : ℕ) → high ≡ k → high + 1 - max 1 low ≤ 32
          none_or zero e = omega arith
          none_or (suc k) e = (let late : count < max 1 low + 32 = recent (omega arith) in omega arith)

  now_then : (room : ℕ) (r : Result ℕ Fault) → r ≡ proof_now b.window b.place.size.f b.count low high room → r ≡ proof_now b.window f count low high room
  now_then room r is = is ∙ (λ t. proof_now b.window (st.faults t) (st.count t) low high room)

  pub proof-answered : (room : ℕ) (r : Result ℕ Fault) → r ≡ proof_now b.window b.place.size.f b.count low high room → ProofAnswers digest tag f own es low high room r
  proof-answered room r is =
      let first = max 1 low in
      let w = b.window in
      let vs = versions first high in
      let size = length (proof_frame digest tag f own es low high) in
      let Q : ℕ → Type 0 = λ n. n ≡ size in
      let framed = framed_now f (proof_in w low high) room in
      let tail = after (tested (map (sealed_row w f) vs)) framed in
      let a = ltb high low in
      let c = ltb count high in
      let d = ltb 0 high && leb (first + 32) count in
      let e1 = fault Malformed Frame 3 in
      let e2 = fault NotCommitted board-layer 0 in
      let e3 = fault evicted board-layer 0 in
      let last = when (room < size) (fault NoRoom board-layer 0) ∷ [] in
      let rows = map (unsealed digest tag f own es) vs ++ last in
      let third = when ((1 ≤ high) × Evicted count first) e3 ∷ rows in
      under_test a (high < low) e1 (when (count < high) e2 ∷ third) Q r (cond c (Err e2) (cond d (Err e3) tail)) (decides_lt high low)
      (now_then room r is ∙ three_after a c d e1 e2 e3 tail) (λ up is2.
      under_test c (count < high) e2 third Q r (cond d (Err e3) tail) (decides_lt count high) is2 (λ there is3.
      under_test d ((1 ≤ high) × Evicted count first) e3 rows Q r tail (decides_and (ltb 0 high) (leb (first + 32) count) (1 ≤ high) (Evicted count first) (decides_lt 0 high) (decides_le (first + 32) count)) is3 (λ kept is4.
      (let rg : Ranged count low high = (not_above low high up, not_above high count there, λ some. not_le (first + 32) count (λ gone. kept (some, gone))) in
      under-rows digest tag f own es w vs last Q r framed (all_held rg (λ v. shares_in w v ≡ length (shares_of v es)) (λ v from to hd. hd.count)) is4 (λ full is5.
      (let body = proof_body digest tag f own es low high in
      under_test (ltb room size) (room < size) (fault NoRoom board-layer 0) [] Q r (after (weigh_proof 2 f body) (Ok size)) (decides_lt room size)
      (is5 ∙ ap (λ (x : ProofBody). framed_now f x room) (body_same rg)) (λ space is6.
      under-done Q r size refl (is6 ∙ ap (λ x. after x (Ok size)) (taken rg full).1))))))))
    where
      not_above : (m n : ℕ) → (n < m → ⊥) → m ≤ n
      not_above m n no' = omega arith

      not_le : (m n : ℕ) → (m ≤ n → ⊥) → n < m
      not_le m n no' = omega arith

  -- what an accepted call wrote is the history's proof
  module _ (room : ℕ) (r : Result ℕ Fault) (is : r ≡ proof_now b.window b.place.size.f b.count low high room) where
    written_same : (n : ℕ) → r ≡ Ok n → proof_in b.window low high ≡ proof_body digest tag f own es low high
    written_same n done =
        let first = after-some (range_now count low high) (after (tested (map (sealed_row b.window f) (versions (max 1 low) high))) (framed_now f (proof_in b.window low high) room)) n
        (sym (now_then room r is) ∙ done) in
        body_same (ranged count low high first.0 first.1)

    pub proof-filled : (old new : List ℕ) → new ≡ filled r (proof_bytes 2 (proof_in b.window low high)) old → new ≡ filled r (proof_frame digest tag f own es low high) old
    proof-filled old new put =
        put ∙ filled-same r (proof_bytes 2 (proof_in b.window low high)) (proof_frame digest tag f own es low high) old (λ n done. ap (proof_bytes 2) (written_same n done))

    pub proof-reads : (new : List ℕ) → ((n : ℕ) → r ≡ Ok n → proof_of 2 b.place.size.f (take n new) ≡ Ok (proof_in b.window low high))
        → (n : ℕ) → r ≡ Ok n → proof_of 2 f (take n new) ≡ Ok (proof_body digest tag f own es low high)
    proof-reads new back n done = ap (λ k. proof_of 2 k (take n new)) (sym st.faults) ∙ back n done ∙ ap Ok (written_same n done)

  pub proof_told : (old new : List ℕ) (r : Result ℕ Fault) → r ≡ proof_now b.window b.place.size.f b.count low high (length old)
      → new ≡ filled r (proof_bytes 2 (proof_in b.window low high)) old
      → ((n : ℕ) → r ≡ Ok n → proof_of 2 b.place.size.f (take n new) ≡ Ok (proof_in b.window low high))
      → Answered digest tag f own es (proved low high old new r) × ProofReadsBack digest tag f own es low high new r × Represents holds digest tag_of tag f own b (h ++ proved low high old new r ∷ [])
  proof_told old new r is put back = (
    (proof-answered (length old) r is, proof-filled (length old) r is old new put),
    proof-reads (length old) r is new back,
    stands_quiet holds digest tag_of tag f own b h (proved low high old new r) refl st,
  )
