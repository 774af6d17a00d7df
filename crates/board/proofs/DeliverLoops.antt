-- Turns of the loops over a request's records.
use Rattle.std.proofs.Common.{◌≡◌, ℕ, ◌+◌, ◌<◌, ◌≤◌, Bool, true, false, cond, eqb, List, [], ◌∷◌, ◌++◌, map, length, replicate, Ok, Err, Decides, Result, sym, refl, ap, ◌∙◌, subst, arith}
use borrow.Rule.Slice.PartMut.{put_mid}
use Rattle.std.specs.List.{AllByRecursion as All}
use Rattle.std.proofs.lemmas.List.{append_assoc, append-nil, length-append, length-map, map_push}
use Rattle.std.proofs.lemmas.Bool.{both_ways}
use Rattle.inline_vec.specs.declared.calls.Full.{Full}
use Rattle.entry.specs.declared.parts.Entry.{Entry}
use Rattle.entry.specs.declared.parts.ItemDigest.{ItemDigest}
use Rattle.entry.specs.Bodies.{Pushed, entry_body, item_body}
use Rattle.label.specs.declared.Label.TheVariants.{Chain}
use Rattle.label.specs.Labels.{label_bytes}
use Rattle.store.specs.Slot.{Slot}
use Rattle.record.specs.declared.records.Records.{Records}
use Rattle.record.proofs.Shown.{bodies}
use Rattle.request.specs.declared.mark.ReadAt.{ReadAt}
use Rattle.request.specs.declared.mark.WriteAt.{WriteAt}
use Rattle.request.specs.declared.Request.{Request}
use Rattle.request.specs.Bodies.{ReadBody, WriteBody}
use Rattle.request.specs.Marks.{read_body, read_place, write_body, write_place}
use Rattle.request.specs.Plans.{planned}
use Rattle.request.specs.Requests.{ReadsFound, WritesFound, held, read_views, reads_left, write_views, writes_left}
use Rattle.history.specs.Entries.{entry_of, recorded}
use Rattle.board.specs.Delivering.{Agrees}

-- the records that are still to come
abbrev pub reads_to_come : Records ReadAt → List ReadBody
reads_to_come it = map (λ v. v.0) (reads_left it)

abbrev pub writes_to_come : Records WriteAt → List WriteBody
writes_to_come it = map (λ v. v.0) (writes_left it)

-- at the start these are all
pub all_reads : (q : Request) (it start : Records ReadAt) → ReadsFound q → it ≡ start → (ReadsFound q → reads_left start ≡ read_views q) → reads_to_come it ≡ (held q).reads
all_reads q it start found is all =
    ap reads_to_come is ∙ ap (map (λ (v : ReadBody × ℕ). v.0)) (all found) ∙ bodies (read_body 2 q.frame.now) read_place (planned q.plan).reads

pub all_writes : (q : Request) (it start : Records WriteAt) → WritesFound q → it ≡ start → (WritesFound q → writes_left start ≡ write_views q) → writes_to_come it ≡ (held q).writes
all_writes q it start found is all =
    ap writes_to_come is ∙ ap (map (λ (v : WriteBody × ℕ). v.0)) (all found) ∙ bodies (write_body q.frame.now) write_place (planned q.plan).writes

-- a loop that tests each element, and stops at the first that fails: what is left decides what all decide
module _ {X : Type 0} (P : X → Type 0) (all : List X) where
  abbrev pub Scans : List X → Type 0
  Scans left = (All P left → All P all) × (All P all → All P left)

  pub scan_starts : (left : List X) → left ≡ all → Scans left
  scan_starts left is = (λ h. subst (All P) is h, λ h. subst (All P) (sym is) h)

  pub scan_fails : (left rest : List X) (x : X) → left ≡ x ∷ rest → Scans left → (P x → ⊥) → Decides false (All P all)
  scan_fails left rest x is s bad = (λ e. absurd (both_ways false refl e), λ every. absurd (bad (subst (All P) is (s.1 every)).0))

  pub scan-more : (left rest : List X) (x : X) → left ≡ x ∷ rest → Scans left → P x → Scans rest
  scan-more left rest x is s good = (λ more. s.0 (subst (All P) (sym is) (good, more)), λ every. (subst (All P) is (s.1 every)).1)

  pub scan_ends : (left : List X) → left ≡ [] → Scans left → Decides true (All P all)
  scan_ends left is s = (λ _. s.0 (subst (All P) (sym is) tt), λ _. refl)

-- a loop that takes each element: some are done, the others left
module _ {X : Type 0} (all done : List X) where
  pub taken_more : (left rest : List X) (x : X) → all ≡ done ++ left → left ≡ x ∷ rest → all ≡ (done ++ x ∷ []) ++ rest
  taken_more left rest x is next = is ∙ ap (λ l. done ++ l) next ∙ sym (append_assoc done (x ∷ []) rest)

  pub taken_all : (left : List X) → all ≡ done ++ left → left ≡ [] → done ≡ all
  taken_all left is end = sym (is ∙ ap (λ l. done ++ l) end ∙ append-nil done)

-- what holds of all holds of the next
holds_next : {X : Type 0} (P : X → Type 0) (done rest : List X) (x : X) → All P (done ++ x ∷ rest) → P x
holds_next P [] rest x h = h.0
holds_next P (d ∷ done) rest x h = holds_next P done rest x h.1

pub next_holds : {X : Type 0} (P : X → Type 0) (all done left rest : List X) (x : X) → All P all → all ≡ done ++ left → left ≡ x ∷ rest → P x
next_holds P all done left rest x h is next = holds_next P done rest x (subst (All P) (is ∙ ap (λ l. done ++ l) next) h)

-- an entry that grows by a write
module _ (digest : List ℕ → List ℕ) (k : ℕ) (all done left rest : List WriteBody) (w : WriteBody) (is : all ≡ done ++ left) (next : left ≡ w ∷ rest) (few : length all ≤ 8) where
  pub entry_more : (e n : Entry) (x : ItemDigest) (r : Result (Unit {0}) Full) → entry_body e ≡ entry_of digest k done
      → Pushed item_body 8 (entry_body e).items (entry_body n).items x r → n.version ≡ e.version → item_body x ≡ recorded digest w
      → entry_body n ≡ entry_of digest k (done ++ w ∷ [])
  entry_more e n x (Ok u) was pushed same makes =
      let items : (entry_body n).items ≡ map (recorded digest) (done ++ w ∷ []) =
      pushed.1 ∙ ap (λ us. us ++ item_body x ∷ []) (ap (λ b. b.items) was) ∙ ap (λ u. map (recorded digest) done ++ u ∷ []) makes
      ∙ sym (map_push (recorded digest) done w) in
      let version : n.version ≡ k = same ∙ ap (λ b. b.version) was in
      λ t. record { version = version t; items = items t }
  entry_more e n x (Err full) was pushed same makes =
      let p : 8 ≤ length (entry_body e).items = pushed.0 in
      let a : length (entry_body e).items ≡ length (map (recorded digest) done) = ap (λ b. length b.items) was in
      let b = length-map done (recorded digest) in
      let c : length all ≡ length done + length (w ∷ rest) = ap length (is ∙ ap (λ l. done ++ l) next) ∙ length-append done (w ∷ rest) in
      absurd (omega arith)

-- a read and what is held for its item
pub agrees_by : (digest : List ℕ → List ℕ) (inside : ℕ → Slot) (r : ReadBody) (row : Slot) (n : ℕ) (ok : Bool) (d : List ℕ) → n < 64 → n ≡ r.item → row ≡ inside n
    → r.version ≡ row.version → cond (eqb row.version 0) (digest []) row.digest ≡ d → Decides ok (r.digest ≡ d) → Decides ok (Agrees digest inside r)
agrees_by digest inside r row n ok d lt e is version shows dec =
    let at : row ≡ inside r.item = is ∙ ap inside e in
    let full : d ≡ cond (eqb (inside r.item).version 0) (digest []) (inside r.item).digest =
    sym shows ∙ ap (λ (s : Slot). cond (eqb s.version 0) (digest []) s.digest) at in
    (λ t. (subst (λ m. m < 64) e lt, version ∙ ap (λ (s : Slot). s.version) at, dec.0 t ∙ full), λ a. dec.1 (a.2 ∙ sym full))

-- the label and the chain in a buffer
pub chain_head : (x y chain : List ℕ) → x ≡ label_bytes Chain → y ≡ chain → put_mid 4 32 (put_mid 0 4 (replicate 36 0) x) y ≡ label_bytes Chain ++ chain
chain_head x y chain e f =
    ap (λ u. put_mid 4 32 (put_mid 0 4 (replicate 36 0) u) y) e
    ∙ ap (λ u. put_mid 4 32 (put_mid 0 4 (replicate 36 0) (label_bytes Chain)) u) f
    ∙ ap (λ u. label_bytes Chain ++ u) (append-nil chain)

pub glue : (h b label chain body : List ℕ) → h ≡ label ++ chain → b ≡ body → h ++ b ≡ label ++ (chain ++ body)
glue h b label chain body e f = ap (λ u. u ++ b) e ∙ ap (λ u. label ++ chain ++ u) f ∙ append_assoc label chain body
