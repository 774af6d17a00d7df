-- A reading judged with a board's own proof.
use Rattle.std.proofs.Common.{◌≡◌, ℕ, ◌≤◌, Bool, true, false, cond, ltb, List, [], ◌∷◌, ◌++◌, length, take, Ok, Err, Result, sym, refl, ap, ◌∙◌, subst, arith}
use Rattle.std.proofs.lemmas.Bool.{ltb-false}
use Rattle.fault.specs.declared.Fault.{Fault}
use Rattle.fault.specs.declared.Cause.TheVariants.{NoRoom}
use Rattle.fault.specs.declared.Layer.TheVariants as layer
use Rattle.fault.specs.Codes.{fault}
use Rattle.record.specs.Chains.{after}
use Rattle.store.specs.Slot.{Slot}
use Rattle.window.specs.declared.ring.Window.{Window}
use Rattle.proof.specs.Bodies.{proof_bytes}
use Rattle.proof.specs.Writing.{weigh_proof}
use Rattle.reading.specs.Bodies.{ReadingBody, reading_of}
use Rattle.history.specs.Events.{Event, effects, proved, width}
use Rattle.history.specs.Answers.{Answered, ProofReadsBack}
use Rattle.board.specs.declared.state.Board.{Board}
use Rattle.board.specs.Proofs.{framed_now, proof_in, proof_now, range_now}
use Rattle.board.specs.Standing.{Represents}
use Rattle.board.specs.WriteSets.{WriteSets}
use Rattle.board.proofs.Sets.{sets_quiet}
use Rattle.reader.specs.Checks.{highest, lowest}
use Rattle.reader.proofs.Clear.{ok_err}
use Rattle.promises.specs.Readings.{Judged, OwnProof, ReadAndJudged}

err_same : (e d : Fault) → ◌≡◌ {A = Result ReadingBody Fault} (Err e) (Err d) → ◌≡◌ {A = Result ℕ Fault} (Err e) (Err d)
err_same e d q = let same : e ≡ d = cc in ap Err same

same-reading : (p q : ReadingBody) → ◌≡◌ {A = Result ReadingBody Fault} (Ok p) (Ok q) → p ≡ q
same-reading p q e = cc

same_ok : (m n : ℕ) → ◌≡◌ {A = Result ℕ Fault} (Ok m) (Ok n) → m ≡ n
same_ok m n e = cc

after_ok : {A : Type 0} (a : Result A Fault) (s : Result ℕ Fault) (n : ℕ) → after a s ≡ Ok n → s ≡ Ok n
after_ok (Ok x) s n e = e
after_ok (Err f) s n e = absurd (ok_err n f (sym e))

-- a proof that was written had room
pub proof-fits : (w : Window) (f count low high room n : ℕ) → Ok n ≡ proof_now w f count low high room → n ≤ room
proof-fits w f count low high room n is =
    let framed = after_ok _ (framed_now f (proof_in w low high) room) n (after_ok (range_now count low high) _ n (sym is)) in
    go (ltb room (length (proof_bytes 2 (proof_in w low high)))) refl framed
  where
    go : (b : Bool) → ltb room (length (proof_bytes 2 (proof_in w low high))) ≡ b
        → cond b (Err (fault NoRoom layer.Board 0)) (after (weigh_proof 2 f (proof_in w low high)) (Ok (length (proof_bytes 2 (proof_in w low high))))) ≡ Ok n → n ≤ room
    go true e x = absurd (ok_err n (fault NoRoom layer.Board 0) (sym x))
    go false e x =
        let le = ltb-false room (length (proof_bytes 2 (proof_in w low high))) e in
        let same = same_ok _ n (after_ok (weigh_proof 2 f (proof_in w low high)) (Ok (length (proof_bytes 2 (proof_in w low high)))) n x) in
        omega arith

-- a reader of the same boards: the same f, and a seal that means the same
pub judged_at : (digest : List ℕ → List ℕ) (seal tag : ℕ → List ℕ → List ℕ) (g f : ℕ) (reading proof : List ℕ) (r : Result ℕ Fault) → g ≡ f
    → ((s : ℕ) (m : List ℕ) → seal s m ≡ tag s m) → Judged digest seal g reading proof r → Judged digest tag f reading proof r
judged_at digest seal tag g f reading proof r few same j =
    subst (λ (t : ℕ → List ℕ → List ℕ). Judged digest t f reading proof r) (λ i s m. same s m i) (subst (λ (n : ℕ). Judged digest seal n reading proof r) few j)

module _ {S D L : Type 0} (holds : S → ℕ → Slot) (digest : List ℕ → List ℕ) (tag_of : L → ℕ → List ℕ → List ℕ) (tag : ℕ → List ℕ → List ℕ) (f own : ℕ) (b : Board S D L) (h : List Event) (low high : ℕ) (reading room out : List ℕ) where
  abbrev Told : Result ℕ Fault → Type 0
  Told call = Answered digest tag f own (effects h) (proved low high room out call) × ProofReadsBack digest tag f own (effects h) low high out call × Represents holds digest tag_of tag f own b (h ++ proved low high room out call ∷ [])

  pub own_refused : (e : Fault) → Told (Err e) → WriteSets h → OwnProof holds digest tag_of tag f own b h low high reading room out (Err e)
  own_refused e told sets = record {
    call = Err e;
    answered = told.0;
    back = told.1;
    represents = told.2;
    sets = sets_quiet h _ refl sets;
    refused = λ x same. same;
    judged = λ n same. absurd (ok_err n e (sym same));
    settled = λ n same. absurd (ok_err n e (sym same));
  }

  pub own_judged : (n : ℕ) (r : Result ℕ Fault) → Told (Ok n) → WriteSets h → Judged digest tag f reading (take n out) r → OwnProof holds digest tag_of tag f own b h low high reading room out r
  own_judged n r told sets j = record {
    call = Ok n;
    answered = told.0;
    back = told.1;
    represents = told.2;
    sets = sets_quiet h _ refl sets;
    refused = λ e same. absurd (ok_err n e same);
    judged = λ m same. subst (λ (k : ℕ). Judged digest tag f reading (take k out) r) (same_ok n m same) j;
    settled = λ m same q read least most faulty bus of furthest among far fair later is.
        let back = sym (same_ok n m same) in
        j.settled faulty bus of furthest among far q read own fair h later room out n
        (is ∙ λ i. h ++ proved (least i) (most i) room out (Ok (back i)) ∷ later) refl;
  }

  -- the range is the reading's
  pub read-judged : (read : ReadingBody) (r : Result ℕ Fault) → reading_of width reading ≡ Ok read → low ≡ lowest read.items → high ≡ highest read.items
      → OwnProof holds digest tag_of tag f own b h low high reading room out r → ReadAndJudged holds digest tag_of tag f own b h reading room out r
  read-judged read r is least most proof = record {
    malformed = λ e no'. absurd (ok_err read e (sym is ∙ no'));
    asked = λ q same.
        let one : read ≡ q = same-reading read q (sym is ∙ same) in
        subst (λ (p : ReadingBody). OwnProof holds digest tag_of tag f own b h (lowest p.items) (highest p.items) reading room out r) one
        (subst (λ (n : ℕ). OwnProof holds digest tag_of tag f own b h (lowest read.items) n reading room out r) most
        (subst (λ (n : ℕ). OwnProof holds digest tag_of tag f own b h n high reading room out r) least proof));
  }

-- a malformed reading asks nothing of the board
pub read-refused : {S D L : Type 0} (holds : S → ℕ → Slot) (digest : List ℕ → List ℕ) (tag_of : L → ℕ → List ℕ → List ℕ) (tag : ℕ → List ℕ → List ℕ) (f own : ℕ) (b : Board S D L) (h : List Event) (reading room out : List ℕ) (e : Fault)
    → reading_of width reading ≡ Err e → out ≡ room → ReadAndJudged holds digest tag_of tag f own b h reading room out (Err e)
read-refused holds digest tag_of tag f own b h reading room out e is kept = record {
  malformed = λ d no'. (err_same e d (sym is ∙ no'), kept);
  asked = λ q same. absurd (ok_err q e (sym same ∙ is));
}
