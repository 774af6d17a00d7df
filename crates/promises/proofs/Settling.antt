-- Readings judged over histories.
use Rattle.std.proofs.Common.{◌≡◌, ℕ, zero, suc, ◌+◌, ◌-◌, ◌≤◌, max, List, [], ◌∷◌, map, length, take, Ok, Result, refl, ap, ◌∙◌, subst, inl, inr, arith}
use Rattle.std.specs.List.{range_with_len}
use Rattle.std.proofs.ByRecursion.{All-weaker}
use Rattle.std.proofs.lemmas.List.{map-append, take_at}
use Rattle.std.proofs.lemmas.Bool.{cases_lt}
use Rattle.fault.specs.declared.Fault.{Fault}
use Rattle.octets.specs.Numbers.{Bytes}
use Rattle.seal.specs.Seals.{passes}
use Rattle.entry.specs.Bodies.{EntryBody}
use Rattle.reading.specs.Bodies.{ReadingBody, ReadingItemBody, reading_of}
use Rattle.proof.specs.Bodies.{ProofBody}
use Rattle.proof.specs.Rules.{proof_of}
use Rattle.history.specs.Events.{Effect, Event, effect, effects, proved, width}
use Rattle.history.specs.Commits.{commits}
use Rattle.history.specs.Entries.{entry_at, sealed_at, shares_of, versions}
use Rattle.history.specs.Tables.{Read}
use Rattle.history.specs.Answers.{Lawful, ProofAnswers, proof_body, proof_frame, proof_table}
use Rattle.history.specs.Marks.{FirstPart, frames}
use Rattle.history.proofs.Appends.{commits-append}
use Rattle.history.proofs.Determined.{first_either, first_shorter, first_trans, frames-first}
use Rattle.history.proofs.Lawfuls.{lawful-first, lawful-rest}
use Rattle.reader.specs.Checks.{CheckAnswers, Tagged, highest, lowest}
use Rattle.reader.specs.Accepted as accepted
use Rattle.reader.specs.Accepted.{AcceptedMeansHeld, AllTagged, Commits, Holds, HonestProof, HonestProofDecides, NoClash, entry_of}
use Rattle.reader.proofs.Clear.{ok_clear}
use Rattle.reader.proofs.Accepting.{table_passed}
use Rattle.reader.proofs.Holding.{holds_passed}
use Rattle.reader.proofs.Proving.{read-proven}
use Rattle.promises.specs.Readings.{AcceptedIsState, Boards, Furthest, Honest, HonestProofSettles, Judged, commits_of}
use Rattle.history.specs.Backs.{AllReadBack}
use Rattle.history.proofs.Backs.{back_at}
use Rattle.promises.proofs.Sharing.{AllStamped, Stamped, all_by_signer, stamped}

-- a first part is the front that a reader's acceptance speaks of
as_front : (xs ys : Commits) → FirstPart xs ys → accepted.FirstPart xs ys
as_front xs ys (rest, e) = ap (take (length xs)) e ∙ take_at xs rest (length xs) refl

module _ (digest : List ℕ → List ℕ) (tag : ℕ → List ℕ → List ℕ) (f : ℕ) (faulty : List ℕ) (bus : List (List ℕ)) (of : ℕ → List Event) (furthest : ℕ)
    (among : Boards digest tag f faulty bus of) (far : Furthest f faulty of furthest) where
  -- the commits of an honest board are a first part of those of the furthest, since both took their frames from one list
  pub honest-first : (a : ℕ) → Honest f faulty a → FirstPart (commits_of of a) (commits_of of furthest)
  honest-first a fair =
      let either = first_either (frames (of a)) (frames (of furthest)) bus (among.order a fair) (among.order furthest far.honest) in
      let first = first_shorter (frames (of a)) (frames (of furthest)) either (far.most a fair) in
      (frames-first digest tag f f a furthest (of a) (of furthest) (among.lawful a fair) (among.lawful furthest far.honest) first).commits

module _ (digest : List ℕ → List ℕ) (tag : ℕ → List ℕ → List ℕ) (f own : ℕ) (es : List Effect) where
  entries-of : (vs : List ℕ) → map entry_of (map (sealed_at digest (commits es) es) vs) ≡ map (entry_at digest (commits es)) vs
  entries-of [] = refl
  entries-of (v ∷ vs) = ap (λ (rest : List EntryBody). entry_at digest (commits es) v ∷ rest) (entries-of vs)

  tagged-from : AllStamped digest tag es → (v n : ℕ) → 1 ≤ v → AllTagged (passes tag) (map (sealed_at digest (commits es) es) (range_with_len v n))
  tagged-from old v zero one = tt
  tagged-from old v (suc n) one = (
    all_by_signer (Tagged (passes tag) (entry_at digest (commits es) v)) (shares_of v es)
        (All-weaker (Stamped digest tag (commits es) v) (Tagged (passes tag) (entry_at digest (commits es) v)) (λ p s. s.1) (shares_of v es) (old v one)),
    tagged-from old (v + 1) n (omega arith),
  )

  -- what a board's proof call wrote is an honest proof
  pub honest-proof : AllStamped digest tag es → (ps : List ReadingItemBody) (room n : ℕ) → ProofAnswers digest tag f own es (lowest ps) (highest ps) room (Ok n)
      → HonestProof digest (passes tag) (commits es) (proof_body digest tag f own es (lowest ps) (highest ps)) ps
  honest-proof old ps room n answers =
      let table = proof_table digest tag f own es (lowest ps) (highest ps) room in
      let clear = (ok_clear (λ k. k ≡ length (proof_frame digest tag f own es (lowest ps) (highest ps))) table n answers).0 in
      record {
        range = (refl, refl);
        enough = elim (cases_lt (length (commits es)) (highest ps)) [ inl above ↦ absurd (clear.1.0 above) | inr within ↦ within ];
        entries = entries-of (versions (max 1 (lowest ps)) (highest ps));
        tags = tagged-from old (max 1 (lowest ps)) (highest ps + 1 - max 1 (lowest ps)) (omega arith);
      }

read_next : {A B : Type 0} (s : Result B Fault) (next : B → Result A Fault → Type 0) (r : Result A Fault) (b : B) → s ≡ Ok b → Read s next r → next b r
read_next {A} {B} s next r b e u = subst (λ (t : Result B Fault). Read t next r) e u

module _ (digest : List ℕ → List ℕ) (tag : ℕ → List ℕ → List ℕ) (f : ℕ) (reading proof : List ℕ) (r : Result ℕ Fault) where
  pub accepted-is-state : AcceptedMeansHeld digest (passes tag) f reading proof r → AcceptedIsState digest tag f reading proof r
  accepted-is-state held m e =
      let w = held m e in
      record {
        read = w.read_item;
        proven = w.body;
        reads = w.read;
        proves = w.proven;
        answer = w.answer;
        state = λ faulty bus of furthest few among far forgery clash.
            w.holds faulty (commits_of of furthest) (commits_of of)
            (record {
              few = few;
              first = λ a lt out. as_front (commits_of of a) (commits_of of furthest) (honest-first digest tag f faulty bus of furthest among far a (lt, out));
            })
            forgery clash;
      }

  -- an honest proof that was accepted or refused, where b is what it says
  settles : Bytes proof → CheckAnswers digest (passes tag) f reading proof r → HonestProofDecides digest (passes tag) f reading proof r
      → (q : ReadingBody) (b : ProofBody) (cs own : Commits) → reading_of width reading ≡ Ok q → proof_of width f proof ≡ Ok b → FirstPart own cs
      → HonestProof digest (passes tag) own b q.items
      → (Holds cs q.items → r ≡ Ok (highest q.items)) × (NoClash digest cs q.items → r ≡ Ok (highest q.items) → Holds cs q.items)
  settles bytes answers decides q b cs own read proves first honest = (
    λ holds.
        table_passed digest (passes tag) b.low b.high b.entries q.items r
        (holds_passed digest (passes tag) f b q.items (read-proven f proof b bytes proves) cs own (as_front own cs first) honest holds)
        (read_next (proof_of width f proof) _ r b proves (read_next (reading_of width reading) _ r q read answers)),
    λ clash e. (decides q b cs own read proves (as_front own cs first) honest clash).0 e,
  )

  pub honest_settles : Bytes proof → CheckAnswers digest (passes tag) f reading proof r → HonestProofDecides digest (passes tag) f reading proof r
      → HonestProofSettles digest tag f reading proof r
  unfolding Lawful
  honest_settles bytes answers decides faulty bus of furthest among far q read a fair earlier later before after n is given =
      let low = lowest q.items in
      let high = highest q.items in
      let es = effects earlier in
      let lawful = subst (Lawful digest tag f a []) is (among.lawful a fair) in
      let event = (lawful-rest digest tag f a [] earlier (proved low high before after (Ok n) ∷ later) lawful).0 in
      let back = back_at digest tag f a earlier later (proved low high before after (Ok n)) (subst (AllReadBack digest tag f a []) is (among.back a fair)) in
      let own = stamped digest tag f a earlier (lawful-first digest tag f a [] earlier (proved low high before after (Ok n) ∷ later) lawful) in
      let whole : FirstPart (commits es) (commits_of of a) = (
        commits (effects (proved low high before after (Ok n) ∷ later)),
        ap (λ h. commits (effects h)) is
            ∙ ap commits (map-append effect earlier (proved low high before after (Ok n) ∷ later)) ∙ commits-append es (effects (proved low high before after (Ok n) ∷ later)),
      ) in
      let first = first_trans (commits es) (commits_of of a) (commits_of of furthest) whole (honest-first digest tag f faulty bus of furthest among far a fair) in
      settles bytes answers decides q (proof_body digest tag f a es low high) (commits_of of furthest) (commits es) read
      (ap (proof_of width f) given ∙ back n refl) first
      (honest-proof digest tag f a es own q.items (length before) n event.0)

  pub judged : Bytes proof → CheckAnswers digest (passes tag) f reading proof r → AcceptedMeansHeld digest (passes tag) f reading proof r
      → HonestProofDecides digest (passes tag) f reading proof r → Judged digest tag f reading proof r
  judged bytes answers held decides = record { accepted = accepted-is-state held; settled = honest_settles bytes answers decides }
