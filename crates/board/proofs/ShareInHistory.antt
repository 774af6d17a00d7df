-- A share in as an event of the history.
use Rattle.std.proofs.Common.{◌≡◌, ℕ, ◌+◌, ◌<◌, Bool, true, false, ltb, List, [], ◌∷◌, ◌++◌, length, Ok, Err, Result, sym, refl, ap, ◌∙◌, subst, ltb-true}
use Rattle.fault.specs.declared.Fault.{Fault}
use Rattle.fault.specs.Codes.{fault}
use Rattle.fault.specs.declared.Cause.TheVariants.{NotMember}
use Rattle.fault.specs.declared.Layer.TheVariants.{Frame}
use Rattle.record.specs.Chains.{and_then, guards, unless}
use Rattle.record.specs.Formats.{formed}
use Rattle.record.specs.Rules.{boards}
use Rattle.record.proofs.Rules.{read_split}
use Rattle.store.specs.Slot.{Slot}
use Rattle.share.specs.Shares.{ShareBody, ShareReads, read_share, share_format, share_rules}
use Rattle.entry.specs.Bodies.{entry_bytes}
use Rattle.label.specs.declared.Label.TheVariants.{Entry}
use Rattle.label.specs.Labels.{labelled}
use Rattle.window.specs.Windows.{Added, entry_in}
use Rattle.history.specs.Answers.{Answered, ShareInAnswers, share_table}
use Rattle.history.specs.Commits.{commits}
use Rattle.history.specs.Entries.{shares_of}
use Rattle.history.specs.Events.{Effect, Event, effects, share, share_effect, shared_in}
use Rattle.history.specs.Clients.{used}
use Rattle.history.specs.Tables.{Read, Under}
use Rattle.history.proofs.Appends.{effects_push}
use Rattle.board.specs.declared.state.Board.{Board}
use Rattle.board.specs.Shares.{Joins, Refusal, Rest, due_now, kept_now}
use Rattle.board.specs.Standing.{Represents, Stands}
use Rattle.board.proofs.Joining.{ok_err}
use Rattle.board.proofs.ShareIn.{share_in_answered, stands-share}
use Rattle.board.proofs.Standing.{stands_quiet}

-- what the rules let through is what was read
let_through : {A : Type 0} (t : Bool) (e : Fault) (x y : Result A Fault) (s : A) → y ≡ Ok s → unless t e x ≡ y → (t ≡ true) × (x ≡ y)
let_through true e x y s is same = (refl, same)
let_through false e x y s is same = absurd (ok_err (sym (same ∙ is)))

pub member_of : (f : ℕ) (s : ShareBody) → guards (share_rules f s) (Ok s) ≡ Ok s → s.signer < boards f
member_of f s is = ltb-true s.signer (boards f) (let_through (ltb s.signer (boards f)) (fault NotMember Frame 1) (Ok s) (Ok s) s refl is).0

-- a share that was read is what the frame holds
pub read-formed : (f : ℕ) (frame : List ℕ) (s : ShareBody) → read_share 2 f frame ≡ Ok s → formed Frame (share_format 2) frame ≡ Ok s
read-formed f frame s is = go (formed Frame (share_format 2) frame) (sym (read_split Frame (share_format 2) (share_rules f) frame) ∙ is)
  where
    go : (r : Result ShareBody Fault) → and_then r (λ a. guards (share_rules f a) (Ok a)) ≡ Ok s → r ≡ Ok s
    go (Ok a) e = (let_through (ltb a.signer (boards f)) (fault NotMember Frame 1) (Ok a) (Ok s) s refl e).1
    go (Err x) e = absurd (ok_err (sym e))

module _ {S D L : Type 0} (holds : S → ℕ → Slot) (digest : List ℕ → List ℕ) (tag_of : L → ℕ → List ℕ → List ℕ)
    (tag : ℕ → List ℕ → List ℕ) (f own : ℕ) (b c : Board S D L) (h : List Event) (frame : List ℕ)
    (st : Represents holds digest tag_of tag f own b h) where
  abbrev Told : Result ℕ Fault → Type 0
  Told r = Answered digest tag f own (effects h) (shared_in frame r) × Represents holds digest tag_of tag f own c (h ++ shared_in frame r ∷ [])

  abbrev Joined : ShareBody → Result ℕ Fault → Type 0
  Joined s r =
      Joins (kept_now b.count s.version) (due_now b.window b.place.size.f s.version s.signer)
      (s.tag ≡ tag_of b.seal s.signer (labelled Entry (entry_bytes 2 (entry_in b.window s.version))))
      (Added b.window c.window s.version s.signer s.tag) r

  -- a refusal changes nothing
  quiet : (e : Fault) → c ≡ b → Represents holds digest tag_of tag f own c (h ++ shared_in frame (Err e) ∷ [])
  quiet e same = (let P : Board S D L → Type 0 = λ x. Represents holds digest tag_of tag f own x (h ++ shared_in frame (Err e) ∷ []) in
      subst P (sym same) (stands_quiet holds digest tag_of tag f own b h (shared_in frame (Err e)) refl st))

  answered : (s : ShareBody) (r : Result ℕ Fault) → read_share 2 f frame ≡ Ok s → Under (share_table digest tag f own (effects h) s) (λ n. n ≡ length (shares_of s.version (effects h)) + 1) r
      → ShareInAnswers digest tag f own (effects h) frame r
  answered s r is u =
      (let P : Result ShareBody Fault → Type 0 = λ x. Read x (λ a. Under (share_table digest tag f own (effects h) a) (λ n. n ≡ length (shares_of a.version (effects h)) + 1)) r in
      subst P (sym is) u)

  taken : (s : ShareBody) (n : ℕ) → read_share 2 f frame ≡ Ok s
      → Stands holds digest tag_of tag f own c (commits (effects h ++ share s.version (record { signer = s.signer; tag = s.tag }) ∷ []))
      (λ k. used k (effects h ++ share s.version (record { signer = s.signer; tag = s.tag }) ∷ []))
      (λ v. shares_of v (effects h ++ share s.version (record { signer = s.signer; tag = s.tag }) ∷ []))
      → Represents holds digest tag_of tag f own c (h ++ shared_in frame (Ok n) ∷ [])
  taken s n is stands =
      let e : effects (h ++ shared_in frame (Ok n) ∷ []) ≡ effects h ++ share s.version (record { signer = s.signer; tag = s.tag }) ∷ [] =
      effects_push h (shared_in frame (Ok n)) ∙ ap (λ x. effects h ++ share_effect x ∷ []) (read-formed f frame s is) in
      (let P : List Effect → Type 0 = λ es. Stands holds digest tag_of tag f own c (commits es) (λ k. used k es) (λ v. shares_of v es) in subst P (sym e) stands)

  told : (R : Result ShareBody Fault) (r : Result ℕ Fault) → read_share 2 f frame ≡ R → ShareReads 2 f frame R → Read R Joined r → Refusal r (c ≡ b) → Rest b c → Told r
  told (Err e) r is reads j refused rest =
      (let P : Result ℕ Fault → Type 0 = λ x. Refusal x (c ≡ b) → Told x in
      let N : ShareBody → Result ℕ Fault → Type 0 = λ a. Under (share_table digest tag f own (effects h) a) (λ n. n ≡ length (shares_of a.version (effects h)) + 1) in
      let Q : Result ShareBody Fault → Type 0 = λ x. Read x N (Err e) in
      subst P (sym j) (λ same. (subst Q (sym is) refl, quiet e same)) refused)
  told (Ok s) (Err x) is reads j refused rest = (
    answered s (Err x) is (share_in_answered holds digest tag_of tag f own b c (effects h) s st (member_of f s (reads.accepted s refl).1) (reads.accepted s refl).0.low (Err x) j),
    quiet x refused,
  )
  told (Ok s) (Ok n) is reads j refused rest = (
    answered s (Ok n) is (share_in_answered holds digest tag_of tag f own b c (effects h) s st (member_of f s (reads.accepted s refl).1) (reads.accepted s refl).0.low (Ok n) j),
    taken s n is (stands-share holds digest tag_of tag f own b c (effects h) s st (member_of f s (reads.accepted s refl).1) (reads.accepted s refl).0.low n j rest),
  )

  pub share_in_told : (r : Result ℕ Fault) → Read (read_share 2 b.place.size.f frame) Joined r
      → ShareReads 2 b.place.size.f frame (read_share 2 b.place.size.f frame) → Refusal r (c ≡ b) → Rest b c → Told r
  share_in_told r j reads refused rest =
      (let P : ℕ → Type 0 = λ k. Read (read_share 2 k frame) Joined r → ShareReads 2 k frame (read_share 2 k frame) → Told r in
      subst P (sym st.faults) (λ j2 reads2. told (read_share 2 f frame) r refl reads2 j2 refused rest) j reads)
