-- What a delivery answers, and where it brings a board.
use Rattle.std.proofs.Common.{◌≡◌, ℕ, ◌≤◌, List, [], ◌∷◌, ◌++◌, take, Ok, Err, Option, Result, sym, refl, ap, ◌∙◌, subst, arith}
use Rattle.std.specs.List.{AllByRecursion, AllByRecursion as All}
use Rattle.fault.specs.declared.Fault.{Fault}
use Rattle.fault.specs.declared.Verdict.TheVariants as verdict
use Rattle.decision.specs.declared.Decision.TheVariants.{Abort, Commit}
use Rattle.fault.specs.declared.Cause.TheVariants.{BankFull, NotOpen, WrongTag}
use Rattle.fault.specs.declared.Layer.TheVariants as layer
use Rattle.fault.specs.Codes.{fault}
use Rattle.octets.specs.Numbers.{limit}
use Rattle.label.specs.declared.Label.TheVariants.{Request}
use Rattle.label.specs.Labels.{labelled}
use Rattle.seal.specs.Seals.{client_signer}
use Rattle.store.specs.Slot.{Slot}
use Rattle.numbers.specs.Sequence.{Open}
use Rattle.numbers.specs.Clients.{TracksAll, UsedMore}
use Rattle.request.specs.Bodies.{ReadBody, RequestBody, read_request}
use Rattle.history.specs.declared.Delivery.{Delivery}
use Rattle.history.specs.Events.{Event, abort, commit, delivered, effect, effects, verdict_effect, width}
use Rattle.history.specs.Commits.{Passes, commits}
use Rattle.history.specs.Entries.{shares_of}
use Rattle.history.specs.Clients.{used}
use Rattle.history.specs.Answers.{Answered, Delivers, deliver_table, tag_at}
use Rattle.history.specs.Tables.{Case, Read, Under, when}
use Rattle.history.proofs.Appends.{commits-abort, commits-commit, effects_push, shares-abort, shares-commit, used-abort, used-abort-other, used-commit, used-commit-other}
use Rattle.board.specs.declared.state.Board.{Board}
use Rattle.board.specs.Standing.{Represents}
use Rattle.board.specs.Delivering.{Agrees, Committed, KeptOnRefusal, checks}
use Rattle.board.proofs.Standing.{stands_quiet, stands_same}
use Rattle.board.proofs.DeliverStands.{agrees_passes, passes_agrees, stands-commit, stands-used}

pub ok_err : {A : Type 0} (a : A) (e : Fault) → Ok a ≡ Err e → ⊥
ok_err a e q = let z : ◌≡◌ {A = ℕ} 0 1 = cc in omega arith

err_same : {A : Type 0} (d e : Fault) → ◌≡◌ {A = Result A Fault} (Err d) (Err e) → d ≡ e
err_same d e q = cc

-- a table that is passed, and one that refuses, whatever the success is
pub under_ok : (A B : Type 0) (t : List Case) (P : A → Type 0) (a : A) (b : B) → Under t (λ (_ : B). Unit {0}) (Ok b) → P a → Under t P (Ok a)
under_ok A B [] P a b h p = p
under_ok A B (c ∷ cs) P a b h p = (λ holds. absurd (ok_err b c.refusal (h.0 holds)), λ fails. under_ok A B cs P a b (h.1 fails) p)

pub under_err : (A B : Type 0) (t : List Case) (P : A → Type 0) (e : Fault) → Under t (λ (_ : B). Unit {0}) (Err e) → Under t P (Err e)
under_err A B [] P e h = absurd h
under_err A B (c ∷ cs) P e h = (λ holds. ap Err (err_same {A = B} e c.refusal (h.0 holds)), λ fails. under_err A B cs P e (h.1 fails))

-- a request that passed its checks has an open number
pub checked_open : {B : Type 0} (tag : ℕ → List ℕ → List ℕ) (us : List ℕ) (count : ℕ) (frame : List ℕ) (q : RequestBody) (b : B)
    → Under (checks tag us count frame q) (λ (_ : B). Unit {0}) (Ok b) → (Open width us q.sequence → ⊥) → ⊥
checked_open tag us count frame q b h shut =
    let rest = h.1 (λ wrong. ok_err b (fault WrongTag layer.Seal (tag_at q)) (h.0 wrong)) in
    ok_err b (fault NotOpen layer.Board 2) (rest.0 shut)

all_every : {X : Type 0} (P Q R : X → Type 0) (xs : List X) → ((x : X) → P x → Q x → R x) → AllByRecursion P xs → All Q xs → All R xs
all_every P Q R [] f p q = tt
all_every P Q R (x ∷ xs) f p q = (f x p.0 q.0, all_every P Q R xs f p.1 q.1)

all_map_here : {X : Type 0} (P Q : X → Type 0) (xs : List X) → ((x : X) → P x → Q x) → All P xs → All Q xs
all_map_here P Q [] f p = tt
all_map_here P Q (x ∷ xs) f p = (f x p.0, all_map_here P Q xs f p.1)

-- a refusal leaves the board, and adds an event without effect
module _ {S D L : Type 0} (holds : S → ℕ → Slot) (digest : List ℕ → List ℕ) (tag_of : L → ℕ → List ℕ → List ℕ)
    (tag : ℕ → List ℕ → List ℕ) (f own : ℕ) (b : Board S D L) (h : List Event) (st : Represents holds digest tag_of tag f own b h)
    (frame : List ℕ) where
  pub refusal : (r : Result Delivery Fault) (e : Fault) → r ≡ Err e → Answered digest tag f own (effects h) (delivered frame (Err e))
      → Answered digest tag f own (effects h) (delivered frame r) × Represents holds digest tag_of tag f own b (h ++ delivered frame r ∷ [])
  refusal r e is a =
      subst (λ x. Answered digest tag f own (effects h) (delivered frame x) × Represents holds digest tag_of tag f own b (h ++ delivered frame x ∷ []))
      (sym is) (a, stands_quiet holds digest tag_of tag f own b h (delivered frame (Err e)) refl st)

  pub unread : (e : Fault) → Err e ≡ read_request width frame → Answered digest tag f own (effects h) (delivered frame (Err e))
  unread e is =
      subst (λ x. Read x (λ p. Under (deliver_table digest tag f own (effects h) frame p) (Delivers digest tag f own (effects h) p)) (Err e)) is refl

pub left_alone : {A : Type 0} (b : A) (r : Result Delivery Fault) (e : Fault) → r ≡ Err e → KeptOnRefusal b b r
left_alone b r e is = subst (λ x. KeptOnRefusal b b x) (sym is) refl

module _ {S D L : Type 0} (holds : S → ℕ → Slot) (digest : List ℕ → List ℕ) (tag_of : L → ℕ → List ℕ → List ℕ)
    (tag : ℕ → List ℕ → List ℕ) (f own : ℕ) (b : Board S D L) (h : List Event) (st : Represents holds digest tag_of tag f own b h)
    (frame : List ℕ) (q : RequestBody) (reads : read_request width frame ≡ Ok q) where
  -- the table of a board that stands there is the history's
  same_table : (A : Type 0) (P : A → Type 0) (r : Result A Fault) (fr : List ℕ) → fr ≡ frame
      → Under (checks (tag_of b.seal) (used q.client (effects h)) b.count fr q) P r → Under (deliver_table digest tag f own (effects h) frame q) P r
  same_table A P r fr is u =
      let us = used q.client (effects h) in
      let table : List ℕ → ℕ → List Case = λ t n.
      when (q.tag ≡ t → ⊥) (fault WrongTag layer.Seal (tag_at q)) ∷ when (Open width us q.sequence → ⊥) (fault NotOpen layer.Board 2)
      ∷ when (limit width ≤ n) (fault BankFull layer.Board 0) ∷ [] in
      let s = client_signer q.client in
      let m = labelled Request (take (tag_at q) frame) in
      subst (λ n. Under (table (tag s m) n) P r) st.count (subst (λ t. Under (table t b.count) P r) (st.seal s m)
      (subst (λ x. Under (checks (tag_of b.seal) us b.count x q) P r) is u))

  answered : (r : Result Delivery Fault) → Under (deliver_table digest tag f own (effects h) frame q) (Delivers digest tag f own (effects h) q) r
      → Answered digest tag f own (effects h) (delivered frame r)
  answered r u =
      subst (λ x. Read x (λ p. Under (deliver_table digest tag f own (effects h) frame p) (Delivers digest tag f own (effects h) p)) r) (sym reads) u

  pub refuses : (B : Type 0) (e : Fault) (fr : List ℕ) → fr ≡ frame
      → Under (checks (tag_of b.seal) (used q.client (effects h)) b.count fr q) (λ (_ : B). Unit {0}) (Err e)
      → Answered digest tag f own (effects h) (delivered frame (Err e))
  refuses B e fr is u =
      answered (Err e) (under_err Delivery B (deliver_table digest tag f own (effects h) frame q) (Delivers digest tag f own (effects h) q) e
      (same_table B (λ (_ : B). Unit {0}) (Err e) fr is u))

  pub delivers : (B : Type 0) (d : Delivery) (x : B) (fr : List ℕ) → fr ≡ frame
      → Under (checks (tag_of b.seal) (used q.client (effects h)) b.count fr q) (λ (_ : B). Unit {0}) (Ok x)
      → Delivers digest tag f own (effects h) q d → Answered digest tag f own (effects h) (delivered frame (Ok d))
  delivers B d x fr is u says =
      answered (Ok d) (under_ok Delivery B (deliver_table digest tag f own (effects h) frame q) (Delivers digest tag f own (effects h) q) d x
      (same_table B (λ (_ : B). Unit {0}) (Ok x) fr is u) says)

  -- the reads agree with the store exactly when they pass
  pub all_pass : All (Agrees digest (holds b.store)) q.reads → All (Passes digest (commits (effects h))) q.reads
  all_pass all =
      all_map_here (Agrees digest (holds b.store)) (Passes digest (commits (effects h))) q.reads
      (agrees_passes holds digest tag_of tag f own b (commits (effects h)) (λ c. used c (effects h)) (λ v. shares_of v (effects h)) st) all

  pub all_agree : AllByRecursion (λ r. r.item ≤ 63) q.reads → All (Passes digest (commits (effects h))) q.reads → All (Agrees digest (holds b.store)) q.reads
  all_agree items all =
      all_every (λ (r : ReadBody). r.item ≤ 63) (Passes digest (commits (effects h))) (Agrees digest (holds b.store)) q.reads
      (λ r le p. passes_agrees holds digest tag_of tag f own b (commits (effects h)) (λ c. used c (effects h)) (λ v. shares_of v (effects h)) st r (omega arith) p)
      items all

  -- an abort: the number is used up, and nothing else
  pub aborts : (c : Board S D L) (opened : Option ℕ)
      → c.place ≡ b.place → c.seal ≡ b.seal → c.count ≡ b.count → c.chain ≡ b.chain → c.store ≡ b.store → c.window ≡ b.window
      → ((more : ℕ → List ℕ) → UsedMore (λ k. used k (effects h)) q.client q.sequence more → TracksAll width c.clients more)
      → Represents holds digest tag_of tag f own c (h ++ delivered frame (Ok (record { decision = Abort; opened = opened })) ∷ [])
  aborts c opened place seal count chain store window tracks =
      let e = delivered frame (Ok (record { decision = Abort; opened = opened })) in
      let is : effect e ≡ abort q.client q.sequence = ap (λ r. verdict_effect r verdict.Abort) reads in
      let es = effects h in
      let more : effects (h ++ e ∷ []) ≡ es ++ abort q.client q.sequence ∷ [] = effects_push h e ∙ ap (λ x. es ++ x ∷ []) is in
      let us : ℕ → List ℕ = λ k. used k (es ++ abort q.client q.sequence ∷ []) in
      stands_same holds digest tag_of tag f own c (commits es) (commits (effects (h ++ e ∷ []))) us (λ k. used k (effects (h ++ e ∷ [])))
      (λ v. shares_of v es) (λ v. shares_of v (effects (h ++ e ∷ [])))
      (ap commits more ∙ commits-abort es q.client q.sequence) (λ k. ap (used k) more)
      (λ v. ap (shares_of v) more ∙ shares-abort es q.client q.sequence v)
      (stands-used holds digest tag_of tag f own b c (commits es) (λ k. used k es) us (λ v. shares_of v es) place seal count chain store window
      (tracks us (used-abort es q.client q.sequence, λ k ne. used-abort-other es q.client q.sequence k (λ x. ne (sym x)))) st)

  -- a commit: m is the board behind the number that is used up
  pub commit-made : (m c : Board S D L) (version : ℕ) (opened : Option ℕ) → Committed digest holds m c q.writes
      → m.place ≡ b.place → m.seal ≡ b.seal → m.count ≡ b.count → m.chain ≡ b.chain → m.store ≡ b.store → m.window ≡ b.window
      → ((more : ℕ → List ℕ) → UsedMore (λ k. used k (effects h)) q.client q.sequence more → TracksAll width m.clients more)
      → Represents holds digest tag_of tag f own c (h ++ delivered frame (Ok (record { decision = Commit version; opened = opened })) ∷ [])
  commit-made m c version opened made place seal count chain store window tracks =
      let e = delivered frame (Ok (record { decision = Commit version; opened = opened })) in
      let es = effects h in
      let one = commit q.client q.sequence q.writes in
      let is : effect e ≡ one = ap (λ r. verdict_effect r verdict.Commit) reads in
      let more : effects (h ++ e ∷ []) ≡ es ++ one ∷ [] = effects_push h e ∙ ap (λ x. es ++ x ∷ []) is in
      let us : ℕ → List ℕ = λ k. used k (es ++ one ∷ []) in
      stands_same holds digest tag_of tag f own c (commits es ++ q.writes ∷ []) (commits (effects (h ++ e ∷ []))) us (λ k. used k (effects (h ++ e ∷ [])))
      (λ v. shares_of v es) (λ v. shares_of v (effects (h ++ e ∷ [])))
      (ap commits more ∙ commits-commit es q.client q.sequence q.writes) (λ k. ap (used k) more)
      (λ v. ap (shares_of v) more ∙ shares-commit es q.client q.sequence q.writes v)
      (stands-commit holds digest tag_of tag f own m c (commits es) q.writes us (λ v. shares_of v es) made
      (stands-used holds digest tag_of tag f own b m (commits es) (λ k. used k es) us (λ v. shares_of v es) place seal count chain store window
      (tracks us (used-commit es q.client q.sequence q.writes, λ k ne. used-commit-other es q.client q.sequence q.writes k (λ x. ne (sym x)))) st))
