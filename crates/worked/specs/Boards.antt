-- Worked cases of a board, for every history of their shape; each shape occurs.
use Rattle.std.specs.Prelude.{◌≡◌, ℕ, ◌≤◌, ◌⊎◌, List, [], ◌∷◌, ◌++◌, length, Ok, Err, Result, ◌≢◌}
use Rattle.fault.specs.declared.Fault.{Fault}
use Rattle.decision.specs.declared.Decision.{Decision}
use Rattle.decision.specs.declared.Decision.TheVariants.{Abort, Commit}
use Rattle.fault.specs.declared.Cause.TheVariants.{Evicted, NotOpen}
use Rattle.fault.specs.declared.Layer.TheVariants.{Board}
use Rattle.fault.specs.Codes.{fault}
use Rattle.octets.specs.Numbers.{Bytes, limit}
use Rattle.numbers.specs.Sequence.{Open}
use Rattle.request.specs.Bodies.{ReadBody, ReadIn, WriteBody}
use Rattle.share.specs.Shares.{ShareBody, read_share}
use Rattle.history.specs.declared.Delivery.{Delivery}
use Rattle.history.specs.Events.{Effect, Event, delivered, effects, width}
use Rattle.history.specs.Commits.{Wrote, commits}
use Rattle.history.specs.Clients.{used}
use Rattle.history.specs.Answers.{DeliverAnswers, Lawful, ProofAnswers, ShareInAnswers, ShareOutAnswers}
use Rattle.history.specs.Backs.{AllReadBack}
use Rattle.worked.specs.Requests.{CommitsOccur, Requested, RequestsOccur}

-- the refusal of an evicted version
abbrev pub gone : {A : Type 0} → Result A Fault
gone = Err (fault Evicted Board 0)

-- a frame with a share of version v
abbrev pub SharesVersion : ℕ → List ℕ → ℕ → Type 0
SharesVersion f frame v = (s : ShareBody) × ((read_share width f frame ≡ Ok s) × (s.version ≡ v))

-- the answer to a delivery is this decision
abbrev pub Gets : Decision → Result Delivery Fault → Type 0
Gets d (Ok told) = told.decision ≡ d
Gets d (Err e) = ⊥

-- two commits: the first wrote v to item 5, the second u to item 6 and nothing to item 5
pub record FiveThenSix (cs : List (List WriteBody)) (v u : List ℕ) : Type 0 where
  pub two : length cs ≡ 2
  pub first : Wrote cs 1 5 v
  pub second : Wrote cs 2 6 u
  pub other : (w : List ℕ) → Wrote cs 2 5 w → ⊥

abbrev pub read_of_five : ℕ → List ℕ → ReadBody
read_of_five i d = record { item = 5; version = i; digest = d }

-- the numbers 1, 3, 4 and 5
abbrev pub OneThreeFourFive : ℕ → Type 0
OneThreeFourFive t = (t ≡ 1) ⊎ ((t ≡ 3) ⊎ ((t ≡ 4) ⊎ (t ≡ 5)))

module _ (digest : List ℕ → List ℕ) (tag : ℕ → List ℕ → List ℕ) (f own : ℕ) where
  -- a history whose effects are such
  abbrev pub Occurs : (List Effect → Type 0) → Type 0
  Occurs P = (h : List Event) × (Lawful digest tag f own [] h × AllReadBack digest tag f own [] h × P (effects h))

  -- a history that ends in the delivery of a request with these reads, where the effects before it, the client and the number are such
  pub record Delivered (P : List Effect → ℕ → ℕ → Type 0) (rs : List ReadBody) : Type 0 where
    pub before : List Event
    pub frame : List ℕ
    pub client : ℕ
    pub number : ℕ
    pub writes : List WriteBody
    pub answer : Result Delivery Fault
    pub such : P (effects before) client number
    pub requested : Requested tag frame client number rs writes
    pub lawful : Lawful digest tag f own [] (before ++ delivered frame answer ∷ [])
    pub back : AllReadBack digest tag f own [] (before ++ delivered frame answer ∷ [])

  -- version 1 is evicted, whichever call names it, and version 2 is not
  pub record FirstEvicted (es : List Effect) : Type 0 where
    pub share_out : (room : ℕ) (r : Result ℕ Fault) → ShareOutAnswers digest tag f own es 1 room r → r ≡ gone
    pub share_in : (frame : List ℕ) (r : Result ℕ Fault) → SharesVersion f frame 1 → ShareInAnswers digest tag f own es frame r → r ≡ gone
    -- a lowest version 0 counts as 1
    pub proof : (low high room : ℕ) (r : Result ℕ Fault) → low ≤ 1 → 1 ≤ high → high ≤ length (commits es) → ProofAnswers digest tag f own es low high room r → r ≡ gone
    pub share_out_kept : (room : ℕ) (r : Result ℕ Fault) → ShareOutAnswers digest tag f own es 2 room r → r ≢ gone
    pub share_in_kept : (frame : List ℕ) (r : Result ℕ Fault) → SharesVersion f frame 2 → ShareInAnswers digest tag f own es frame r → r ≢ gone
    pub proof-kept : (high room : ℕ) (r : Result ℕ Fault) → ProofAnswers digest tag f own es 2 high room r → r ≢ gone
    -- with room for its 20 bytes the share of version 2 is written
    pub share-written : (room : ℕ) (r : Result ℕ Fault) → 20 ≤ room → ShareOutAnswers digest tag f own es 2 room r → r ≡ Ok 20

  -- After 33 commits version 1 is evicted, and version 2 is kept.
  pub record EvictedAfter33 : Type 0 where
    pub first : (es : List Effect) → length (commits es) ≡ 33 → FirstEvicted es
    pub occurs : Occurs (λ es. length (commits es) ≡ 33)
    pub shares_occur : (v : ℕ) → 1 ≤ v → v ≤ limit width → (frame : List ℕ) × SharesVersion f frame v

  -- what a request with one read, of item 5, gets after those two commits, under an open number
  abbrev pub ReadGets : ReadBody → List ℕ → Decision → Type 0
  ReadGets q v d =
      (es : List Effect) (u frame : List ℕ) (c s : ℕ) (ws : List WriteBody) (r : Result Delivery Fault)
      → FiveThenSix (commits es) v u → Requested tag frame c s (q ∷ []) ws → Open width (used c es) s
      → DeliverAnswers digest tag f own es frame r → Gets d r

  -- Commit 1 wrote item 5, commit 2 item 6: item 5 at 1 passes; at 2 with commit 1's digest, at 0 and at 9 it aborts.
  pub record ReadsOfFive : Type 0 where
    pub at_1 : (v : List ℕ) → ReadGets (read_of_five 1 (digest v)) v (Commit 3)
    pub at_2 : (v : List ℕ) → ReadGets (read_of_five 2 (digest v)) v Abort
    pub at_0 : (v d : List ℕ) → ReadGets (read_of_five 0 d) v Abort
    pub at_9 : (v d : List ℕ) → ReadGets (read_of_five 9 d) v Abort
    -- for all values, and every read in range
    pub occurs : (v u : List ℕ) (q : ReadBody) → length v ≤ 32 → Bytes v → length u ≤ 32 → Bytes u → ReadIn width q
        → Delivered (λ es c s. FiveThenSix (commits es) v u × Open width (used c es) s) (q ∷ [])

  -- A new client's fifth number is refused; after its second is used, exactly 1, 3, 4 and 5 are open.
  pub record ClientNumbers : Type 0 where
    pub fifth : (es : List Effect) (frame : List ℕ) (c : ℕ) (rs : List ReadBody) (ws : List WriteBody) (r : Result Delivery Fault)
        → used c es ≡ [] → Requested tag frame c 5 rs ws → DeliverAnswers digest tag f own es frame r → r ≡ Err (fault NotOpen Board 2)
    pub after-second : (es : List Effect) (c t : ℕ) → used c es ≡ 2 ∷ []
        → (Open width (used c es) t → OneThreeFourFive t) × (OneThreeFourFive t → Open width (used c es) t)
    pub fifth-occurs : (k : ℕ) (q : ReadBody) → k ≤ 15 → ReadIn width q → Delivered (λ es c s. (c ≡ k) × (s ≡ 5) × (used c es ≡ [])) (q ∷ [])
    pub second-occurs : (c : ℕ) → c ≤ 15 → Occurs (λ es. used c es ≡ 2 ∷ [])

  pub record BoardCases : Type 0 where
    pub requests : RequestsOccur tag
    pub commits : CommitsOccur digest tag f own
    pub evicted : EvictedAfter33
    pub reads : ReadsOfFive
    pub numbers : ClientNumbers
