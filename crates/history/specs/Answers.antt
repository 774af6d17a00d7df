-- Which answer each call gives, from the history before it alone.
use Rattle.std.specs.Prelude.{◌≡◌, ℕ, ◌+◌, ◌<◌, ◌≤◌, max, ◌⊎◌, List, [], ◌∷◌, ◌++◌, map, length, take, Ok, Result}
use Rattle.std.specs.List.{ContainsAt as Has, flat_map, AllByRecursion}
use Rattle.fault.specs.declared.Fault.{Fault}
use Rattle.decision.specs.declared.Decision.{Decision}
use Rattle.decision.specs.declared.Decision.TheVariants.{Abort, Commit}
use Rattle.fault.specs.declared.Cause.TheVariants.{BankFull, Evicted, Malformed, NoRoom, NoShareDue, NotCommitted, NotOpen, Unsealed, WrongTag}
use Rattle.fault.specs.declared.Layer.TheVariants.{Board, Frame, Seal}
use Rattle.fault.specs.Codes.{fault}
use Rattle.octets.specs.Numbers.{be, limit}
use Rattle.store.specs.Slot.{Slot}
use Rattle.label.specs.declared.Label.TheVariants.{Request}
use Rattle.label.specs.Labels.{labelled}
use Rattle.seal.specs.Seals.{client_signer, passes}
use Rattle.entry.specs.Bodies.{PairBody, SealedBody, entry_bytes}
use Rattle.numbers.specs.Sequence.{Open, opens}
use Rattle.record.specs.Formats.{written}
use Rattle.record.specs.Writing.{filled}
use Rattle.request.specs.Bodies.{RequestBody, read_request, write_fields, writes_at}
use Rattle.share.specs.Shares.{ShareBody, read_share, share_fields}
use Rattle.proof.specs.Bodies.{ProofBody}
use Rattle.proof.specs.Rules.{proof_of}
use Rattle.history.specs.declared.Delivery.{Delivery}
use Rattle.history.specs.Events.{Effect, Event, asked, delivered, effect, marked, proved, shared_in, shared_out, width}
use Rattle.history.specs.Commits.{Passes, commits, left, shown}
use Rattle.history.specs.Entries.{chain_after, entry_at, sealed_at, sealed_string, shares_of, signers_of, versions}
use Rattle.history.specs.Entries as entries
use Rattle.history.specs.Clients.{used}
use Rattle.history.specs.Tables.{Case, Read, Under, when}

-- where a request's tag stands: behind its writes
abbrev pub tag_at : RequestBody → ℕ
tag_at b = writes_at width b + length (written (flat_map write_fields b.writes))

-- a pair, and a proof, as bytes
abbrev pub pair_bytes : PairBody → List ℕ
pair_bytes p = p.signer ∷ p.tag

abbrev pub sealed_bytes : SealedBody → List ℕ
sealed_bytes s = entry_bytes width s.entry ++ flat_map pair_bytes s.pairs

abbrev pub proof_bytes : ℕ → ℕ → List SealedBody → List ℕ
proof_bytes low high es = 4 ∷ be width low ++ (be width high ++ flat_map sealed_bytes es)

-- the digest's meaning, the seal's meaning, how many boards may lie, and this board's number
module _ (digest : List ℕ → List ℕ) (tag : ℕ → List ℕ → List ℕ) (f own : ℕ) where
  -- Deliver, behind what its frame's reader refuses: the client's tag, its number, the count of commits.
  abbrev pub deliver_table : List Effect → List ℕ → RequestBody → List Case
  deliver_table es frame b =
      when (passes tag (client_signer b.client) (labelled Request (take (tag_at b) frame)) b.tag → ⊥) (fault WrongTag Seal (tag_at b))
      ∷ when (Open width (used b.client es) b.sequence → ⊥) (fault NotOpen Board 2)
      ∷ when (limit width ≤ length (commits es)) (fault BankFull Board 0)
      ∷ []

  -- the decision: a commit, the next, exactly when every read passes
  abbrev pub Judged : List Effect → RequestBody → Decision → Type 0
  Judged es b (Commit version) = AllByRecursion (Passes digest (commits es)) b.reads × (version ≡ length (commits es) + 1)
  Judged es b Abort = AllByRecursion (Passes digest (commits es)) b.reads → ⊥

  abbrev pub Delivers : List Effect → RequestBody → Delivery → Type 0
  Delivers es b d = Judged es b d.decision × (d.opened ≡ opens width (used b.client es))

  abbrev pub DeliverAnswers : List Effect → List ℕ → Result Delivery Fault → Type 0
  DeliverAnswers es frame r = Read (read_request width frame) (λ b. Under (deliver_table es frame b) (Delivers es b)) r

  -- Item: version, value and digest that the commits left.
  abbrev pub ItemAnswers : List Effect → ℕ → Result Slot Fault → Type 0
  ItemAnswers es x r = Under (when (63 < x) (fault Malformed Frame 1) ∷ []) (λ s. s ≡ shown digest (left (commits es) x)) r

  -- Mark: the count of commits and the chain.
  abbrev pub MarkAnswers : List Effect → ℕ → List ℕ → Type 0
  MarkAnswers es count chain = (count ≡ length (commits es)) × (chain ≡ chain_after digest (commits es))

  -- a version that is not committed, or evicted
  abbrev pub not_kept : List Effect → ℕ → List Case
  not_kept es v =
      when (length (commits es) < v) (fault NotCommitted Board 0)
      ∷ when (entries.Evicted (length (commits es)) v) (fault Evicted Board 0)
      ∷ []

  -- Share out: this board's share of a version.
  abbrev pub own_share : List Effect → ℕ → ShareBody
  own_share es v = record { signer = own; version = v; tag = tag own (sealed_string digest (commits es) v) }

  abbrev pub share_bytes : List Effect → ℕ → List ℕ
  share_bytes es v = written (share_fields width (own_share es v))

  abbrev pub ShareOutAnswers : List Effect → ℕ → ℕ → Result ℕ Fault → Type 0
  ShareOutAnswers es v room r =
      Under
      (when (v ≡ 0) (fault Malformed Frame 1) ∷ not_kept es v ++ when (room < length (share_bytes es v)) (fault NoRoom Board 0) ∷ [])
      (λ n. n ≡ length (share_bytes es v)) r

  -- Share in: a board's share joins its entry, once for each board, up to f + 1 of them.
  abbrev pub share_table : List Effect → ShareBody → List Case
  share_table es s =
      not_kept es s.version
      ++ (when (Has (signers_of s.version es) s.signer ⊎ (f + 1 ≤ length (shares_of s.version es))) (fault NoShareDue Board 0)
      ∷ when (passes tag s.signer (sealed_string digest (commits es) s.version) s.tag → ⊥) (fault WrongTag Seal (width + 2))
      ∷ [])

  abbrev pub ShareInAnswers : List Effect → List ℕ → Result ℕ Fault → Type 0
  ShareInAnswers es frame r =
      Read (read_share width f frame) (λ s. Under (share_table es s) (λ n. n ≡ length (shares_of s.version es) + 1)) r

  -- Proof: the entries from the lowest to the highest version, a lowest 0 counting as 1, each with f + 1 shares.
  abbrev pub proof_entries : List Effect → ℕ → ℕ → List SealedBody
  proof_entries es low high = map (sealed_at digest (commits es) es) (versions (max 1 low) high)

  abbrev pub proof_frame : List Effect → ℕ → ℕ → List ℕ
  proof_frame es low high = proof_bytes (max 1 low) high (proof_entries es low high)

  abbrev pub proof_body : List Effect → ℕ → ℕ → ProofBody
  proof_body es low high = record { low = max 1 low; high = high; entries = proof_entries es low high }

  -- what was written reads back as that proof
  abbrev pub ProofReadsBack : List Effect → ℕ → ℕ → List ℕ → Result ℕ Fault → Type 0
  ProofReadsBack es low high after r = (n : ℕ) → r ≡ Ok n → proof_of width f (take n after) ≡ Ok (proof_body es low high)

  -- the lowest version with fewer than f + 1 shares is named
  abbrev pub unsealed : List Effect → ℕ → Case
  unsealed es v = when (length (shares_of v es) < f + 1) (fault Unsealed Board v)

  abbrev pub proof_table : List Effect → ℕ → ℕ → ℕ → List Case
  proof_table es low high room =
      when (high < low) (fault Malformed Frame 3)
      ∷ when (length (commits es) < high) (fault NotCommitted Board 0)
      ∷ when ((1 ≤ high) × entries.Evicted (length (commits es)) (max 1 low)) (fault Evicted Board 0)
      ∷ (map (unsealed es) (versions (max 1 low) high) ++ when (room < length (proof_frame es low high)) (fault NoRoom Board 0) ∷ [])

  abbrev pub ProofAnswers : List Effect → ℕ → ℕ → ℕ → Result ℕ Fault → Type 0
  ProofAnswers es low high room r = Under (proof_table es low high room) (λ n. n ≡ length (proof_frame es low high)) r

  -- An event has the answer that the effects before it give, and leaves the buffer that they give.
  abbrev pub Answered : List Effect → Event → Type 0
  Answered es (delivered frame r) = DeliverAnswers es frame r
  Answered es (asked item r) = ItemAnswers es item r
  Answered es (marked count chain) = MarkAnswers es count chain
  Answered es (shared_out version before after r) = ShareOutAnswers es version (length before) r × (after ≡ filled r (share_bytes es version) before)
  Answered es (shared_in frame r) = ShareInAnswers es frame r
  Answered es (proved low high before after r) = ProofAnswers es low high (length before) r × (after ≡ filled r (proof_frame es low high) before)

  -- A history in which every event has its answer, after some effects.
  unfoldable pub Lawful : List Effect → List Event → Type 0
  Lawful es [] = Unit {0}
  Lawful es (e ∷ h) = Answered es e × Lawful (es ++ effect e ∷ []) h
