-- An instance of the promise on readings, over histories: four boards, two commits, a refused frame, a board that is behind,
-- and a faulty board whose tags stand in the accepted proof. Digest, seal, commits, readings and proofs are those of the reader's instance.
use Rattle.std.specs.Prelude.{◌≡◌, ℕ, ◌≤◌, cond, List, [], ◌∷◌, ◌++◌, length, take, drop, replicate, Some, Ok, Err, ◌==◌}
use Rattle.fault.specs.declared.Cause.TheVariants.{Malformed, WrongTag}
use Rattle.fault.specs.declared.Layer.TheVariants.{Frame, Seal}
use Rattle.decision.specs.declared.Decision.TheVariants.{Commit}
use Rattle.fault.specs.Codes.{fault}
use Rattle.label.specs.declared.Label.TheVariants.{Request}
use Rattle.label.specs.Labels.{labelled}
use Rattle.seal.specs.Seals.{client_signer, passes}
use Rattle.record.specs.Formats.{written}
use Rattle.entry.specs.Bodies.{EntryBody}
use Rattle.request.specs.Bodies.{ReadBody, RequestBody, WriteBody, request_fields}
use Rattle.share.specs.Shares.{share_fields}
use Rattle.proof.specs.Bodies.{proof_bytes}
use Rattle.history.specs.declared.Delivery.{Delivery}
use Rattle.history.specs.Events.{Event, delivered, proved, shared_in, width}
use Rattle.reader.specs.Checks.{CheckAnswers}
use Rattle.reader.specs.Accepted.{Holds, NoClash, NoForgery}
use Rattle.reader.specs.Example.{digest, faulty, first, proof, reading, reading_bytes, second, signed, tag, write, wrong_proof, wrong_reading}
use Rattle.promises.specs.Readings.{Boards, Furthest, commits_of}

-- a request of client 1, with the client's tag
abbrev pub bare : ℕ → List ReadBody → List WriteBody → RequestBody
bare s rs ws = record { client = 1; sequence = s; reads = rs; writes = ws; tag = [] }

abbrev pub request : ℕ → List ReadBody → List WriteBody → RequestBody
request s rs ws = record {
  client = 1;
  sequence = s;
  reads = rs;
  writes = ws;
  tag = tag (client_signer 1) (labelled Request (written (request_fields width (bare s rs ws))));
}

abbrev pub read_at : ℕ → ℕ → List ℕ → ReadBody
read_at x i v = record { item = x; version = i; digest = digest v }

-- the first writes item 5; the second has read that, and writes item 6
abbrev pub one : RequestBody
one = request 1 (read_at 5 0 [] ∷ []) (write 5 (7 ∷ []) ∷ [])

abbrev pub two : RequestBody
two = request 2 (read_at 5 1 (7 ∷ []) ∷ read_at 6 0 [] ∷ []) (write 6 (8 ∷ 9 ∷ []) ∷ [])

abbrev pub frame_of : RequestBody → List ℕ
frame_of b = written (request_fields width b)

-- a frame of no kind
abbrev pub stray : List ℕ
stray = 9 ∷ []

abbrev pub bus : List (List ℕ)
bus = frame_of one ∷ stray ∷ frame_of two ∷ []

abbrev pub commit : ℕ → ℕ → Delivery
commit k n = record { decision = Commit k; opened = Some n }

-- what the boards that are not behind were delivered
abbrev pub deliveries : List Event
deliveries =
    delivered (frame_of one) (Ok (commit 1 5)) ∷ delivered stray (Err (fault Malformed Frame 0)) ∷ delivered (frame_of two) (Ok (commit 2 6)) ∷ []

-- a board's share of an entry
abbrev pub share_of : ℕ → EntryBody → List ℕ
share_of s e = written (share_fields width (record { signer = s; version = e.version; tag = (signed s e).tag }))

-- board 0 takes shares of boards 0, 1 and 3, and writes a proof of both commits
abbrev pub shares : List Event
shares =
    shared_in (share_of 3 first) (Ok 1) ∷ shared_in (share_of 0 first) (Ok 2) ∷ shared_in (share_of 1 second) (Ok 1) ∷ shared_in (share_of 3 second) (Ok 2) ∷ []

abbrev pub frame : List ℕ
frame = proof_bytes width proof

abbrev pub buffer : List ℕ
buffer = replicate 200 0

abbrev pub asked : Event
asked = proved 1 2 buffer (frame ++ drop (length frame) buffer) (Ok (length frame))

-- board 2 was delivered the first frame only
abbrev pub of : ℕ → List Event
of a = cond (a == 0) (deliveries ++ shares ++ asked ∷ []) (cond (a == 2) (take 1 deliveries) deliveries)

pub record AcceptedOverHistories : Type 0 where
  pub few : length faulty ≤ 1
  pub among : Boards digest tag 1 faulty bus of
  pub furthest : Furthest 1 faulty of 0
  -- the proof is what board 0 wrote; no tag in it is forged, no digests clash, it is accepted, and what was read holds
  pub earlier : List Event
  pub wrote : of 0 ≡ earlier ++ asked ∷ []
  pub left : frame ≡ take (length frame) (frame ++ drop (length frame) buffer)
  pub unforged : NoForgery digest (passes tag) faulty (commits_of of) proof.entries
  pub distinct : NoClash digest (commits_of of 0) reading
  pub accepted : CheckAnswers digest (passes tag) 1 (reading_bytes reading) frame (Ok 2)
  pub holds : Holds (commits_of of 0) reading
  -- the premises hold of another reading with another proof too; that is refused at the forged tag, and what was read did not hold
  pub unforged_too : NoForgery digest (passes tag) faulty (commits_of of) wrong_proof.entries
  pub distinct_too : NoClash digest (commits_of of 0) wrong_reading
  pub refused : CheckAnswers digest (passes tag) 1 (reading_bytes wrong_reading) (proof_bytes width wrong_proof) (Err (fault WrongTag Seal 112))
  pub wrong : Holds (commits_of of 0) wrong_reading → ⊥
