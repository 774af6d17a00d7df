-- An instance in which every premise of acceptance holds: two commits, and a faulty board whose tags stand in the accepted proof.
-- The digest is FNV-1a and the seal SipHash, where each byte of a signer's key is the signer's number.
use Rattle.std.specs.Prelude.{ℕ, cond, List, [], ◌∷◌, take, replicate, Ok, Err, ◌==◌}
use Rattle.fault.specs.declared.Cause.TheVariants.{WrongTag}
use Rattle.fault.specs.declared.Layer.TheVariants.{Seal}
use Rattle.fault.specs.Codes.{fault}
use Rattle.digest.specs.Fnv.{fnv_words}
use Rattle.digest.specs.Meaning.{written}
use Rattle.label.specs.declared.Label.TheVariants.{Entry}
use Rattle.label.specs.Labels.{labelled}
use Rattle.seal.specs.Seals.{passes}
use Rattle.seal.specs.Sip.{sip_tag}
use Rattle.entry.specs.Bodies.{EntryBody, PairBody, SealedBody, entry_bytes}
use Rattle.proof.specs.Bodies.{ProofBody, proof_bytes}
use Rattle.record.specs.Formats.{written as fieldsWritten}
use Rattle.reading.specs.Bodies.{ReadingItemBody, reading_fields}
use Rattle.request.specs.Bodies.{WriteBody}
use Rattle.history.specs.Entries.{entry_at, entry_of}
use Rattle.history.specs.Events.{width}
use Rattle.reader.specs.Checks.{CheckAnswers}
use Rattle.reader.specs.Accepted.{Commits, Holds, HonestRuns, NoClash, NoForgery}

abbrev pub digest : List ℕ → List ℕ
digest m = written (fnv_words m)

abbrev pub tag : ℕ → List ℕ → List ℕ
tag s m = sip_tag (replicate 32 s) m

-- of the boards 0 to 3, board 3 is faulty
abbrev pub faulty : List ℕ
faulty = 3 ∷ []

-- commit 1 wrote item 5, commit 2 item 6
abbrev pub write : ℕ → List ℕ → WriteBody
write x v = record { item = x; value = v }

abbrev pub commits : Commits
commits = (write 5 (7 ∷ []) ∷ []) ∷ (write 6 (8 ∷ 9 ∷ []) ∷ []) ∷ []

-- board 2 is one commit behind
abbrev pub of : ℕ → Commits
of a = cond (a == 2) (take 1 commits) commits

-- an entry with the tags of two boards
abbrev pub signed : ℕ → EntryBody → PairBody
signed s e = record { signer = s; tag = tag s (labelled Entry (entry_bytes width e)) }

abbrev pub sealed : EntryBody → PairBody → PairBody → SealedBody
sealed e a b = record { entry = e; pairs = a ∷ b ∷ [] }

-- both items as they were read, and a proof in which the faulty board signed too
abbrev pub read : ℕ → ℕ → List ℕ → ReadingItemBody
read x i v = record { item = x; version = i; value = v }

abbrev pub reading_bytes : List ReadingItemBody → List ℕ
reading_bytes ps = fieldsWritten (reading_fields width (record { items = ps }))

abbrev pub reading : List ReadingItemBody
reading = read 5 1 (7 ∷ []) ∷ read 6 2 (8 ∷ 9 ∷ []) ∷ []

abbrev pub first : EntryBody
first = entry_at digest commits 1

abbrev pub second : EntryBody
second = entry_at digest commits 2

abbrev pub proof : ProofBody
proof = record { low = 1; high = 2; entries = sealed first (signed 0 first) (signed 3 first) ∷ sealed second (signed 1 second) (signed 3 second) ∷ [] }

-- a value that item 6 never had, an entry that records it, signed by the faulty board, and a tag that is said to be board 1's
abbrev pub wrong_reading : List ReadingItemBody
wrong_reading = read 5 1 (7 ∷ []) ∷ read 6 2 (0 ∷ []) ∷ []

abbrev pub forged : EntryBody
forged = entry_of digest 2 (write 6 (0 ∷ []) ∷ [])

abbrev pub wrong_proof : ProofBody
wrong_proof = record { low = 1; high = 2; entries = sealed first (signed 0 first) (signed 3 first) ∷ sealed forged (record { signer = 1; tag = replicate 16 0 }) (signed 3 forged) ∷ [] }

pub record AcceptedAndRefused : Type 0 where
  pub runs : HonestRuns 1 faulty commits of
  pub unforged : NoForgery digest (passes tag) faulty of proof.entries
  pub distinct : NoClash digest commits reading
  -- the proof is accepted, and what was read holds
  pub accepted : CheckAnswers digest (passes tag) 1 (reading_bytes reading) (proof_bytes width proof) (Ok 2)
  pub holds : Holds commits reading
  -- the premises hold of the other proof too; it is refused at the forged tag, and the value did not hold
  pub unforged_too : NoForgery digest (passes tag) faulty of wrong_proof.entries
  pub distinct_too : NoClash digest commits wrong_reading
  pub refused : CheckAnswers digest (passes tag) 1 (reading_bytes wrong_reading) (proof_bytes width wrong_proof) (Err (fault WrongTag Seal 112))
  pub wrong : Holds commits wrong_reading → ⊥
