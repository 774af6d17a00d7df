-- What a proof's writer answers, from the record that it is to write.
use Rattle.std.specs.Prelude.{◌≡◌, ℕ, zero, suc, ◌+◌, ◌-◌, ◌≤◌, ◌&&◌, List, [], ◌∷◌, map, length, take, Some, None, Ok, Err, Option, Result, ◌==◌, nat_le}
use Rattle.std.specs.List.{AllByRecursion}
use Rattle.fault.specs.declared.Fault.{Fault}
use Rattle.fault.specs.declared.Layer.TheVariants.{Proof}
use Rattle.fault.specs.declared.Cause.TheVariants.{Malformed}
use Rattle.fault.specs.Codes.{fault}
use Rattle.octets.specs.Numbers.{limit}
use Rattle.record.specs.Chains.{unless, after, and_then, guards}
use Rattle.record.specs.Formats.{is, up_to, within}
use Rattle.record.specs.Writing.{room_for, filled}
use Rattle.entry.specs.Bodies.{SealedBody, sealed_body}
use Rattle.entry.specs.declared.parts.SealedEntry.{SealedEntry}
use Rattle.proof.specs.Bodies.{ProofBody, proof_bytes, range}
use Rattle.proof.specs.Rules.{numbered, item_number, pair_number, entries_at, proof_of}
use Rattle.proof.specs.Promises.{ProofKept}

-- records from a place on, of which n are due: each number is judged as its reader does; a record too many or too few is refused where it stands
abbrev pub weigh_records : {R : Type 0} → (R → ℕ) → ℕ → ℕ → Option ℕ → ℕ → Option ℕ → List R → ℕ → Result ℕ Fault
weigh_records key top size asked zero last [] at = Ok at
weigh_records key top size asked zero last (x ∷ xs) at = Err (fault Malformed Proof at)
weigh_records key top size asked (suc n) last [] at = Err (fault Malformed Proof at)
weigh_records key top size asked (suc n) last (x ∷ xs) at =
    unless (up_to top (key x)) (fault Malformed Proof at)
    (guards (numbered asked last (key x) at)
    (weigh_records key top size asked n (Some (key x)) xs (at + 1 + size)))

-- a sealed entry at a place: the version that is due, 1 to 8 writes, f + 1 pairs
abbrev pub weigh_sealed : ℕ → ℕ → ℕ → SealedBody → ℕ → Result ℕ Fault
weigh_sealed w f due s at =
    unless (is due s.entry.version) (fault Malformed Proof at)
    (unless (within 1 8 (length s.entry.items)) (fault Malformed Proof (at + w))
    (and_then (weigh_records item_number 63 32 None (length s.entry.items) None s.entry.items (at + w + 1))
    (λ e. weigh_records pair_number 255 16 (Some f) (f + 1) None s.pairs e)))

abbrev pub weigh_entries : ℕ → ℕ → ℕ → List SealedBody → ℕ → Result ℕ Fault
weigh_entries w f due [] at = Ok at
weigh_entries w f due (s ∷ ss) at = and_then (weigh_sealed w f due s at) (λ e. weigh_entries w f (due + 1) ss e)

-- low, then high, which is to fit its width, to make a range and to give the number of entries; then the entries; the answer is where the frame ends
abbrev pub weigh_proof : ℕ → ℕ → ProofBody → Result ℕ Fault
weigh_proof w f b =
    unless (within 1 (limit w) b.low) (fault Malformed Proof 1)
    (unless (nat_le b.high (limit w) && (range b.low b.high && length b.entries == b.high + 1 - b.low)) (fault Malformed Proof (1 + w))
    (weigh_entries w f b.low b.entries (entries_at w)))

-- how many bytes a proof's writer wrote, or the refusal; the room is asked last
abbrev pub write_proof : ℕ → ℕ → ProofBody → ℕ → Result ℕ Fault
write_proof w f b room = and_then (weigh_proof w f b) (λ e. room_for e room)

-- there is a frame of this shape: high fits its width, the entries are as many as low and high say, and each has f + 1 pairs
pub record Framed (w f : ℕ) (b : ProofBody) : Type 0 where
  pub high : b.high ≤ limit w
  pub count : length b.entries ≡ b.high + 1 - b.low
  pub sealed : AllByRecursion (λ s. length s.pairs ≡ f + 1) b.entries

-- a writer's answer r to the record b, with the buffer before and behind it
pub record ProofWrites (w f : ℕ) (b : ProofBody) (before behind : List ℕ) (r : Result ℕ Fault) : Type 0 where
  -- the frame is in front and the old bytes behind; a refusal changes no byte
  pub buffer : behind ≡ filled r (proof_bytes w b) before
  -- what was written is in range and keeps rules 2 and 5, and reads back as its record
  pub back : (n : ℕ) → r ≡ Ok n → ProofKept w f b × (n ≡ length (proof_bytes w b)) × (proof_of w f (take n behind) ≡ Ok b)
  -- where there is a frame for the record, it refuses what the reader refuses, at the same place, and then too short a buffer
  pub same : Framed w f b → r ≡ after (proof_of w f (proof_bytes w b)) (room_for (length (proof_bytes w b)) (length before))

-- the record that is to be written
abbrev pub drafted : ℕ → ℕ → List SealedEntry → ProofBody
drafted low high es = record { low = low; high = high; entries = map sealed_body es }
