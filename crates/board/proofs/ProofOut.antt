-- Writing a proof from what the window holds.
use Rattle.std.proofs.Common.{◌≡◌, ℕ, ◌+◌, ◌-◌, ◌<◌, ◌≤◌, max, ltb, leb, List, map, length, take, Ok, Err, Result, sym, refl, ap, ◌∙◌, subst, arith}
use Rattle.std.specs.List.{AllByRecursion, range_with_len, flat_map}
use Rattle.std.proofs.lemmas.Bool.{cond-false, le-leb, le-ltb}
use Rattle.std.proofs.lemmas.Bool.Decides.{nat_tests}
use Rattle.fault.specs.declared.Cause.TheVariants.{NoRoom}
use Rattle.fault.specs.declared.Fault.{Fault}
use Rattle.fault.specs.declared.Layer.TheVariants.{Board, Frame}
use Rattle.fault.specs.Codes.{fault}
use Rattle.record.specs.Chains.{after, and_then, tested}
use Rattle.record.specs.Writing.{filled, room_for}
use Rattle.record.proofs.Steps.{pass}
use Rattle.entry.specs.declared.parts.SealedEntry.{SealedEntry}
use Rattle.entry.specs.Bodies.{SealedBody, sealed_body, sealed_bytes}
use Rattle.window.specs.declared.ring.Window.{Window}
use Rattle.proof.specs.Bodies.{ProofBody, proof_bytes}
use Rattle.proof.specs.Rules.{proof_of}
use Rattle.proof.specs.Writing.{ProofWrites, drafted, weigh_proof, write_proof}
use Rattle.proof.proofs.Weighing.{Solid, proof-end}
use Rattle.proof.proofs.Writes.{solid}
use Rattle.history.specs.Entries.{versions}
use Rattle.board.specs.Proofs.{framed_now, proof_in, proof_now, range_now, sealed_in, sealed_row}

-- a range that was let through
abbrev pub Ranged : ℕ → ℕ → ℕ → Type 0
Ranged count low high = (low ≤ high) × (high ≤ count) × (1 ≤ high → count < max 1 low + 32)

pub ranged : (count low high : ℕ) (u : Unit {0}) → range_now count low high ≡ Ok u → Ranged count low high
ranged count low high u is = (grind (arith, nat_tests), grind (arith, nat_tests), λ some. grind (arith, nat_tests))

-- a frame for which there is room
room_kept : (f room : ℕ) (b : ProofBody) → AllByRecursion Solid b.entries → length (proof_bytes 2 b) ≤ room → write_proof 2 f b room ≡ framed_now f b room
room_kept f room b whole space = go (weigh_proof 2 f b) refl ∙ sym (cond-false (ltb room (length (proof_bytes 2 b))) (Err (fault NoRoom Board 0)) (after (weigh_proof 2 f b) (Ok (length (proof_bytes 2 b)))) (le-ltb room (length (proof_bytes 2 b)) space))
  where
    go : (r : Result ℕ Fault) → weigh_proof 2 f b ≡ r → and_then (weigh_proof 2 f b) (λ e. room_for e room) ≡ after (weigh_proof 2 f b) (Ok (length (proof_bytes 2 b)))
    go (Ok e) q =
        let long : e ≡ length (proof_bytes 2 b) = (proof-end 1 f b e whole q).1 in
        ap (λ x. and_then x (λ j. room_for j room)) q
        ∙ ap (λ j. room_for j room) long
        ∙ pass (leb (length (proof_bytes 2 b)) room) (fault NoRoom Frame 0) (Ok (length (proof_bytes 2 b))) (le-leb (length (proof_bytes 2 b)) room space)
        ∙ sym (ap (λ x. after x (Ok (length (proof_bytes 2 b)))) q)
    go (Err d) q = ap (λ x. and_then x (λ j. room_for j room)) q ∙ sym (ap (λ x. after x (Ok (length (proof_bytes 2 b)))) q)

-- what is drafted is the proof that the window holds
module _ (w : Window) (low high first n : ℕ) (es part : List SealedEntry) (f g : ℕ)
    (lowest : first ≡ max 1 low) (many : n ≡ high + 1 - first) (all : map sealed_body (take n es) ≡ map (sealed_in w) (range_with_len first n))
    (front : part ≡ take n es) (among : g ≡ f) where
  drafted-is : drafted first high part ≡ proof_in w low high
  drafted-is =
      let size : n ≡ high + 1 - max 1 low = many ∙ ap (λ k. high + 1 - k) lowest in
      let entries : map sealed_body part ≡ map (sealed_in w) (versions (max 1 low) high) =
      ap (map sealed_body) front ∙ all ∙ (λ t. map (sealed_in w) (range_with_len (lowest t) (size t))) in
      λ t. record { low = lowest t; high = high; entries = entries t }

  pub drafted_size : (size : ℕ) → size ≡ 5 + length (flat_map (sealed_bytes 2) (map (sealed_in w) (range_with_len first n))) → size ≡ length (proof_bytes 2 (proof_in w low high))
  drafted_size size is =
      let five : 5 + length (flat_map (sealed_bytes 2) (map sealed_body part)) ≡ length (proof_bytes 2 (drafted first high part)) = omega arith in
      is ∙ ap (λ (xs : List SealedBody). 5 + length (flat_map (sealed_bytes 2) xs)) (sym all ∙ ap (map sealed_body) (sym front)) ∙ five
      ∙ ap (λ (b : ProofBody). length (proof_bytes 2 b)) drafted-is

  pub framed-written : (size : ℕ) (old : List ℕ) (r : Result ℕ Fault)
      → size ≡ 5 + length (flat_map (sealed_bytes 2) (map (sealed_in w) (range_with_len first n))) → size ≤ length old
      → r ≡ write_proof 2 g (drafted first high part) (length old) → r ≡ framed_now f (proof_in w low high) (length old)
  framed-written size old r long space is =
      let b = proof_in w low high in
      let whole : AllByRecursion Solid b.entries = subst (λ (x : ProofBody). AllByRecursion Solid x.entries) drafted-is (solid part) in
      let fits : length (proof_bytes 2 b) ≤ length old = omega (arith, drafted_size size long, space) in
      is ∙ (λ t. write_proof 2 (among t) (drafted-is t) (length old)) ∙ room_kept f (length old) b whole fits

  pub proof-bytes : (old new : List ℕ) (r : Result ℕ Fault) → ProofWrites 2 g (drafted first high part) old new r → new ≡ filled r (proof_bytes 2 (proof_in w low high)) old
  proof-bytes old new r put = put.buffer ∙ ap (λ (b : ProofBody). filled r (proof_bytes 2 b) old) drafted-is

  pub proof-back : (old new : List ℕ) (r : Result ℕ Fault) → ProofWrites 2 g (drafted first high part) old new r → (n : ℕ) → r ≡ Ok n → proof_of 2 f (take n new) ≡ Ok (proof_in w low high)
  proof-back old new r put m done = ap (λ k. proof_of 2 k (take m new)) (sym among) ∙ (put.back m done).2 ∙ ap Ok drafted-is

-- behind the checks the frame decides
pub proof-framed : (w : Window) (f count low high first n room : ℕ) (u v : Unit {0}) (r : Result ℕ Fault) → first ≡ max 1 low → n ≡ high + 1 - first
    → Ok u ≡ range_now count low high → Ok v ≡ tested (map (sealed_row w f) (range_with_len first n)) → r ≡ framed_now f (proof_in w low high) room
    → r ≡ proof_now w f count low high room
proof-framed w f count low high first n room u v r lowest many kept sealed is =
    let rows : tested (map (sealed_row w f) (versions (max 1 low) high)) ≡ Ok v =
    (λ t. tested (map (sealed_row w f) (range_with_len (sym lowest t) (sym (many ∙ ap (λ k. high + 1 - k) lowest) t)))) ∙ sym sealed in
    is
    ∙ sym (ap (λ x. after x (after (tested (map (sealed_row w f) (versions (max 1 low) high))) (framed_now f (proof_in w low high) room))) (sym kept)
    ∙ ap (λ x. after x (framed_now f (proof_in w low high) room)) rows)
