-- A proof that the frame's writer accepts.
use Rattle.std.proofs.Common.{◌≡◌, ℕ, zero, suc, ◌+◌, ◌-◌, ◌<◌, ◌≤◌, max, true, ◌&&◌, eqb, ltb, leb, List, [], ◌∷◌, map, length, Some, None, Ok, Option, Result, sym, refl, ap, ◌∙◌, arith}
use Rattle.std.specs.List.{range_with_len, AllByRecursion as All}
use Rattle.std.proofs.lemmas.List.FromFn.{length-map-range_with_len}
use Rattle.std.proofs.ByRecursion.{All-weaker}
use Rattle.std.proofs.lemmas.Bool.{and_from, eq-eqb, le-leb, lt-ltb}
use Rattle.std.proofs.lemmas.Bool.Decides.{nat_tests}
use Rattle.fault.specs.declared.Cause.TheVariants.{Malformed}
use Rattle.fault.specs.declared.Fault.{Fault}
use Rattle.fault.specs.declared.Layer.TheVariants.{Proof}
use Rattle.fault.specs.Codes.{fault}
use Rattle.octets.specs.Numbers.{limit}
use Rattle.record.specs.Chains.{and_then, guards, unless}
use Rattle.record.specs.Formats.{is, up_to, within}
use Rattle.record.specs.Rules.{above, boards}
use Rattle.record.proofs.Steps.{pass, then_ok}
use Rattle.entry.specs.Bodies.{ItemBody, PairBody, SealedBody}
use Rattle.proof.specs.Bodies.{range}
use Rattle.proof.specs.Rules.{entries_at, item_number, numbered, pair_number}
use Rattle.proof.specs.Writing.{weigh_entries, weigh_proof, weigh_records, weigh_sealed}
use Rattle.board.specs.WriteSets.{Rises}

-- it is accepted
abbrev Taken : Result ℕ Fault → Type 0
Taken r = (e : ℕ) × (r ≡ Ok e)

-- a number is one of the boards', where boards are asked for
abbrev Asked : Option ℕ → ℕ → Type 0
Asked None n = Unit {0}
Asked (Some f) n = n < boards f

rows_pass : (asked last : Option ℕ) (n at : ℕ) (r : Result ℕ Fault) → above last n ≡ true → Asked asked n → guards (numbered asked last n at) r ≡ r
rows_pass None last n at r up in' = pass _ _ r up
rows_pass (Some f) last n at r up in' = pass _ _ (unless (ltb n (boards f)) _ r) up ∙ pass (ltb n (boards f)) _ r (lt-ltb n (boards f) in')

-- records in range that rise
module _ {R : Type 0} (key : R → ℕ) (top size : ℕ) (asked : Option ℕ) where
  weighs_records : (last : Option ℕ) (xs : List R) (at : ℕ) → All (λ x. (key x ≤ top) × Asked asked (key x)) xs → Rises last (map key xs)
      → Taken (weigh_records key top size asked (length xs) last xs at)
  weighs_records last [] at all up = (at, refl)
  weighs_records last (x ∷ xs) at all up =
      let rest = weigh_records key top size asked (length xs) (Some (key x)) xs (at + 1 + size) in
      let more = weighs_records (Some (key x)) xs (at + 1 + size) all.1 up.1 in (
        more.0,
        pass (up_to top (key x)) (fault Malformed Proof at) (guards (numbered asked last (key x) at) rest) (le-leb (key x) top all.0.0)
            ∙ rows_pass asked last (key x) at rest up.0 all.0.1 ∙ more.1,
      )

-- a sealed entry of the version that is due: 1 to 8 writes, and the shares of f + 1 boards
pub record Sealed (f due : ℕ) (s : SealedBody) : Type 0 where
  pub dated : s.entry.version ≡ due
  pub some : 1 ≤ length s.entry.items
  pub few : length s.entry.items ≤ 8
  pub items : All (λ i. i.item ≤ 63) s.entry.items
  pub rise : Rises None (map item_number s.entry.items)
  pub quorum : length s.pairs ≡ f + 1
  pub members : All (λ p. p.signer < boards f) s.pairs
  pub signers : Rises None (map pair_number s.pairs)

module _ (f : ℕ) (few-boards : f ≤ 5) where
  weighs_sealed : (due : ℕ) (s : SealedBody) (at : ℕ) → Sealed f due s → Taken (weigh_sealed 2 f due s at)
  weighs_sealed due s at ok =
      let is' = s.entry.items in
      let one = weighs_records item_number 63 32 None None is' (at + 2 + 1) (All-weaker (λ (i : ItemBody). i.item ≤ 63) (λ (i : ItemBody). (item_number i ≤ 63) × Unit {0}) (λ i le. (le, tt)) is' ok.items) ok.rise in
      let two = weighs_records pair_number 255 16 (Some f) None s.pairs one.0 (All-weaker (λ (p : PairBody). p.signer < boards f) (λ (p : PairBody). (pair_number p ≤ 255) × (pair_number p < boards f)) (λ p lt. (omega arith, lt)) s.pairs ok.members) ok.signers in
      let pairs : weigh_records pair_number 255 16 (Some f) (f + 1) None s.pairs one.0 ≡ Ok two.0 =
      ap (λ n. weigh_records pair_number 255 16 (Some f) n None s.pairs one.0) (sym ok.quorum) ∙ two.1 in
      let whole = and_then (weigh_records item_number 63 32 None (length is') None is' (at + 2 + 1)) (λ e. weigh_records pair_number 255 16 (Some f) (f + 1) None s.pairs e) in (
        two.0,
        pass (is due s.entry.version) (fault Malformed Proof at) (unless (within 1 8 (length is')) (fault Malformed Proof (at + 2)) whole) (eq-eqb s.entry.version due ok.dated)
            ∙ pass (within 1 8 (length is')) (fault Malformed Proof (at + 2)) whole (and_from (leb 1 (length is')) (leb (length is') 8) (le-leb 1 (length is') ok.some) (le-leb (length is') 8 ok.few))
            ∙ then_ok (weigh_records item_number 63 32 None (length is') None is' (at + 2 + 1)) (λ e. weigh_records pair_number 255 16 (Some f) (f + 1) None s.pairs e) one.0 one.1
            ∙ pairs,
      )

  -- entries of one version after the other
  weighs_entries : (g : ℕ → SealedBody) (n due at : ℕ) → ((v : ℕ) → due ≤ v → v < due + n → Sealed f v (g v)) → Taken (weigh_entries 2 f due (map g (range_with_len due n)) at)
  weighs_entries g zero due at each = (at, refl)
  weighs_entries g (suc n) due at each =
      let one = weighs_sealed due (g due) at (each due (omega arith) (omega arith)) in
      let more = weighs_entries g n (due + 1) one.0 (λ v low high. each v (omega arith) (omega arith)) in
      (more.0, then_ok (weigh_sealed 2 f due (g due) at) (λ e. weigh_entries 2 f (due + 1) (map g (range_with_len (due + 1) n)) e) one.0 one.1 ∙ more.1)

  -- a proof of versions from low to high
  pub weighs_proof : (g : ℕ → SealedBody) (low high : ℕ) → low ≤ high → high ≤ limit 2 → high + 1 - max 1 low ≤ 32
      → ((v : ℕ) → max 1 low ≤ v → v ≤ high → Sealed f v (g v))
      → Taken (weigh_proof 2 f (record { low = max 1 low; high = high; entries = map g (range_with_len (max 1 low) (high + 1 - max 1 low)) }))
  weighs_proof g low high rises fits few each =
      let n = high + 1 - max 1 low in
      let es = map g (range_with_len (max 1 low) n) in
      let all = weighs_entries g n (max 1 low) (entries_at 2) (λ v from to. each v from (omega arith)) in
      let count : length es ≡ n = length-map-range_with_len g (max 1 low) n in
      let ranged : range (max 1 low) high ≡ true = in_range low high rises few in
      let whole = weigh_entries 2 f (max 1 low) es (entries_at 2) in
      let second = leb high (limit 2) && (range (max 1 low) high && eqb (length es) n) in (
        all.0,
        pass (within 1 (limit 2) (max 1 low)) (fault Malformed Proof 1) (unless second (fault Malformed Proof (1 + 2)) whole) (and_from (leb 1 (max 1 low)) (leb (max 1 low) (limit 2)) (le-leb 1 (max 1 low) (omega arith)) (le-leb (max 1 low) (limit 2) (omega arith)))
            ∙ pass second (fault Malformed Proof (1 + 2)) whole (and_from (leb high (limit 2)) (range (max 1 low) high && eqb (length es) n) (le-leb high (limit 2) fits) (and_from (range (max 1 low) high) (eqb (length es) n) ranged (eq-eqb (length es) n count)))
            ∙ all.1,
      )
    where
      in_range : (low high : ℕ) → low ≤ high → high + 1 - max 1 low ≤ 32 → range (max 1 low) high ≡ true
      in_range low high rises few = grind (arith, nat_tests)
