-- Lengths of proofs, and a proof of the largest size.
use Rattle.std.proofs.Common.{◌≡◌, ℕ, zero, suc, ◌+◌, ◌*◌, ◌<◌, ◌≤◌, List, [], ◌∷◌, ◌++◌, map, length, get_or, replicate, None, refl, ap, ◌∙◌, subst, arith, lit≤}
use Rattle.std.specs.List.{flat_map, AllByRecursion}
use Rattle.std.proofs.lemmas.Nat.{mul-le}
use Rattle.std.proofs.lemmas.List.{length-append, take_all}
use Rattle.octets.specs.Numbers.{be}
use Rattle.octets.proofs.NumberLaws.{length-be}
use Rattle.entry.specs.Bodies.{ItemBody, PairBody, SealedBody, sealed_bytes}
use Rattle.ruled.specs.Standing.{Passes}
use Rattle.ruled.proofs.Tables.{every_append}
use Rattle.record.specs.Rules.{rising}
use Rattle.fault.specs.declared.Layer.TheVariants.{Proof}
use Rattle.proof.specs.Bodies.{ProofBody, ProofIn, ItemIn, PairIn, SealedIn, EntriesIn, proof_bytes}
use Rattle.proof.specs.Rules.{rising_rows, member_rows, member_row, item_spots, pair_spots, entries_at}
use Rattle.proof.specs.Promises.{ProofKept}
use Rattle.proof.specs.Sizes.{sealed_size, sealed_sizes, ProofSize, KnownSizes}
use Rattle.proof.proofs.Laid.{sealed_size_lem, entries_bound, few-entries}

entries_size : (w f due : ℕ) (ss : List SealedBody) → EntriesIn f due ss → length (flat_map (sealed_bytes w) ss) ≡ sealed_sizes w ss
entries_size w f due [] h = refl
entries_size w f due (s ∷ ss) h =
    length-append (sealed_bytes w s) (flat_map (sealed_bytes w) ss)
    ∙ omega (arith, sealed_size_lem w f due s h.0, h.0.sealed, entries_size w f (due + 1) ss h.1)

head_size : (w : ℕ) (b : ProofBody) → length (proof_bytes w b) ≡ 1 + w + w + length (flat_map (sealed_bytes w) b.entries)
head_size w b =
    let tail = flat_map (sealed_bytes w) b.entries in
    omega (arith, length-append (be w b.low) (be w b.high ++ tail), length-append (be w b.high) tail, length-be w b.low, length-be w b.high)

pub sized : (w f : ℕ) (b : ProofBody) → ProofIn w f b → ProofSize w f b (length (proof_bytes w b))
sized w f b h =
    let ss = b.entries in
    let n = length ss in
    record {
      whole = head_size w b ∙ ap (λ k. 1 + w + w + k) (entries_size w f b.low ss h.entries);
      most = λ few.
          let all = ap (λ l. length (flat_map (sealed_bytes w) l)) (take_all n ss (omega arith)) in
          let full = mul-le (w + 265 + 17 * (f + 1)) n (sealed_size w 8 6) 32 (omega arith) (omega (arith, h.count, few-entries b.low b.high h.ranged)) in
          omega (arith, head_size w b, all, entries_bound w f b.low ss n h.entries, full);
    }

-- a full entry: 8 writes and 6 pairs, of zeros
zeros : (n i : ℕ) → get_or (replicate n 0) i 0 < 256
zeros zero i = lit≤ tt
zeros (suc n) zero = lit≤ tt
zeros (suc n) (suc i) = zeros n i

abbrev full_item : ℕ → ItemBody
full_item k = record { item = k; digest = replicate 32 0 }

abbrev full_pair : ℕ → PairBody
full_pair k = record { signer = k; tag = replicate 16 0 }

abbrev full_sealed : ℕ → SealedBody
full_sealed v =
    record {
      entry = record { version = v; items = map full_item (0 ∷ 1 ∷ 2 ∷ 3 ∷ 4 ∷ 5 ∷ 6 ∷ 7 ∷ []) };
      pairs = map full_pair (0 ∷ 1 ∷ 2 ∷ 3 ∷ 4 ∷ 5 ∷ []);
    }

item_in : (k : ℕ) → k ≤ 63 → ItemIn (full_item k)
item_in k h = record { item = h; digest = refl; bytes = zeros 32 }

pair_in : (k : ℕ) → k ≤ 255 → PairIn (full_pair k)
pair_in k h = record { signer = h; tag = refl; bytes = zeros 16 }

full_in : (v : ℕ) → SealedIn 5 v (full_sealed v)
full_in v =
    record {
      dated = refl;
      some = lit≤ tt;
      few = lit≤ tt;
      items = (item_in 0 (lit≤ tt), (item_in 1 (lit≤ tt), (item_in 2 (lit≤ tt), (item_in 3 (lit≤ tt), (item_in 4 (lit≤ tt), (item_in 5 (lit≤ tt), (item_in 6 (lit≤ tt), (item_in 7 (lit≤ tt), tt))))))));
      sealed = refl;
      pairs = (pair_in 0 (lit≤ tt), (pair_in 1 (lit≤ tt), (pair_in 2 (lit≤ tt), (pair_in 3 (lit≤ tt), (pair_in 4 (lit≤ tt), (pair_in 5 (lit≤ tt), tt))))));
    }

abbrev full_entries : ℕ → ℕ → List SealedBody
full_entries zero v = []
full_entries (suc n) v = full_sealed v ∷ full_entries n (v + 1)

entries_in : (n v : ℕ) → EntriesIn 5 v (full_entries n v)
entries_in zero v = tt
entries_in (suc n) v = (full_in v, entries_in n (v + 1))

rises : (n v at : ℕ) → AllByRecursion Passes (rising_rows 2 at (full_entries n v))
rises zero v at = tt
rises (suc n) v at =
    let s = full_sealed v in
    let rest = rising_rows 2 (at + length (sealed_bytes 2 s)) (full_entries n (v + 1)) in
    every_append Passes (rising Proof None (item_spots 2 at s)) (rising Proof None (pair_spots 2 at s) ++ rest) (refl, (refl, (refl, (refl, (refl, (refl, (refl, (refl, tt))))))))
    (every_append Passes (rising Proof None (pair_spots 2 at s)) rest (refl, (refl, (refl, (refl, (refl, (refl, tt)))))) (rises n (v + 1) (at + length (sealed_bytes 2 s))))

members : (n v at : ℕ) → AllByRecursion Passes (member_rows 2 5 at (full_entries n v))
members zero v at = tt
members (suc n) v at =
    let s = full_sealed v in
    every_append Passes (map (member_row 5) (pair_spots 2 at s)) (member_rows 2 5 (at + length (sealed_bytes 2 s)) (full_entries n (v + 1))) (refl, (refl, (refl, (refl, (refl, (refl, tt))))))
    (members n (v + 1) (at + length (sealed_bytes 2 s)))

abbrev full_proof : ProofBody
full_proof = record { low = 1; high = 32; entries = full_entries 32 1 }

full_kept : ProofKept 2 5 full_proof
full_kept =
    record {
      in_range = record { low-some = lit≤ tt; low_fits = lit≤ tt; high_fits = lit≤ tt; ranged = refl; count = refl; entries = entries_in 32 1 };
      rises = rises 32 1 (entries_at 2);
      members = members 32 1 (entries_at 2);
    }

pub known_sizes : KnownSizes
known_sizes =
    record {
      one = λ b s h e two.
          let q : EntriesIn 1 b.low (s ∷ []) = subst (EntriesIn 1 b.low) e h.entries in
          (sized 2 1 b h).whole ∙ ap (λ l. 5 + sealed_sizes 2 l) e ∙ omega (arith, two, q.0.sealed);
      most = λ f b few h. (sized 2 f b h).most few;
      reached = (full_proof, (full_kept, (sized 2 5 full_proof full_kept.in_range).whole));
    }
