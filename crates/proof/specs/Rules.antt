-- What a proof's reader checks: rules 1, 2 and 5, from the front.
use Rattle.std.specs.Prelude.{ℕ, zero, suc, ◌+◌, ◌-◌, Bool, List, [], ◌∷◌, ◌++◌, map, length, Some, None, Option, Result}
use Rattle.fault.specs.declared.Fault.{Fault}
use Rattle.fault.specs.declared.Layer.TheVariants.{Proof}
use Rattle.fault.specs.declared.Cause.TheVariants.{NotRising}
use Rattle.fault.specs.Codes.{fault}
use Rattle.octets.specs.Numbers.{limit}
use Rattle.record.specs.Formats.{Format, is, up_to, within}
use Rattle.record.specs.Rules.{Spot, spots, above, rising, member}
use Rattle.entry.specs.Bodies.{ItemBody, PairBody, SealedBody, entry_bytes, sealed_bytes}
use Rattle.ruled.specs.Ruled.{Ruled, numeral, text, end, free, follow, plain, scan_by}
use Rattle.proof.specs.Bodies.{ProofBody, range, item_fields, pair_fields}

-- the rules on the number of a record: it is above the last one; where boards are asked for, it is one of them
abbrev pub numbered : Option ℕ → Option ℕ → ℕ → ℕ → List (Bool × Fault)
numbered None last n at = (above last n, fault NotRising Proof at) ∷ []
numbered (Some f) last n at = (above last n, fault NotRising Proof at) ∷ member Proof f n at ∷ []

-- n records of a number, up to a top, and a string
abbrev pub records_from : {R : Type 0} → (ℕ → List ℕ → R) → ℕ → ℕ → Option ℕ → ℕ → Option ℕ → Ruled (List R)
records_from make top size asked zero last = end []
records_from make top size asked (suc n) last =
    numeral 1 (up_to top) (numbered asked last) (λ k.
    text size (λ s.
    follow (records_from make top size asked n (Some k)) (λ rest.
    end (make k s ∷ rest))))

-- items (0 to 63) with their digests; pairs of signer (any byte) and tag
abbrev pub items_from : ℕ → Ruled (List ItemBody)
items_from n = records_from (λ k s. record { item = k; digest = s }) 63 32 None n None

abbrev pub pairs_from : ℕ → ℕ → Ruled (List PairBody)
pairs_from f n = records_from (λ k s. record { signer = k; tag = s }) 255 16 (Some f) n None

-- the entry of the version that is due: version, count of writes (1 to 8), items, then f + 1 pairs
abbrev pub sealed_from : ℕ → ℕ → ℕ → Ruled SealedBody
sealed_from w f due =
    numeral w (is due) free (λ version.
    numeral 1 (within 1 8) free (λ count.
    follow (items_from count) (λ items.
    follow (pairs_from f (f + 1)) (λ pairs.
    end (record { entry = record { version = version; items = items }; pairs = pairs })))))

-- n entries from the version that is due on
abbrev pub entries_from : ℕ → ℕ → ℕ → ℕ → Ruled (List SealedBody)
entries_from w f due zero = end []
entries_from w f due (suc n) =
    follow (sealed_from w f due) (λ one.
    follow (entries_from w f (due + 1) n) (λ rest.
    end (one ∷ rest)))

-- 04, low (at least 1), high, then the sealed entry of each version from low to high
abbrev pub proof_ruled : ℕ → ℕ → Ruled ProofBody
proof_ruled w f =
    numeral 1 (is 4) free (λ kind.
    numeral w (within 1 (limit w)) free (λ low.
    numeral w (range low) free (λ high.
    follow (entries_from w f low (high + 1 - low)) (λ entries.
    end (record { low = low; high = high; entries = entries })))))

-- rule 1 alone
abbrev pub proof_format : ℕ → ℕ → Format ProofBody
proof_format w f = plain (proof_ruled w f)

-- the proof that a frame holds, among 3 f + 1 boards, or the refusal
abbrev pub proof_of : ℕ → ℕ → List ℕ → Result ProofBody Fault
proof_of w f bs = scan_by Proof (proof_ruled w f) bs

-- rule 2 over a proof: the items of each entry rise, and so do its pairs by signer; `at` is where the first entry begins
abbrev pub item_number : ItemBody → ℕ
item_number i = i.item

abbrev pub pair_number : PairBody → ℕ
pair_number p = p.signer

abbrev pub item_spots : ℕ → ℕ → SealedBody → List Spot
item_spots w at s = spots item_number item_fields (at + w + 1) s.entry.items

abbrev pub pair_spots : ℕ → ℕ → SealedBody → List Spot
pair_spots w at s = spots pair_number pair_fields (at + length (entry_bytes w s.entry)) s.pairs

abbrev pub rising_rows : ℕ → ℕ → List SealedBody → List (Bool × Fault)
rising_rows w at [] = []
rising_rows w at (s ∷ ss) =
    rising Proof None (item_spots w at s) ++ (rising Proof None (pair_spots w at s) ++ rising_rows w (at + length (sealed_bytes w s)) ss)

-- rule 5 over a proof: each signer is one of the boards
abbrev pub member_row : ℕ → Spot → Bool × Fault
member_row f s = member Proof f s.number s.place

abbrev pub member_rows : ℕ → ℕ → ℕ → List SealedBody → List (Bool × Fault)
member_rows w f at [] = []
member_rows w f at (s ∷ ss) = map (member_row f) (pair_spots w at s) ++ member_rows w f (at + length (sealed_bytes w s)) ss

-- where the first entry begins
abbrev pub entries_at : ℕ → ℕ
entries_at w = 1 + w + w
