-- What a proof frame holds, and its bytes: entries, each with the tags of f + 1 boards over it.
use Rattle.std.specs.Prelude.{◌≡◌, ℕ, ◌+◌, ◌-◌, ◌≤◌, Bool, true, ◌&&◌, ◌||◌, List, [], ◌∷◌, ◌++◌, length, ◌==◌, nat_le}
use Rattle.std.specs.List.{flat_map, AllByRecursion}
use Rattle.octets.specs.Numbers.{Bytes, limit, be}
use Rattle.record.specs.Formats.{Field, num, str}
use Rattle.entry.specs.Bodies.{ItemBody, PairBody, SealedBody, sealed_bytes}

-- a proof: the sealed entry of each version from low to high
pub record ProofBody : Type 0 where
  pub low : ℕ
  pub high : ℕ
  pub entries : List SealedBody

-- the bytes: 04, low, high and the sealed entries; w is the width of a version
abbrev pub proof_bytes : ℕ → ProofBody → List ℕ
proof_bytes w b = 4 ∷ (be w b.low ++ (be w b.high ++ flat_map (sealed_bytes w) b.entries))

-- the same, field by field
abbrev pub item_fields : ItemBody → List Field
item_fields b = num 1 b.item ∷ str b.digest ∷ []

abbrev pub pair_fields : PairBody → List Field
pair_fields b = num 1 b.signer ∷ str b.tag ∷ []

abbrev pub sealed_fields : ℕ → SealedBody → List Field
sealed_fields w s =
    num w s.entry.version ∷ num 1 (length s.entry.items)
    ∷ (flat_map item_fields s.entry.items ++ flat_map pair_fields s.pairs)

abbrev pub proof_fields : ℕ → ProofBody → List Field
proof_fields w b = num 1 4 ∷ num w b.low ∷ num w b.high ∷ flat_map (sealed_fields w) b.entries

-- 1 to 32 entries from low to high; or none, with low 1 and high 0
abbrev pub range : ℕ → ℕ → Bool
range low high = (nat_le low high && nat_le high (low + 31)) || (low == 1 && high == 0)

-- in range: an item is 0 to 63 and a digest has 32 bytes; a signer is a byte and a tag has 16
pub record ItemIn (b : ItemBody) : Type 0 where
  pub item : b.item ≤ 63
  pub digest : length b.digest ≡ 32
  pub bytes : Bytes b.digest

pub record PairIn (b : PairBody) : Type 0 where
  pub signer : b.signer ≤ limit 1
  pub tag : length b.tag ≡ 16
  pub bytes : Bytes b.tag

-- a sealed entry is of the version that is due, has 1 to 8 writes and f + 1 pairs
pub record SealedIn (f due : ℕ) (s : SealedBody) : Type 0 where
  pub dated : s.entry.version ≡ due
  pub some : 1 ≤ length s.entry.items
  pub few : length s.entry.items ≤ 8
  pub items : AllByRecursion ItemIn s.entry.items
  pub sealed : length s.pairs ≡ f + 1
  pub pairs : AllByRecursion PairIn s.pairs

-- entries of one version after the other
abbrev pub EntriesIn : ℕ → ℕ → List SealedBody → Type 0
EntriesIn f due [] = Unit {0}
EntriesIn f due (s ∷ ss) = SealedIn f due s × EntriesIn f (due + 1) ss

pub record ProofIn (w f : ℕ) (b : ProofBody) : Type 0 where
  pub low-some : 1 ≤ b.low
  pub low_fits : b.low ≤ limit w
  pub high_fits : b.high ≤ limit w
  pub ranged : range b.low b.high ≡ true
  pub count : length b.entries ≡ b.high + 1 - b.low
  pub entries : EntriesIn f b.low b.entries
