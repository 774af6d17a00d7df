-- How long a request's frame is, and the part of it that its tag covers.
use Rattle.std.specs.Prelude.{◌≡◌, ℕ, ◌+◌, ◌*◌, ◌≤◌, List, ◌∷◌, ◌++◌, length, Ok}
use Rattle.std.specs.List.{flat_map, AllByRecursion}
use Rattle.record.specs.Formats.{Field, num, written}
use Rattle.request.specs.Bodies.{RequestBody, read_fields, write_fields, write_request}

-- the length of a request of r reads and s writes of v bytes each
abbrev pub size_of : ℕ → ℕ → ℕ → ℕ → ℕ
size_of w r s v = (w + 4) + r * (w + 33) + s * (v + 2) + 16

-- a request's length where its values are of one length, and the most that it can be
pub record RequestSize (w : ℕ) (b : RequestBody) (n : ℕ) : Type 0 where
  pub alike : (v : ℕ) → AllByRecursion (λ x. length x.value ≡ v) b.writes → n ≡ size_of w (length b.reads) (length b.writes) v
  pub most : n ≤ size_of w 16 8 32

-- some request of r reads and s writes of v bytes each is written, and fills n bytes
abbrev pub Occurs : ℕ → ℕ → ℕ → ℕ → Type 0
Occurs r s v n = (b : RequestBody) × (length b.reads ≡ r) × (length b.writes ≡ s) × AllByRecursion (λ x. length x.value ≡ v) b.writes × (write_request 2 b n ≡ Ok n)

-- one read and one write of one byte: 60 bytes; the largest request: 854
abbrev pub KnownSizes : Type 0
KnownSizes = (size_of 2 1 1 1 ≡ 60) × (size_of 2 16 8 32 ≡ 854)

-- both occur
abbrev pub SizesOccur : Type 0
SizesOccur = Occurs 1 1 1 60 × Occurs 16 8 32 854

-- the frame before its tag, which the tag covers
abbrev pub covered_fields : ℕ → RequestBody → List Field
covered_fields w b =
    num 1 1 ∷ num 1 b.client ∷ num w b.sequence ∷ num 1 (length b.reads) ∷ num 1 (length b.writes)
    ∷ (flat_map (read_fields w) b.reads ++ flat_map write_fields b.writes)

abbrev pub covered_part : ℕ → RequestBody → List ℕ
covered_part w b = written (covered_fields w b)
