-- SHA-256 (FIPS 180-4) as a digest of four words.
use Rattle.std.specs.Prelude.{ℕ, ◌+◌, ◌*◌, List, [], ◌∷◌, slice_index}
use Rattle.sha256.specs.Hash.{SHA256}

-- eight words of 32 bits as four of 64, the first of each pair high
abbrev pub wide : List ℕ → List ℕ
wide h =
    (slice_index h 0 * 4294967296 + slice_index h 1) ∷ (slice_index h 2 * 4294967296 + slice_index h 3) ∷ (slice_index h 4 * 4294967296 + slice_index h 5)
    ∷ (slice_index h 6 * 4294967296 + slice_index h 7) ∷ []

unfoldable pub sha_words : List ℕ → List ℕ
sha_words m = wide (SHA256 m)
