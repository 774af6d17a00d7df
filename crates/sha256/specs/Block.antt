-- FIPS 180-4, sections 5.2.1 and 6.2.2: one block of sixty-four bytes, its message schedule and the hash value after it.
use Rattle.std.specs.Prelude.{ℕ, zero, suc, ◌+◌, ◌-◌, ◌*◌, ◌^◌, List, [], ◌∷◌, ◌++◌, map, slice_index, slice_index_or}
use Rattle.std.specs.List.{range_with_len}
use Rattle.sha256.specs.Functions.{◌⊞◌, Ch, Maj, Σ0, Σ1, σ0, σ1}
use Rattle.sha256.specs.Constants.{K}

-- 5.2.1: the block's word t, its high byte first
abbrev pub M : List ℕ → ℕ → ℕ
M b t = slice_index b (4 * t) * 2 ^ 24 + slice_index b (4 * t + 1) * 2 ^ 16 + slice_index b (4 * t + 2) * 2 ^ 8 + slice_index b (4 * t + 3)

-- 6.2.2, step 1, for t from 16: the word that follows from four earlier ones
abbrev pub next : List ℕ → ℕ → ℕ
next ws t = σ1 (slice_index ws (t - 2)) ⊞ slice_index_or ws (t - 7) 0 ⊞ σ0 (slice_index ws (t - 15)) ⊞ slice_index_or ws (t - 16) 0

-- step 1: the block's sixteen words, and n words after them
unfoldable pub words : List ℕ → ℕ → List ℕ
words b zero = map (M b) (range_with_len 0 16)
words b (suc n) = words b n ++ next (words b n) (16 + n) ∷ []

-- step 1: the message schedule, the words 0 to 63
unfoldable pub W : List ℕ → List ℕ
W b = words b 48

-- step 3
abbrev pub T1 : ℕ → ℕ → ℕ → ℕ → ℕ → ℕ → ℕ
T1 e f g h k w = h ⊞ Σ1 e ⊞ Ch e f g ⊞ k ⊞ w

abbrev pub T2 : ℕ → ℕ → ℕ → ℕ
T2 a b c = Σ0 a ⊞ Maj a b c

-- step 3: the working variables after one round, in the order a to h
abbrev pub turned : ℕ → ℕ → ℕ → ℕ → ℕ → ℕ → ℕ → ℕ → ℕ → ℕ → List ℕ
turned k w a b c d e f g h =
    (T1 e f g h k w ⊞ T2 a b c) ∷ a ∷ b ∷ c ∷ (d ⊞ T1 e f g h k w) ∷ e ∷ f ∷ g ∷ []

abbrev pub round : ℕ → ℕ → List ℕ → List ℕ
round k w s =
    turned k w (slice_index s 0) (slice_index s 1) (slice_index s 2) (slice_index s 3) (slice_index s 4) (slice_index s 5) (slice_index s 6) (slice_index s 7)

-- steps 2 and 3: the working variables after t rounds over the words ws, begun from the hash value h
unfoldable pub rounds : List ℕ → List ℕ → ℕ → List ℕ
rounds ws h zero = h
rounds ws h (suc t) = round (K t) (slice_index ws t) (rounds ws h t)

-- step 4: each word of the hash value is added to its working variable
abbrev pub added : List ℕ → List ℕ → List ℕ
added s h =
    (slice_index_or s 0 0 ⊞ slice_index_or h 0 0) ∷ (slice_index_or s 1 0 ⊞ slice_index_or h 1 0) ∷ (slice_index_or s 2 0 ⊞ slice_index_or h 2 0) ∷ (slice_index_or s 3 0 ⊞ slice_index_or h 3 0)
    ∷ (slice_index_or s 4 0 ⊞ slice_index_or h 4 0) ∷ (slice_index_or s 5 0 ⊞ slice_index_or h 5 0) ∷ (slice_index_or s 6 0 ⊞ slice_index_or h 6 0) ∷ (slice_index_or s 7 0 ⊞ slice_index_or h 7 0) ∷ []

-- 6.2.2: the hash value after the block b, where it was h before
unfoldable pub compressed : List ℕ → List ℕ → List ℕ
compressed h b = added (rounds (W b) h 64) h
