-- The hash value over the blocks of a string that is cut between two blocks.
use Rattle.std.proofs.Common.{◌≡◌, ℕ, zero, suc, ◌+◌, ◌*◌, ◌/◌, ◌<◌, ◌≤◌, List, ◌++◌, length, take, drop, sym, refl, ap, ◌∙◌, add-zero, add-suc, arith, length-append}
use Rattle.std.proofs.lemmas.List.{drop-append-le, take-append-le, drop-drop, length-drop, take_at, drop_at}
use Rattle.sha256.specs.Block.{compressed}
use Rattle.sha256.specs.Hash.{block, after, after_all}

after_split : (h p : List ℕ) (i j : ℕ) → after h p (i + j) ≡ after (after h p i) (drop (64 * i) p) j
unfolding after
after_split h p i zero = ap (after h p) (add-zero i)
after_split h p i (suc j) =
    let e : 64 * (i + j) ≡ 64 * i + 64 * j = omega arith in
    let d = drop-drop (64 * j) (64 * i) p in
    let r = after_split h p i j in
    ap (after h p) (add-suc i j) ∙ cc

block_front : (m t : List ℕ) (i : ℕ) → 64 * i + 64 ≤ length m → block (m ++ t) i ≡ block m i
block_front m t i l =
    let a : 64 * i ≤ length m = omega arith in
    let b : 64 ≤ length (drop (64 * i) m) = omega (arith, length-drop (64 * i) m) in
    rw (drop-append-le, take-append-le)

-- what stands behind the blocks that are read does not matter
pub after_front : (h m t : List ℕ) (i : ℕ) → 64 * i ≤ length m → after h (m ++ t) i ≡ after h m i
unfolding after
after_front h m t zero l = refl
after_front h m t (suc i) l =
    let f = block_front m t i (omega arith) in
    let r = after_front h m t i (omega arith) in
    cc

-- the first i blocks, then the rest
pub cut : (h p : List ℕ) (i : ℕ) → 64 * i ≤ length p → after_all h p ≡ after_all (after h p i) (drop (64 * i) p)
unfolding after_all
cut h p i l =
    let d = length-drop (64 * i) p in
    let j : length p / 64 ≡ i + length (drop (64 * i) p) / 64 = omega arith in
    ap (after h p) j ∙ after_split h p i (length (drop (64 * i) p) / 64)

-- the same, where a string stands behind the one whose blocks are read
pub cut_front : (h m t : List ℕ) (i : ℕ) → 64 * i ≤ length m
    → after_all h (m ++ t) ≡ after_all (after h m i) (drop (64 * i) m ++ t)
cut_front h m t i l =
    let la = length-append m t in
    let a : 64 * i ≤ length (m ++ t) = omega arith in
    cut h (m ++ t) i a
    ∙ ap (λ (s : List ℕ). after_all s (drop (64 * i) (m ++ t))) (after_front h m t i l)
    ∙ ap (after_all (after h m i)) (drop-append-le (64 * i) m t l)

one : (h p : List ℕ) → after h p 1 ≡ compressed h (take 64 p)
unfolding after
one h p = refl

none_left : (h p : List ℕ) → length p < 64 → after_all h p ≡ h
unfolding after_all after
none_left h p lt = let z : length p / 64 ≡ 0 = omega arith in ap (after h p) z

-- a value from which no block is left, and from which what is left gives what all of m does
pub all_taken : (start m h p : List ℕ) → length p < 64 → after_all h p ≡ after_all start m → h ≡ after start m (length m / 64)
unfolding after_all
all_taken start m h p lt e = sym (none_left h p lt) ∙ e

-- one block in front
pub first_block : (h b t : List ℕ) → length b ≡ 64 → after_all h (b ++ t) ≡ after_all (compressed h b) t
first_block h b t e =
    let la = length-append b t in
    let a : 64 * 1 ≤ length (b ++ t) = omega arith in
    cut h (b ++ t) 1 a
    ∙ ap (λ (s : List ℕ). after_all s (drop 64 (b ++ t))) (one h (b ++ t) ∙ ap (compressed h) (take_at b t 64 e))
    ∙ ap (after_all (compressed h b)) (drop_at b t 64 e)

-- one block, and nothing else
pub only-block : (h b : List ℕ) → length b ≡ 64 → after_all h b ≡ compressed h (take 64 b)
only-block h b e =
    let a : 64 * 1 ≤ length b = omega arith in
    let d = length-drop 64 b in
    let z : length (drop 64 b) < 64 = omega arith in
    cut h b 1 a ∙ none_left (after h b 1) (drop 64 b) z ∙ one h b

-- a hash value has eight words
pub length-after : (h p : List ℕ) (i : ℕ) → length h ≡ 8 → length (after h p i) ≡ 8
unfolding after compressed
length-after h p zero e = e
length-after h p (suc i) e = refl
