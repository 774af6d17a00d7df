-- The padded end of a message, as the code lays it.
use Rattle.std.proofs.Common.{◌≡◌, ℕ, suc, ◌+◌, ◌-◌, ◌*◌, ◌%◌, ◌<◌, ◌≤◌, List, [], ◌∷◌, ◌++◌, length, take, drop, set, replicate, sym, ap, ◌∙◌, subst, append_assoc, suc-add, zero-add, arith, length-append}
use lib.ListN.{length-replicate}
use Rattle.std.proofs.lemmas.List.{take-replicate, take-take, drop-replicate, length-set, length-take-le, take-append-drop, drop-take}
use Rattle.std.proofs.lemmas.Slice.{take-put_mid}
use borrow.Rule.Slice.PartMut.{put_mid}
use Rattle.sha256.specs.Block.{compressed}
use Rattle.sha256.specs.Padding.{big_endian, zeros, padding, padded}
use Rattle.sha256.specs.Hash.{after_all}
use Rattle.sha256.proofs.Numbers.{length-big_endian}
use Rattle.sha256.proofs.Blocks.{first_block, only-block}

-- zero bytes behind rest, the first of them turned into 128, cut at j zero bytes
marked : (rest : List ℕ) (j q : ℕ) → j ≤ q
    → take (length rest + suc j) (set (rest ++ replicate (suc q) 0) (length rest) 128) ≡ rest ++ (128 ∷ replicate j 0)
marked [] j q h = rw zero-add (ap (λ (xs : List ℕ). 128 ∷ xs) (take-replicate j q 0 h))
marked (x ∷ rest) j q h = rw suc-add (ap (λ (xs : List ℕ). x ∷ xs) (marked rest j q h))

front : (rest : List ℕ) (end : ℕ) → length rest + 9 ≤ end → end ≤ 128
    → take (end - 8) (set (rest ++ replicate (128 - length rest) 0) (length rest) 128) ≡ rest ++ (128 ∷ replicate (end - 9 - length rest) 0)
front rest end lo hi =
    let e : length rest + suc (end - 9 - length rest) ≡ end - 8 = omega arith in
    let f : suc (127 - length rest) ≡ 128 - length rest = omega arith in
    let h : end - 9 - length rest ≤ 127 - length rest = omega arith in
    let P : ℕ → ℕ → Type 0 = λ n q. take n (set (rest ++ replicate q 0) (length rest) 128) ≡ rest ++ (128 ∷ replicate (end - 9 - length rest) 0) in
    subst (λ (n : ℕ). P n (128 - length rest)) e
    (subst (λ (q : ℕ). P (length rest + suc (end - 9 - length rest)) q) f (marked rest (end - 9 - length rest) (127 - length rest) h))

filled : (rest : List ℕ) (end n k : ℕ) → length rest + 9 ≤ end → end ≤ 128
    → take end (put_mid (end - 8) k (set (rest ++ replicate (128 - length rest) 0) (length rest) 128) (big_endian 8 (8 * n)))
    ≡ rest ++ (128 ∷ replicate (end - 9 - length rest) 0 ++ big_endian 8 (8 * n))
filled rest end n k lo hi =
    let xs : List ℕ = set (rest ++ replicate (128 - length rest) 0) (length rest) 128 in
    let l8 = length-big_endian 8 (8 * n) in
    let ls = length-set (rest ++ replicate (128 - length rest) 0) (length rest) 128 in
    let la = length-append rest (replicate (128 - length rest) 0) in
    let lr = length-replicate {A = ℕ} (128 - length rest) 0 in
    take-put_mid (end - 8) k xs (big_endian 8 (8 * n)) end (omega arith) (omega arith)
    ∙ ap (λ (ys : List ℕ). ys ++ big_endian 8 (8 * n)) (front rest end lo hi)
    ∙ append_assoc rest (128 ∷ replicate (end - 9 - length rest) 0) (big_endian 8 (8 * n))

-- what is laid up to `end` in a buffer of 128 zero bytes
pub end-laid : (rest last a b : List ℕ) (end n k : ℕ) → last ≡ replicate 128 0 → length rest + 9 ≤ end → end ≤ 128
    → a ≡ rest → b ≡ big_endian 8 (8 * n)
    → take end (put_mid (end - 8) k (set (a ++ drop (length rest) last) (length rest) 128) b)
    ≡ rest ++ (128 ∷ replicate (end - 9 - length rest) 0 ++ big_endian 8 (8 * n))
end-laid rest last a b end n k el lo hi ea eb =
    let d : drop (length rest) last ≡ replicate (128 - length rest) 0 = ap (drop (length rest)) el ∙ drop-replicate (length rest) 128 0 in
    let t = filled rest end n k lo hi in
    ap (λ (ys : List ℕ). take end (put_mid (end - 8) k (set (ys ++ drop (length rest) last) (length rest) 128) b)) ea
    ∙ ap (λ (ys : List ℕ). take end (put_mid (end - 8) k (set (rest ++ ys) (length rest) 128) b)) d
    ∙ ap (λ (ys : List ℕ). take end (put_mid (end - 8) k (set (rest ++ replicate (128 - length rest) 0) (length rest) 128) ys)) eb
    ∙ t

zeros-short : (n : ℕ) → n % 64 < 56 → zeros n ≡ 55 - n % 64
unfolding zeros
zeros-short n h = omega arith

zeros-long : (n : ℕ) → 56 ≤ n % 64 → zeros n ≡ 119 - n % 64
unfolding zeros
zeros-long n h = omega arith

-- the end as laid is the rest and the padding
end_is : (rest last : List ℕ) (n end : ℕ) → zeros n ≡ end - 9 - length rest
    → take end last ≡ rest ++ (128 ∷ replicate (end - 9 - length rest) 0 ++ big_endian 8 (8 * n))
    → rest ++ padding n ≡ take end last
unfolding padding
end_is rest last n end ez et =
    ap (λ (k : ℕ). rest ++ (128 ∷ replicate k 0 ++ big_endian 8 (8 * n))) ez
    ∙ sym et

pub length-end : (rest : List ℕ) (n : ℕ) → length (rest ++ padding n) ≡ length rest + (9 + zeros n)
unfolding padding
length-end rest n =
    let a = length-append rest (128 ∷ replicate (zeros n) 0 ++ big_endian 8 (8 * n)) in
    let b = length-append (replicate (zeros n) 0) (big_endian 8 (8 * n)) in
    let c = length-replicate {A = ℕ} (zeros n) 0 in
    let d = length-big_endian 8 (8 * n) in
    omega arith

-- an end of one block
pub finish_short : (h rest last : List ℕ) (n : ℕ) → length rest ≡ n % 64 → length rest < 56
    → take 64 last ≡ rest ++ (128 ∷ replicate (64 - 9 - length rest) 0 ++ big_endian 8 (8 * n))
    → compressed h (take 64 last) ≡ after_all h (rest ++ padding n)
finish_short h rest last n e lt et =
    let z : zeros n ≡ 64 - 9 - length rest = zeros-short n (omega arith) ∙ omega arith in
    let w = end_is rest last n 64 z et in
    let l : length (rest ++ padding n) ≡ 64 = length-end rest n ∙ omega arith in
    sym (only-block h (rest ++ padding n) l ∙ ap (λ (p : List ℕ). compressed h (take 64 p)) w ∙ ap (compressed h) (take-take 64 64 last (omega arith)))

-- an end of two blocks
pub finish_long : (h rest last : List ℕ) (n : ℕ) → length rest ≡ n % 64 → 56 ≤ length rest
    → take 128 last ≡ rest ++ (128 ∷ replicate (128 - 9 - length rest) 0 ++ big_endian 8 (8 * n))
    → compressed (compressed h (take 64 last)) (take 64 (drop 64 last)) ≡ after_all h (rest ++ padding n)
finish_long h rest last n e ge et =
    let z : zeros n ≡ 128 - 9 - length rest = zeros-long n (omega arith) ∙ omega arith in
    let w = end_is rest last n 128 z et in
    let l : length (rest ++ padding n) ≡ 128 = length-end rest n ∙ omega arith in
    let p : List ℕ = take 128 last in
    let lp : length p ≡ 128 = ap length (sym w) ∙ l in
    let lt : length (take 64 p) ≡ 64 = length-take-le 64 p (omega arith) in
    let one : take 64 p ≡ take 64 last = take-take 64 128 last (omega arith) in
    let two : drop 64 p ≡ take 64 (drop 64 last) = drop-take 64 64 last in
    let ls = length-append (take 64 p) (drop 64 p) in
    let lj : length (take 64 p ++ drop 64 p) ≡ 128 = ap length (take-append-drop 64 p) ∙ lp in
    let ld : length (drop 64 p) ≡ 64 = omega arith in
    sym (ap (after_all h) (w ∙ sym (take-append-drop 64 p))
    ∙ first_block h (take 64 p) (drop 64 p) lt
    ∙ only-block (compressed h (take 64 p)) (drop 64 p) ld
    ∙ ap (λ (b : List ℕ). compressed (compressed h b) (take 64 (drop 64 p))) one
    ∙ ap (λ (b : List ℕ). compressed (compressed h (take 64 last)) (take 64 b)) two
    ∙ ap (compressed (compressed h (take 64 last))) (take-take 64 64 (drop 64 last) (omega arith)))

-- the standard's equation, in bits
pub room : (n : ℕ) → (8 * n + 1 + (7 + 8 * zeros n)) % 512 ≡ 448
unfolding zeros
room n = omega arith

pub fewest : (n k : ℕ) → (8 * n + 1 + k) % 512 ≡ 448 → 7 + 8 * zeros n ≤ k
unfolding zeros
fewest n k h = omega arith

whole_blocks : (n : ℕ) → (n + (9 + zeros n)) % 64 ≡ 0
unfolding zeros
whole_blocks n = omega arith

pub parses : (m : List ℕ) → length (padded m) % 64 ≡ 0
unfolding padded
parses m = ap (λ (k : ℕ). k % 64) (length-end m (length m)) ∙ whole_blocks (length m)
