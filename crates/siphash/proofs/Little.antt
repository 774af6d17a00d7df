-- Little-endian numbers: one byte more in front, two strings joined, and how large they are.
use Rattle.std.proofs.Common.{◌≡◌, ℕ, zero, suc, ◌+◌, ◌-◌, ◌*◌, ◌%◌, ◌^◌, ◌<◌, ◌≤◌, List, [], ◌∷◌, ◌++◌, length, get_or, drop, replicate, sym, ap, ◌∙◌, mul_assoc, pow-suc, add-one, arith, length-append, pow-add}
use native.Mathlib.Nat.{pow-le-pow_right, pow-succ'}
use lib.ListN.{length-replicate}
use Rattle.std.proofs.lemmas.List.{drop_more, drop_all}
use Rattle.siphash.specs.SipHash.{ending, little}

little-drop : (b : List ℕ) (i : ℕ) → i < length b → little (drop i b) ≡ get_or b i 0 + 256 * little (drop (i + 1) b)
unfolding little
little-drop b i h = ap little (drop_more b i 0 h)

little-none : (b : List ℕ) (i : ℕ) → length b ≤ i → little (drop i b) ≡ 0
unfolding little
little-none b i h = ap little (drop_all i b h)

pub eight : (b : List ℕ) (r : ℕ) → length b ≡ 8
    → r ≡ get_or b 0 0 + get_or b 1 0 * 256 + get_or b 2 0 * 65536 + get_or b 3 0 * 16777216 + get_or b 4 0 * 4294967296 + get_or b 5 0 * 1099511627776 + get_or b 6 0 * 281474976710656 + get_or b 7 0 * 72057594037927936
    → r ≡ little b
eight b r e h =
    let p0 : little b ≡ get_or b 0 0 + 256 * little (drop 1 b) = little-drop b 0 (omega arith) in
    let p1 : little (drop 1 b) ≡ get_or b 1 0 + 256 * little (drop 2 b) = little-drop b 1 (omega arith) in
    let p2 : little (drop 2 b) ≡ get_or b 2 0 + 256 * little (drop 3 b) = little-drop b 2 (omega arith) in
    let p3 : little (drop 3 b) ≡ get_or b 3 0 + 256 * little (drop 4 b) = little-drop b 3 (omega arith) in
    let p4 : little (drop 4 b) ≡ get_or b 4 0 + 256 * little (drop 5 b) = little-drop b 4 (omega arith) in
    let p5 : little (drop 5 b) ≡ get_or b 5 0 + 256 * little (drop 6 b) = little-drop b 5 (omega arith) in
    let p6 : little (drop 6 b) ≡ get_or b 6 0 + 256 * little (drop 7 b) = little-drop b 6 (omega arith) in
    let p7 : little (drop 7 b) ≡ get_or b 7 0 + 256 * little (drop 8 b) = little-drop b 7 (omega arith) in
    let p8 : little (drop 8 b) ≡ 0 = little-none b 8 (omega arith) in
    omega arith

pub grown : (w x j : ℕ) → w < 256 ^ j → x < 256 → w * 256 + x < 256 ^ (j + 1)
grown w x j hw hx = let p = pow-suc 256 j in rw add-one (omega arith)

pub pow-le : (i j : ℕ) → i ≤ j → 256 ^ i ≤ 256 ^ j
pow-le i j h = pow-le-pow_right {n = 256} (omega arith) h

-- two strings one after the other
pub little-append : (s t : List ℕ) → little (s ++ t) ≡ little s + 256 ^ length s * little t
unfolding little
little-append [] t = omega arith
little-append (x ∷ s) t =
    let r = little-append s t in
    let p : 256 ^ suc (length s) * little t ≡ 256 * (256 ^ length s * little t) =
    ap (λ (k : ℕ). k * little t) (pow-succ' 256 (length s)) ∙ mul_assoc 256 (256 ^ length s) (little t) in
    omega arith

little_last : (k x : ℕ) → little (replicate k 0 ++ x ∷ []) ≡ 256 ^ k * x
unfolding little
little_last zero x = omega arith
little_last (suc k) x =
    let r = little_last k x in
    let p : 256 ^ suc k * x ≡ 256 * (256 ^ k * x) = ap (λ (q : ℕ). q * x) (pow-succ' 256 k) ∙ mul_assoc 256 (256 ^ k) x in
    omega arith

-- the last word: the bytes left over, and the length as its eighth byte
pub last_word : (t : List ℕ) (n : ℕ) → length t ≡ n % 8 → little (t ++ ending n) ≡ little t + n % 256 * 256 ^ 7
unfolding ending
last_word t n e =
    let x : ℕ = n % 256 in
    let k : ℕ = 7 - n % 8 in
    let a : little (t ++ (replicate k 0 ++ x ∷ [])) ≡ little t + 256 ^ length t * little (replicate k 0 ++ x ∷ []) = little-append t (replicate k 0 ++ x ∷ []) in
    let s : length t + k ≡ 7 = omega arith in
    let q : 256 ^ length t * little (replicate k 0 ++ x ∷ []) ≡ 256 ^ 7 * x =
    ap (λ (y : ℕ). 256 ^ length t * y) (little_last k x) ∙ sym (mul_assoc (256 ^ length t) (256 ^ k) x)
    ∙ ap (λ (y : ℕ). y * x) (sym (pow-add 256 (length t) k) ∙ ap (λ (y : ℕ). 256 ^ y) s) in
    omega arith

pub length-ending : (n : ℕ) → length (ending n) ≡ 8 - n % 8
unfolding ending
length-ending n =
    let a = length-append (replicate (7 - n % 8) 0) (n % 256 ∷ []) in
    let b = length-replicate {A = ℕ} (7 - n % 8) 0 in
    omega arith
