-- A number and its bytes are each other's.
use Rattle.std.proofs.Common.{◌≡◌, ℕ, zero, suc, ◌+◌, ◌*◌, ◌/◌, ◌%◌, ◌^◌, ◌<◌, ◌≤◌, List, [], ◌∷◌, ◌++◌, length, get_or, drop, sym, refl, ap, ◌∙◌, subst, arith}
use Rattle.std.proofs.lemmas.List.{append_assoc, length-append, drop_more, get_or_at}
use Rattle.std.proofs.lemmas.Nat.{div-mul-add, mod-mul-add, div-add-mod', pow-add}
use Rattle.octets.specs.Numbers.{Bytes, limit, be, number_at}

pub length-be : (w n : ℕ) → length (be w n) ≡ w
length-be zero n = refl
length-be (suc zero) n = refl
length-be (suc (suc w)) n = length-append (be (suc w) (n / 256)) (n % 256 ∷ []) ∙ omega (arith, length-be (suc w) (n / 256))

-- the bytes of a number stand for it, wherever they lie
pub number-there : (pre post : List ℕ) (w n : ℕ) → number_at (pre ++ (be (suc w) n ++ post)) (length pre) (suc w) ≡ n
number-there pre post zero n = get_or_at pre n post 0 (length pre) refl
number-there pre post (suc w) n =
    let front = be (suc w) (n / 256) in
    let bs = pre ++ (be (suc (suc w)) n ++ post) in
    let first : pre ++ (front ++ (n % 256 ∷ post)) ≡ bs = simp append_assoc in
    let last : (pre ++ front) ++ (n % 256 ∷ post) ≡ bs = simp append_assoc in
    let long : length (pre ++ front) ≡ length pre + suc w = length-append pre front ∙ ap (λ k. length pre + k) (length-be (suc w) (n / 256)) in
    let high = subst (λ l. number_at l (length pre) (suc w) ≡ n / 256) first (number-there pre (n % 256 ∷ post) w (n / 256)) in
    let low = subst (λ l. get_or l (length pre + suc w) 0 ≡ n % 256) last (get_or_at (pre ++ front) (n % 256) post 0 (length pre + suc w) long) in
    (λ i. high i * 256 + low i) ∙ div-add-mod' n 256

pub number-found : (pre post : List ℕ) (w n : ℕ) → n ≤ limit w → number_at (pre ++ (be w n ++ post)) (length pre) w ≡ n
number-found pre post zero n h = omega arith
number-found pre post (suc w) n h = number-there pre post w n

-- the bytes at a place are those of the number that they stand for
pub number-back : (bs : List ℕ) (at w : ℕ) → Bytes bs → at + w ≤ length bs → drop at bs ≡ be w (number_at bs at w) ++ drop (at + w) bs
number-back bs at zero all h = let e : at ≡ at + 0 = omega arith in ap (λ k. drop k bs) e
number-back bs at (suc zero) all h = drop_more bs at 0 (omega arith)
number-back bs at (suc (suc w)) all h =
    let m = number_at bs at (suc w) in
    let b = get_or bs (at + suc w) 0 in
    let front = number-back bs at (suc w) all (omega arith) in
    let last = drop_more bs (at + suc w) 0 (omega arith) in
    let e : at + suc w + 1 ≡ at + suc (suc w) = omega arith in
    let hi = sym (div-mul-add m 256 b (all (at + suc w))) in
    let lo = sym (mod-mul-add m 256 b (all (at + suc w))) in
    front
    ∙ ap (λ l. be (suc w) m ++ l) (last ∙ ap (λ k. b ∷ drop k bs) e)
    ∙ sym (append_assoc (be (suc w) m) (b ∷ []) (drop (at + suc (suc w)) bs))
    ∙ (λ i. (be (suc w) (hi i) ++ (lo i ∷ [])) ++ drop (at + suc (suc w)) bs)

pub power_more : (w : ℕ) → 2 ^ (8 * suc w) ≡ 2 ^ (8 * w) * 256
power_more w = let e : 8 * suc w ≡ 8 * w + 8 = omega arith in ap (λ k. 2 ^ k) e ∙ pow-add 2 (8 * w) 8

pub number_below : (bs : List ℕ) (at w : ℕ) → Bytes bs → number_at bs at w < 2 ^ (8 * w)
number_below bs at zero all = omega arith
number_below bs at (suc zero) all = all at
number_below bs at (suc (suc w)) all =
    let e = power_more (suc w) in
    let h = number_below bs at (suc w) all in
    let b = all (at + suc w) in
    omega (arith, e, h, b)

pub number-limit : (bs : List ℕ) (at w : ℕ) → Bytes bs → number_at bs at w ≤ limit w
number-limit bs at w all = omega (arith, number_below bs at w all)
