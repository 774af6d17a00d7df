-- The message schedule by its two equations: the first sixteen words are the block's, each later one follows from four earlier words.
use Rattle.std.proofs.Common.{◌≡◌, ℕ, zero, suc, ◌+◌, ◌-◌, ◌<◌, ◌≤◌, List, [], ◌∷◌, length, get_or, sym, ap, ◌∙◌, subst, add-zero, add-suc, arith}
use Rattle.std.proofs.lemmas.List.{get_or_append_left, get_or_push, length_push}
use Rattle.std.proofs.lemmas.List.FromFn.{get_or-map-range_with_len, length-map-range_with_len}
use Rattle.sha256.specs.Block.{M, next, words, W}

length-words : (b : List ℕ) (n : ℕ) → length (words b n) ≡ 16 + n
unfolding words
length-words b zero = length-map-range_with_len (M b) 0 16
length-words b (suc n) = length_push (words b n) _ ∙ ap (λ (k : ℕ). k + 1) (length-words b n) ∙ omega arith

-- a word stays once it is there
stays : (b : List ℕ) (n d k : ℕ) → k < 16 + n → get_or (words b (n + d)) k 0 ≡ get_or (words b n) k 0
unfolding words
stays b n zero k h = ap (λ (j : ℕ). get_or (words b j) k 0) (add-zero n)
stays b n (suc d) k h =
    let l = length-words b (n + d) in
    let lt : k < length (words b (n + d)) = omega arith in
    ap (λ (j : ℕ). get_or (words b j) k 0) (add-suc n d)
    ∙ get_or_append_left (words b (n + d)) (next (words b (n + d)) (16 + (n + d)) ∷ []) 0 k lt
    ∙ stays b n d k h

-- what follows at t depends on the words below t alone
pub next-same : (ws vs : List ℕ) (t : ℕ) → 16 ≤ t → ((k : ℕ) → k < t → get_or ws k 0 ≡ get_or vs k 0) → next ws t ≡ next vs t
next-same ws vs t h f =
    let e2 = f (t - 2) (omega arith) in
    let e7 = f (t - 7) (omega arith) in
    let e15 = f (t - 15) (omega arith) in
    let e16 = f (t - 16) (omega arith) in
    cc

first : (b : List ℕ) (t : ℕ) → t < 16 → get_or (words b 0) t 0 ≡ M b t
unfolding words
first b t h = get_or-map-range_with_len (M b) 0 16 t t 0 h (omega arith)

pub schedule_start : (b : List ℕ) (t : ℕ) → t < 16 → get_or (W b) t 0 ≡ M b t
unfolding W
schedule_start b t h = stays b 0 48 t (omega arith) ∙ first b t h

made : (b : List ℕ) (n : ℕ) → get_or (words b (suc n)) (16 + n) 0 ≡ next (words b n) (16 + n)
unfolding words
made b n = get_or_push (words b n) (next (words b n) (16 + n)) 0 (16 + n) (length-words b n)

later : (b : List ℕ) (n d : ℕ) → get_or (words b (suc n + d)) (16 + n) 0 ≡ next (words b (suc n + d)) (16 + n)
later b n d =
    stays b (suc n) d (16 + n) (omega arith) ∙ made b n
    ∙ next-same (words b n) (words b (suc n + d)) (16 + n) (omega arith)
    (λ k h. sym (stays b n (suc d) k (omega arith)) ∙ ap (λ (j : ℕ). get_or (words b j) k 0) (omega arith))

pub schedule_next : (b : List ℕ) (t : ℕ) → 16 ≤ t → t < 64 → get_or (W b) t 0 ≡ next (W b) t
unfolding W
schedule_next b t lo hi =
    let e : suc (t - 16) + (63 - t) ≡ 48 = omega arith in
    let f : 16 + (t - 16) ≡ t = omega arith in
    let P : ℕ → ℕ → Type 0 = λ j k. get_or (words b j) k 0 ≡ next (words b j) k in
    subst (λ (j : ℕ). P j t) e (subst (λ (k : ℕ). P (suc (t - 16) + (63 - t)) k) f (later b (t - 16) (63 - t)))
