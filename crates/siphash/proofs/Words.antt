-- The state after the words of a string, part by part.
use Rattle.std.proofs.Common.{◌≡◌, ℕ, zero, suc, ◌+◌, ◌*◌, ◌/◌, ◌%◌, ◌^◌, ◌<◌, ◌≤◌, List, [], ◌++◌, length, take, drop, sym, refl, ap, ◌∙◌, add-zero, add-suc, arith, length-append}
use Rattle.std.proofs.lemmas.List.{append_assoc, append-nil, drop-append-le, drop_at, drop-drop, length-drop, take_all, take-append-le}
use Rattle.siphash.specs.declared.State.{State}
use Rattle.siphash.specs.SipHash.{compressed, ending, finalized, keyed, little, run, sip_hash, sip_hash24, word}
use Rattle.siphash.proofs.Little.{last_word, length-ending}

front : (m t : List ℕ) (i : ℕ) → 8 * i + 8 ≤ length m → word (m ++ t) i ≡ word m i
front m t i l =
    let a : 8 * i ≤ length m = omega arith in
    let b : 8 ≤ length (drop (8 * i) m) = omega (arith, length-drop (8 * i) m) in
    rw (drop-append-le, take-append-le)

run-same : (c : ℕ) (s : State) (m t : List ℕ) (i : ℕ) → 8 * i ≤ length m → run c s (m ++ t) i ≡ run c s m i
unfolding run
run-same c s m t zero l = refl
run-same c s m t (suc i) l =
    ap (λ (x : ℕ). compressed c x (run c s (m ++ t) i)) (front m t i (omega arith))
    ∙ ap (compressed c (word m i)) (run-same c s m t i (omega arith))

run_split : (c : ℕ) (s : State) (p : List ℕ) (i j : ℕ) → run c s p (i + j) ≡ run c (run c s p i) (drop (8 * i) p) j
unfolding run
run_split c s p i zero = rw add-zero
run_split c s p i (suc j) =
    let e : 8 * (i + j) ≡ 8 * i + 8 * j = omega arith in
    let d : drop (8 * (i + j)) p ≡ drop (8 * j) (drop (8 * i) p) = ap (λ (k : ℕ). drop k p) e ∙ sym (drop-drop (8 * j) (8 * i) p) in
    rw add-suc
    (ap (λ (x : List ℕ). compressed c (little (take 8 x)) (run c s p (i + j))) d
    ∙ ap (compressed c (word (drop (8 * i) p) j)) (run_split c s p i j))

-- whole words, and then q
after : (c : ℕ) (s : State) (a q : List ℕ) (i j : ℕ) → length a ≡ 8 * i → run c s (a ++ q) (i + j) ≡ run c (run c s a i) q j
after c s a q i j e =
    run_split c s (a ++ q) i j
    ∙ ap (λ (v : State). run c v (drop (8 * i) (a ++ q)) j) (run-same c s a q i (omega arith))
    ∙ ap (λ (p : List ℕ). run c (run c s a i) p j) (drop_at a q (8 * i) e)

-- one word
single : (c : ℕ) (s : State) (a : List ℕ) → length a ≡ 8 → run c s a 1 ≡ compressed c (little a) s
unfolding run
single c s a e = ap (λ (x : List ℕ). compressed c (little x) s) (take_all 8 a (omega arith))

-- a word in front
pub one_more : (c : ℕ) (s : State) (a q : List ℕ) → length a ≡ 8
    → run c (compressed c (little a) s) q (length q / 8) ≡ run c s (a ++ q) (length (a ++ q) / 8)
one_more c s a q e =
    let j : length (a ++ q) / 8 ≡ 1 + length q / 8 = omega (arith, length-append a q) in
    ap (λ (v : State). run c v q (length q / 8)) (sym (single c s a e))
    ∙ sym (after c s a q 1 (length q / 8) e) ∙ ap (run c s (a ++ q)) (sym j)

-- no whole word
pub none_left : (c : ℕ) (s : State) (q : List ℕ) → length q < 8 → s ≡ run c s q (length q / 8)
unfolding run
none_left c s q lt = let z : 0 ≡ length q / 8 = omega arith in ap (run c s q) z

last : (c : ℕ) (s : State) (t : List ℕ) (n : ℕ) → length t ≡ n % 8 → run c s (t ++ ending n) 1 ≡ compressed c (little t + n % 256 * 256 ^ 7) s
last c s t n e =
    let a = length-append t (ending n) in
    let b = length-ending n in
    single c s (t ++ ending n) (omega arith) ∙ ap (λ (x : ℕ). compressed c x s) (last_word t n e)

-- a string whose last word follows the i words of a
pub short : (c : ℕ) (s : State) (a t : List ℕ) (i n : ℕ) → length a ≡ 8 * i → length t < 8 → n ≡ 8 * i + length t
    → run c s (a ++ (t ++ ending n)) ((n + 8) / 8) ≡ compressed c (little t + n % 256 * 256 ^ 7) (run c s a i)
short c s a t i n ea lt en =
    let e : (n + 8) / 8 ≡ i + 1 = omega arith in
    ap (run c s (a ++ (t ++ ending n))) e ∙ after c s a (t ++ ending n) i 1 ea ∙ last c (run c s a i) t n (omega arith)

-- a string with i words, the word w, j words and the last word
pub long : (c : ℕ) (s : State) (a w b t : List ℕ) (i j n : ℕ) → length a ≡ 8 * i → length w ≡ 8 → length b ≡ 8 * j → length t < 8
    → n ≡ 8 * i + 8 + 8 * j + length t
    → run c s (a ++ (w ++ (b ++ (t ++ ending n)))) ((n + 8) / 8)
    ≡ compressed c (little t + n % 256 * 256 ^ 7) (run c (compressed c (little w) (run c s a i)) b j)
long c s a w b t i j n ea ew eb lt en =
    let e : (n + 8) / 8 ≡ i + (1 + (j + 1)) = omega arith in
    let q : List ℕ = b ++ (t ++ ending n) in
    ap (run c s (a ++ (w ++ q))) e
    ∙ after c s a (w ++ q) i (1 + (j + 1)) ea
    ∙ after c (run c s a i) w q 1 (j + 1) ew
    ∙ ap (λ (v : State). run c v q (j + 1)) (single c (run c s a i) w ew)
    ∙ after c (compressed c (little w) (run c s a i)) b (t ++ ending n) j 1 eb
    ∙ last c (run c (compressed c (little w) (run c s a i)) b j) t n (omega arith)

-- SipHash-2-4 of a string that ends in the word in which `rest` begins
pub sip-short : (key head rest whole left : List ℕ) (v : State) (len w r : ℕ) → head ≡ whole ++ left → length whole % 8 ≡ 0 → length left + length rest < 8
    → len ≡ (length head + length rest) % 256
    → v ≡ run 2 (keyed key) whole (length whole / 8)
    → w ≡ little (left ++ rest) + len * 256 ^ 7
    → r ≡ finalized 4 (compressed 2 w v)
    → r ≡ sip_hash24 key (head ++ rest)
unfolding sip_hash
sip-short key head rest whole left v len w r eh ew lt el ev ez er =
    let n : ℕ = length (head ++ rest) in
    let t : List ℕ = left ++ rest in
    let l0 = length-append head rest in
    let l1 = ap length eh ∙ length-append whole left in
    let l2 = length-append left rest in
    let p : (head ++ rest) ++ ending n ≡ whole ++ (t ++ ending n) =
    ap (λ (h : List ℕ). (h ++ rest) ++ ending n) eh ∙ simp append_assoc in
    let b : len ≡ n % 256 = el ∙ ap (λ (k : ℕ). k % 256) (sym l0) in
    let q = short 2 (keyed key) whole t (length whole / 8) n (omega arith) (omega arith) (omega arith) in
    er ∙ ap (finalized 4) (ap (λ (k : ℕ). compressed 2 k v) ez ∙ ap (λ (k : ℕ). compressed 2 (little t + k * 256 ^ 7) v) b ∙ ap (compressed 2 (little t + n % 256 * 256 ^ 7)) ev ∙ sym q
    ∙ ap (λ (x : List ℕ). run 2 (keyed key) x ((n + 8) / 8)) (sym p))

-- and of any other
pub sip-long : (key head rest whole left fill more mid tail : List ℕ) (v u x : State) (len z r : ℕ) → head ≡ whole ++ left → length whole % 8 ≡ 0
    → rest ≡ fill ++ more → length left + length fill ≡ 8 → more ≡ mid ++ tail → length mid % 8 ≡ 0 → length tail < 8
    → len ≡ (length head + length rest) % 256
    → v ≡ run 2 (keyed key) whole (length whole / 8)
    → u ≡ compressed 2 (little (left ++ fill)) v
    → x ≡ run 2 u mid (length mid / 8)
    → z ≡ little (tail ++ []) + len * 256 ^ 7
    → r ≡ finalized 4 (compressed 2 z x)
    → r ≡ sip_hash24 key (head ++ rest)
unfolding sip_hash
sip-long key head rest whole left fill more mid tail v u x len z r eh ew es lf em ed lt el ev eu ex ez er =
    let n : ℕ = length (head ++ rest) in
    let w : List ℕ = left ++ fill in
    let l0 = length-append head rest in
    let l1 = ap length eh ∙ length-append whole left in
    let l2 = ap length es ∙ length-append fill more in
    let l3 = ap length em ∙ length-append mid tail in
    let l4 = length-append left fill in
    let p : (head ++ rest) ++ ending n ≡ whole ++ (w ++ (mid ++ (tail ++ ending n))) =
    ap (λ (h : List ℕ). (h ++ rest) ++ ending n) eh ∙ ap (λ (h : List ℕ). ((whole ++ left) ++ h) ++ ending n) (es ∙ ap (λ (h : List ℕ). fill ++ h) em) ∙ simp append_assoc in
    let b : len ≡ n % 256 = el ∙ ap (λ (k : ℕ). k % 256) (sym l0) in
    let q = long 2 (keyed key) whole w mid tail (length whole / 8) (length mid / 8) n (omega arith) (omega arith) (omega arith) lt (omega arith) in
    let e : x ≡ run 2 (compressed 2 (little w) (run 2 (keyed key) whole (length whole / 8))) mid (length mid / 8) =
    ex ∙ ap (λ (s : State). run 2 s mid (length mid / 8)) (eu ∙ ap (compressed 2 (little w)) ev) in
    er ∙ ap (finalized 4) (ap (λ (k : ℕ). compressed 2 k x) ez ∙ ap (λ (y : List ℕ). compressed 2 (little y + len * 256 ^ 7) x) (append-nil tail)
    ∙ ap (λ (k : ℕ). compressed 2 (little tail + k * 256 ^ 7) x) b ∙ ap (compressed 2 (little tail + n % 256 * 256 ^ 7)) e ∙ sym q
    ∙ ap (λ (y : List ℕ). run 2 (keyed key) y ((n + 8) / 8)) (sym p))
