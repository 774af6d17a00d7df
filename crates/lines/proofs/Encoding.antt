-- Bytes to digits, two digits at a time.
use Rattle.std.proofs.Common.{◌≡◌, ℕ, suc, ◌+◌, ◌*◌, ◌<◌, ◌≤◌, List, [], ◌∷◌, ◌++◌, length, get_or, take, drop, set, sym, ap, ◌∙◌, append_assoc, arith, length-append, drop-cons}
use Rattle.std.proofs.lemmas.List.{flat_map_more, set_at, take_more}
use Rattle.lines.specs.Hex.{byte_digits, hex}
use Rattle.lines.proofs.Digits.{length-hex}

-- two digits laid behind what is laid already
laid : (p old : List ℕ) (n a b : ℕ) → length p ≡ n → n + 1 < length old
    → set (set (p ++ drop n old) n a) (n + 1) b ≡ (p ++ a ∷ b ∷ []) ++ drop (n + 2) old
laid p old n a b size room =
    let first : n < length old = omega arith in
    let next : suc n < length old = omega arith in
    let two : suc (suc n) ≡ n + 2 = omega arith in
    let size' : length (p ++ a ∷ []) ≡ n + 1 = omega (arith, length-append p (a ∷ [])) in
    ap (λ xs. set (set (p ++ xs) n a) (n + 1) b) (drop-cons old n 0 first ∙ ap (λ xs. get_or old n 0 ∷ xs) (drop-cons old (suc n) 0 next))
    ∙ ap (λ xs. set xs (n + 1) b) (set_at p (get_or old n 0) (get_or old (suc n) 0 ∷ drop (suc (suc n)) old) a n size)
    ∙ ap (λ xs. set xs (n + 1) b) (sym (append_assoc p (a ∷ []) (get_or old (suc n) 0 ∷ drop (suc (suc n)) old)))
    ∙ set_at (p ++ a ∷ []) (get_or old (suc n) 0) (drop (suc (suc n)) old) b (n + 1) size'
    ∙ append_assoc p (a ∷ []) (b ∷ drop (suc (suc n)) old)
    ∙ sym (append_assoc p (a ∷ b ∷ []) (drop (suc (suc n)) old))
    ∙ ap (λ k. (p ++ a ∷ b ∷ []) ++ drop k old) two

pub encode_more : (bytes out old : List ℕ) (i a b : ℕ) → i < length bytes → 2 * length bytes ≤ length old
    → out ≡ hex (take i bytes) ++ drop (2 * i) old → length (take i bytes) ≡ i → a ∷ b ∷ [] ≡ byte_digits (get_or bytes i 0)
    → set (set out (2 * i) a) (2 * i + 1) b ≡ hex (take (i + 1) bytes) ++ drop (2 * (i + 1)) old
encode_more bytes out old i a b lt room is count pair =
    let two : 2 * i + 2 ≡ 2 * (i + 1) = omega arith in
    ap (λ xs. set (set xs (2 * i) a) (2 * i + 1) b) is
    ∙ laid (hex (take i bytes)) old (2 * i) a b (length-hex (take i bytes) ∙ ap (λ k. 2 * k) count) (omega arith)
    ∙ ap (λ xs. (hex (take i bytes) ++ xs) ++ drop (2 * i + 2) old) pair
    ∙ ap (λ xs. xs ++ drop (2 * i + 2) old) (flat_map_more byte_digits [] (take i bytes) (get_or bytes i 0))
    ∙ ap (λ xs. hex xs ++ drop (2 * i + 2) old) (sym (take_more bytes i 0 lt))
    ∙ ap (λ k. hex (take (i + 1) bytes) ++ drop k old) two
