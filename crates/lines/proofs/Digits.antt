-- Digits to bytes, two digits at a time.
use Rattle.std.proofs.Common.{◌≡◌, ℕ, suc, ◌+◌, ◌*◌, ◌%◌, ◌<◌, List, [], ◌∷◌, ◌++◌, length, get_or, take, drop, set, Some, None, Option, sym, refl, ap, ◌∙◌, append_assoc, arith, drop-cons}
use Rattle.std.proofs.lemmas.List.{append-nil, take_more_set}
use Rattle.lines.specs.Hex.{before, digit_value, hex, paired, unhex}

paired_none : (h l : Option ℕ) → paired h l None ≡ None
paired_none (Some h) (Some l) = refl
paired_none (Some h) None = refl
paired_none None l = refl

pub unhex_odd : (xs : List ℕ) → (length xs % 2 ≡ 0 → ⊥) → unhex xs ≡ None
unhex_odd [] odd = absurd (odd refl)
unhex_odd (a ∷ []) odd = refl
unhex_odd (a ∷ b ∷ rest) odd =
    ap (paired (digit_value a) (digit_value b)) (unhex_odd rest (λ e. odd (omega arith))) ∙ paired_none (digit_value a) (digit_value b)

before-before : (p q : List ℕ) (o : Option (List ℕ)) → before p (before q o) ≡ before (p ++ q) o
before-before p q (Some more) = ap Some (sym (append_assoc p q more))
before-before p q None = refl

pub before-none : (o : Option (List ℕ)) → o ≡ before [] o
before-none (Some more) = refl
before-none None = refl

drop-two : (xs : List ℕ) (i : ℕ) → 2 * i + 1 < length xs
    → drop (2 * i) xs ≡ get_or xs (2 * i) 0 ∷ get_or xs (2 * i + 1) 0 ∷ drop (2 * (i + 1)) xs
drop-two xs i lt =
    let first : 2 * i < length xs = omega arith in
    let next : suc (2 * i) < length xs = omega arith in
    let one : suc (2 * i) ≡ 2 * i + 1 = omega arith in
    let two : suc (suc (2 * i)) ≡ 2 * (i + 1) = omega arith in
    drop-cons xs (2 * i) 0 first
    ∙ ap (λ ys. get_or xs (2 * i) 0 ∷ ys) (drop-cons xs (suc (2 * i)) 0 next)
    ∙ ap (λ k. get_or xs (2 * i) 0 ∷ get_or xs k 0 ∷ drop (suc (suc (2 * i))) xs) one
    ∙ ap (λ k. get_or xs (2 * i) 0 ∷ get_or xs (2 * i + 1) 0 ∷ drop k xs) two

-- what is left of a line, by its first two digits
left_is : (line bytes : List ℕ) (i : ℕ) → 2 * i + 1 < length line
    → unhex line ≡ before (take i bytes) (unhex (drop (2 * i) line))
    → unhex line ≡ before (take i bytes) (paired (digit_value (get_or line (2 * i) 0)) (digit_value (get_or line (2 * i + 1) 0)) (unhex (drop (2 * (i + 1)) line)))
left_is line bytes i lt e = e ∙ ap (λ xs. before (take i bytes) (unhex xs)) (drop-two line i lt)

module _ (line bytes : List ℕ) (i : ℕ) (lt : 2 * i + 1 < length line) (e : unhex line ≡ before (take i bytes) (unhex (drop (2 * i) line))) where
  pub decode_high : None ≡ digit_value (get_or line (2 * i) 0) → unhex line ≡ None
  decode_high none =
      left_is line bytes i lt e
      ∙ ap (λ v. before (take i bytes) (paired v (digit_value (get_or line (2 * i + 1) 0)) (unhex (drop (2 * (i + 1)) line)))) (sym none)

  pub decode_low : (h : ℕ) → Some h ≡ digit_value (get_or line (2 * i) 0) → None ≡ digit_value (get_or line (2 * i + 1) 0) → unhex line ≡ None
  decode_low h some none =
      left_is line bytes i lt e
      ∙ ap (λ v. before (take i bytes) (paired v (digit_value (get_or line (2 * i + 1) 0)) (unhex (drop (2 * (i + 1)) line)))) (sym some)
      ∙ ap (λ v. before (take i bytes) (paired (Some h) v (unhex (drop (2 * (i + 1)) line)))) (sym none)

  pub decode_more : (h l : ℕ) → i < length bytes → Some h ≡ digit_value (get_or line (2 * i) 0) → Some l ≡ digit_value (get_or line (2 * i + 1) 0)
      → unhex line ≡ before (take (i + 1) (set bytes i (h * 16 + l))) (unhex (drop (2 * (i + 1)) line))
  decode_more h l room high low =
      left_is line bytes i lt e
      ∙ ap (λ v. before (take i bytes) (paired v (digit_value (get_or line (2 * i + 1) 0)) (unhex (drop (2 * (i + 1)) line)))) (sym high)
      ∙ ap (λ v. before (take i bytes) (paired (Some h) v (unhex (drop (2 * (i + 1)) line)))) (sym low)
      ∙ before-before (take i bytes) ((h * 16 + l) ∷ []) (unhex (drop (2 * (i + 1)) line))
      ∙ ap (λ p. before p (unhex (drop (2 * (i + 1)) line))) (sym (take_more_set bytes i (h * 16 + l) room))

pub decode_all : (line bytes : List ℕ) (n : ℕ) → drop (2 * n) line ≡ []
    → unhex line ≡ before (take n bytes) (unhex (drop (2 * n) line)) → unhex line ≡ Some (take n bytes)
decode_all line bytes n none e = e ∙ ap (λ xs. before (take n bytes) (unhex xs)) none ∙ ap Some (append-nil (take n bytes))

pub length-hex : (bs : List ℕ) → length (hex bs) ≡ 2 * length bs
length-hex [] = refl
length-hex (b ∷ bs) = omega (arith, length-hex bs)
