-- Two strings compared byte by byte, with the differences collected by bitwise or.
use Rattle.std.proofs.Common.{◌≡◌, ℕ, List, ◌∷◌, length, sym, ap, ◌∙◌, arith, get_or, drop}
use lib.Bits.{bit_or, bit_xor, or_add_and, xor_add_and, xor_self}
use Rattle.std.proofs.lemmas.Nat.{and_le_l, and_le_r}

or_none : (p q : ℕ) → bit_or p q ≡ 0 → (p ≡ 0) × (q ≡ 0)
or_none p q e =
    let s = or_add_and p q in
    let l = and_le_l p q in
    let r = and_le_r p q in
    (omega arith, omega arith)

xor_none : (x y : ℕ) → bit_xor x y ≡ 0 → x ≡ y
xor_none x y e =
    let s = xor_add_and x y in
    let l = and_le_l x y in
    let r = and_le_r x y in
    omega arith

first : (x y : ℕ) (us vs : List ℕ) → x ∷ us ≡ y ∷ vs → x ≡ y
first x y us vs e = ap (λ l. get_or l 0 0) e

behind : (x y : ℕ) (us vs : List ℕ) → x ∷ us ≡ y ∷ vs → us ≡ vs
behind x y us vs e = ap (drop 1) e

-- no difference is noted, and what is left is the same, exactly when the whole strings are the same
abbrev pub Noted : List ℕ → List ℕ → ℕ → List ℕ → List ℕ → Type 0
Noted xs ys d us vs = (length us ≡ length vs) × (d ≡ 0 → us ≡ vs → xs ≡ ys) × (xs ≡ ys → (d ≡ 0) × (us ≡ vs))

pub noted_more : (xs ys : List ℕ) (d x y : ℕ) (us vs us' vs' : List ℕ) → us ≡ x ∷ us' → vs ≡ y ∷ vs' → Noted xs ys d us vs → Noted xs ys (bit_or d (bit_xor y x)) us' vs'
noted_more xs ys d x y us vs us' vs' a b n = (
  (let l = ap length a in let r = ap length b in let o = n.0 in omega arith),
  (λ e s. let o = or_none d (bit_xor y x) e in let q : y ≡ x = xor_none y x o.1 in n.1 o.0 (cc)),
  (λ e. let s = n.2 e in
      let t : x ∷ us' ≡ y ∷ vs' = sym a ∙ s.1 ∙ b in
      (ap (λ (k : ℕ). bit_or k (bit_xor y x)) s.0 ∙ ap (λ (k : ℕ). bit_xor y k) (first x y us' vs' t) ∙ xor_self y, behind x y us' vs' t)),
)
