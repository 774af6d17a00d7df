-- How many numbers below n pass a test.
use Rattle.std.proofs.Common.{◌≡◌, ℕ, zero, suc, ◌+◌, ◌<◌, ◌≤◌, Bool, true, false, cond, not, ◌&&◌, eqb, List, length, take, slice_index_or, count_by, take_all, sym, refl, ap, ◌∙◌, inl, inr, not-suc-le-zero, add-one, arith}
use Rattle.std.proofs.Math.Bool.{and-true}
use Rattle.std.proofs.lemmas.List.Sums.{sum_by_more}
use Rattle.std.proofs.lemmas.Bool.{and_right, cases_Bool, cases_eq, cases_lt, eq-eqb, ne_eqb, not_from_false, not_from_true}
use Rattle.session.specs.Replies.{count_below}

-- what one number adds
abbrev pub bit : Bool → ℕ
bit b = cond b 1 0

bit_le : (b : Bool) → bit b ≤ 1
bit_le true = omega arith
bit_le false = omega arith

module _ (p : ℕ → Bool) where
  -- past a bound behind which none passes nothing is added
  pub count_beyond : (n m : ℕ) → ((b : ℕ) → n ≤ b → p b ≡ false) → n ≤ m → count_below p m ≡ count_below p n
  unfolding count_below
  count_beyond n zero none le = let e : zero ≡ n = omega arith in ap (count_below p) e
  count_beyond n (suc m) none le = elim (cases_lt m n) [
    | inl last ↦ let e : suc m ≡ n = omega arith in ap (count_below p) e
    | inr past ↦ omega (arith, count_beyond n m none past, ap bit (none m past))
  ]

-- the first n items of a list that pass a test, counted by their numbers
counted_to : {A : Type 0} (p : A → Bool) (d : A) (xs : List A) (n : ℕ) → n ≤ length xs → count_by p (take n xs) ≡ count_below (λ b. p (slice_index_or xs b d)) n
unfolding count_below
counted_to p d xs zero le = refl
counted_to p d xs (suc n) le = omega (arith, ap (λ m. count_by p (take m xs)) (add-one n), sum_by_more (λ x. bit (p x)) xs n d (omega arith), counted_to p d xs n (omega arith))

pub counted : {A : Type 0} (p : A → Bool) (d : A) (xs : List A) (n : ℕ) → length xs ≡ n → count_by p xs ≡ count_below (λ b. p (slice_index_or xs b d)) n
counted p d xs n long = ap (count_by p) (sym (take_all n xs (omega (arith, long)))) ∙ counted_to p d xs n (omega (arith, long))

pub count_same : (p q : ℕ → Bool) (n : ℕ) → ((b : ℕ) → b < n → p b ≡ q b) → count_below p n ≡ count_below q n
unfolding count_below
count_same p q zero same = refl
count_same p q (suc n) same = omega (arith, count_same p q n (λ b lt. same b (omega arith)), ap bit (same n (omega arith)))

-- where more pass one test than another, one passes the first and not the second
pub count_witness : (p q : ℕ → Bool) (n : ℕ) → count_below q n < count_below p n → (b : ℕ) × ((b < n) × (p b ≡ true) × (q b ≡ false))
unfolding count_below
count_witness p q zero lt = absurd (not-suc-le-zero lt)
count_witness p q (suc n) lt = elim (cases_Bool (q n)) [
  | inl listed ↦ let at = count_witness p q n (omega (arith, ap bit listed, bit_le (p n))) in (at.0, (omega (arith, at.1.0), at.1.1, at.1.2))
  | inr free ↦ elim (cases_Bool (p n)) [
    | inl here ↦ (n, (omega arith, here, free))
    | inr none ↦ let at = count_witness p q n (omega (arith, ap bit none, ap bit free)) in (at.0, (omega (arith, at.1.0), at.1.1, at.1.2))
  ]
]

-- a number that is left out counts one less
pub count_without : (p : ℕ → Bool) (b n : ℕ) → b < n → p b ≡ true → count_below p n ≡ count_below (λ c. p c && not (eqb c b)) n + 1
unfolding count_below
count_without p b zero lt is = absurd (not-suc-le-zero lt)
count_without p b (suc n) lt is = elim (cases_eq n b) [
  | inl e ↦
      let here = ap bit (ap p e ∙ is) in
      let gone : bit (p n && not (eqb n b)) ≡ 0 = ap bit (and_right (p n) (not (eqb n b)) (not_from_true (eqb n b) (eq-eqb n b e))) in
      let below = count_same p (λ c. p c && not (eqb c b)) n (λ c low. sym (and-true (p c)) ∙ ap (λ x. p c && x) (sym (not_from_false (eqb c b) (ne_eqb c b (omega arith))))) in
      omega (arith, here, gone, below)
  | inr ne ↦
      let here : bit (p n && not (eqb n b)) ≡ bit (p n) = ap (λ x. bit (p n && x)) (not_from_false (eqb n b) (ne_eqb n b ne)) ∙ ap bit (and-true (p n)) in
      omega (arith, count_without p b n (omega arith) is, here)
]

-- none pass a test that always fails
pub count-never : (n : ℕ) → count_below (λ _. false) n ≡ 0
unfolding count_below
count-never zero = refl
count-never (suc n) = omega (arith, count-never n)
