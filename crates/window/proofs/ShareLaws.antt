-- The laws of shares by signer.
use Rattle.std.proofs.Common.{◌≡◌, ℕ, zero, suc, ◌+◌, ◌<◌, ◌≤◌, Bool, true, false, cond, List, [], ◌∷◌, ◌++◌, length, get_or, take, is_some, Some, None, Option, Ok, Err, Result, sym, refl, ap, ◌∙◌, subst, inl, inr, zero-le, not-suc-le-zero, add-one, arith}
use Rattle.std.proofs.ByRecursion.{All-append, All-get_or, All-weaker}
use Rattle.std.proofs.lemmas.List.{append-nil, get_or_append_left, get_or_at, length-append, length_push, length-take, take_all, take-append-le}
use Rattle.std.proofs.lemmas.Bool.{cases_eq, cases_lt}
use Rattle.std.specs.List.{AllByRecursion as All}
use Rattle.inline_vec.specs.declared.calls.Full.{Full}
use Rattle.entry.specs.Bodies.{PairBody, Pushed}
use Rattle.window.specs.Shares.{Rise, pair_of, pairs_below, shares_below}

-- what a signer adds to the count
abbrev pub one : Option (List ℕ) → ℕ
one t = cond (is_some t) 1 0

one-le : (t : Option (List ℕ)) → one t ≤ 1
one-le (Some t) = omega arith
one-le None = omega arith

length-one : (n : ℕ) (t : Option (List ℕ)) → length (pair_of n t) ≡ one t
length-one n (Some t) = refl
length-one n None = refl

all_one : (n : ℕ) (t : Option (List ℕ)) → All (λ p. p.signer < suc n) (pair_of n t)
all_one n (Some t) = (omega arith, tt)
all_one n None = tt

-- one signer more, above all others
rise_one : (n : ℕ) (t : Option (List ℕ)) (ps : List PairBody) → All (λ p. p.signer < n) ps → Rise ps → Rise (ps ++ pair_of n t)
rise_one n None ps under rise i d lt = subst Rise (sym (append-nil ps)) rise i d lt
rise_one n (Some t) ps under rise i d lt =
    let p : PairBody = record { signer = n; tag = t } in
    let long = length_push ps p in
    let low : i < length ps = omega arith in
    let this : get_or (ps ++ p ∷ []) i d ≡ get_or ps i d = get_or_append_left ps (p ∷ []) d i low in
    elim (cases_lt (i + 1) (length ps)) [
      | inl lt' ↦
          let next : get_or (ps ++ p ∷ []) (i + 1) d ≡ get_or ps (i + 1) d = get_or_append_left ps (p ∷ []) d (i + 1) lt' in
          omega (arith, rise i d lt', ap (λ (q : PairBody). q.signer) this, ap (λ (q : PairBody). q.signer) next)
      | inr ge ↦
          let next : get_or (ps ++ p ∷ []) (i + 1) d ≡ p = get_or_at ps p [] d (i + 1) (omega arith) in
          omega (arith, All-get_or (λ q. q.signer < n) ps i d low under, ap (λ (q : PairBody). q.signer) this, ap (λ (q : PairBody). q.signer) next)
    ]

module _ (tag : ℕ → Option (List ℕ)) where
  -- the steps of a loop over signers
  pub shares-more : (n : ℕ) → shares_below tag (n + 1) ≡ shares_below tag n + one (tag n)
  unfolding shares_below
  shares-more n = ap (shares_below tag) (add-one n)

  pub shares_start : shares_below tag 0 ≡ 0
  unfolding shares_below
  shares_start = refl

  pub shares_yes : (n : ℕ) → is_some (tag n) ≡ true → shares_below tag (n + 1) ≡ shares_below tag n + 1
  shares_yes n is = let bit : Bool → ℕ = λ b. cond b 1 0 in omega (arith, shares-more n, ap bit is)

  pub shares_no : (n : ℕ) → is_some (tag n) ≡ false → shares_below tag (n + 1) ≡ shares_below tag n
  shares_no n is = let bit : Bool → ℕ = λ b. cond b 1 0 in omega (arith, shares-more n, ap bit is)

  pub pairs-more : (n : ℕ) → pairs_below tag (n + 1) ≡ pairs_below tag n ++ pair_of n (tag n)
  unfolding pairs_below
  pairs-more n = ap (pairs_below tag) (add-one n)

  pub pairs_start : pairs_below tag 0 ≡ []
  unfolding pairs_below
  pairs_start = refl

  pub pairs_yes : (n : ℕ) (t : List ℕ) → tag n ≡ Some t → pairs_below tag (n + 1) ≡ pairs_below tag n ++ record { signer = n; tag = t } ∷ []
  pairs_yes n t is = pairs-more n ∙ ap (λ o. pairs_below tag n ++ pair_of n o) is

  pub pairs_no : (n : ℕ) → tag n ≡ None → pairs_below tag (n + 1) ≡ pairs_below tag n
  pairs_no n is = pairs-more n ∙ ap (λ o. pairs_below tag n ++ pair_of n o) is ∙ append-nil (pairs_below tag n)

  -- there are not more shares than signers
  pub shares-le : (n : ℕ) → shares_below tag n ≤ n
  unfolding shares_below
  shares-le zero = zero-le
  shares-le (suc n) = omega (arith, shares-le n, one-le (tag n))

  -- there are as many pairs as shares
  pub length_pairs : (n : ℕ) → length (pairs_below tag n) ≡ shares_below tag n
  unfolding shares_below pairs_below
  length_pairs zero = refl
  length_pairs (suc n) = length-append (pairs_below tag n) (pair_of n (tag n)) ∙ omega (arith, length_pairs n, length-one n (tag n))

  pairs-under : (n : ℕ) → All (λ p. p.signer < n) (pairs_below tag n)
  unfolding pairs_below
  pairs-under zero = tt
  pairs-under (suc n) = All-append (λ p. p.signer < suc n) (pairs_below tag n) (pair_of n (tag n))
      (All-weaker (λ p. p.signer < n) (λ p. p.signer < suc n) (λ p lt. omega arith) (pairs_below tag n) (pairs-under n)) (all_one n (tag n))

  -- pairs rise by signer
  pub pairs-rise : (n : ℕ) → Rise (pairs_below tag n)
  unfolding pairs_below
  pairs-rise zero i d lt = absurd (not-suc-le-zero lt)
  pairs-rise (suc n) i d lt = rise_one n (tag n) (pairs_below tag n) (pairs-under n) (pairs-rise n) i d lt

  -- no signer, no share
  pub shares-none : (n : ℕ) → ((s : ℕ) → tag s ≡ None) → shares_below tag n ≡ 0
  unfolding shares_below
  shares-none zero none = refl
  shares-none (suc n) none = omega (arith, shares-none n none, ap one (none n))

module _ (old new : ℕ → Option (List ℕ)) where
  -- shares and pairs depend on the signers below only
  pub shares-same : (n : ℕ) → ((s : ℕ) → s < n → new s ≡ old s) → shares_below new n ≡ shares_below old n
  unfolding shares_below
  shares-same zero same = refl
  shares-same (suc n) same = omega (arith, shares-same n (λ s lt. same s (omega arith)), ap one (same n (omega arith)))

  pub pairs-same : (n : ℕ) → ((s : ℕ) → s < n → new s ≡ old s) → pairs_below new n ≡ pairs_below old n
  unfolding pairs_below
  pairs-same zero same = refl
  pairs-same (suc n) same =
      let front = pairs-same n (λ s lt. same s (omega arith)) in
      let last = same n (omega arith) in
      (λ i. front i ++ pair_of n (last i))

  -- a signer more is a share more
  pub shares-added : (n signer : ℕ) (t : List ℕ) → signer < n → old signer ≡ None → new signer ≡ Some t
      → ((s : ℕ) → (s ≡ signer → ⊥) → new s ≡ old s) → shares_below new n ≡ shares_below old n + 1
  unfolding shares_below
  shares-added zero signer t lt none some same = absurd (not-suc-le-zero lt)
  shares-added (suc n) signer t lt none some same = elim (cases_eq n signer) [
    | inl e ↦ omega (arith, shares-same n (λ s below. same s (omega arith)), ap one (ap old e ∙ none), ap one (ap new e ∙ some))
    | inr ne ↦ omega (arith, shares-added n signer t (omega arith) none some same, ap one (same n ne))
  ]

-- one more behind the first six of a row
module _ {X B : Type 0} (f : X → B) (bs after : List B) (x : X) where
  pub six-more : (r : Result (Unit {0}) Full) → Pushed f 6 (take 6 bs) after x r → after ≡ take 6 (bs ++ f x ∷ [])
  six-more (Ok done) (room, is) =
      let long = length-take 6 bs in
      let few : length bs ≤ 6 = omega arith in
      let more : length (bs ++ f x ∷ []) ≤ 6 = omega (arith, length_push bs (f x)) in
      is ∙ ap (λ ys. ys ++ f x ∷ []) (take_all 6 bs few) ∙ sym (take_all 6 (bs ++ f x ∷ []) more)
  six-more (Err full) (past, is) =
      let long = length-take 6 bs in
      let many : 6 ≤ length bs = omega arith in
      is ∙ sym (take-append-le 6 bs (f x ∷ []) many)
