-- Iterators over records that stand one behind the other, and over the entries of a proof.
use Rattle.std.proofs.Common.{◌≡◌, ℕ, suc, ◌+◌, ◌-◌, ◌<◌, ◌≤◌, List, [], ◌∷◌, ◌++◌, length, get_or, take, drop, Some, None, Option, ap, ◌∙◌, subst, inl, inr, arith}
use Rattle.std.specs.Iterator.{SkipsThenYields, Yields}
use Rattle.std.specs.Option.{IfSome}
use Rattle.std.specs.List.{AllByRecursion, IsSplitAt, flat_map}
use Rattle.std.proofs.ByRecursion.{All-get_or}
use Rattle.std.proofs.lemmas.Bool.{cases_lt}
use Rattle.std.proofs.lemmas.List.{drop_all, drop_at, drop_more, length-append, take_all, take_at}
use Rattle.proof.specs.Parts.{FoundAt}
use Rattle.proof.proofs.Records.{piece_bytes}

module _ {R : Type 0} (key : R → ℕ) (body : R → List ℕ) where
  pub record OneOff (y : R) (behind one others : List ℕ) : Type 0 where
    pub number : get_or one 0 0 ≡ key y
    pub string : take (length one - 1) (drop 1 one) ≡ body y
    pub rest : others ≡ behind

-- records of one size
module _ {R : Type 0} (key : R → ℕ) (body : R → List ℕ) (size : ℕ) (In : R → Type 0) (sized : (x : R) → In x → length (body x) ≡ size) (xs : List R) (k : ℕ) (left : List ℕ) (all : AllByRecursion In xs) (is : left ≡ flat_map (piece_bytes key body) (drop k xs)) where
  module _ (d : R) (below : k < length xs) where
    first : left ≡ piece_bytes key body (get_or xs k d) ++ flat_map (piece_bytes key body) (drop (k + 1) xs)
    first = is ∙ ap (flat_map (piece_bytes key body)) (drop_more xs k d below)

    long : length (body (get_or xs k d)) ≡ size
    long = sized _ (All-get_or In xs k d below all)

    -- a record comes off: its number, its string, and the others that are left
    pub one_off : (one others : List ℕ) → IsSplitAt left (1 + size) one others → OneOff key body (get_or xs k d) (flat_map (piece_bytes key body) (drop (k + 1) xs)) one others
    one_off one others cut =
        let n : length (piece_bytes key body (get_or xs k d)) ≡ 1 + size = omega (arith, long) in
        let whole : one ≡ piece_bytes key body (get_or xs k d) = cut.1 ∙ ap (take (1 + size)) first ∙ take_at (piece_bytes key body (get_or xs k d)) _ (1 + size) n in
        record {
          number = ap (λ l. get_or l 0 0) whole;
          string = ap (λ l. take (length l - 1) (drop 1 l)) whole ∙ take_all _ _ (omega arith);
          rest = cut.2 ∙ ap (drop (1 + size)) first ∙ drop_at (piece_bytes key body (get_or xs k d)) _ (1 + size) n;
        }

    enough : 1 + size ≤ length left
    enough = omega (arith, ap length first, length-append (piece_bytes key body (get_or xs k d)) (flat_map (piece_bytes key body) (drop (k + 1) xs)), long)

  -- where the bytes are too few no record is left, else one is
  pub none_left : length left < 1 + size → length xs ≤ k
  none_left short = elim (cases_lt k (length xs)) [ inl below ↦ absurd (omega (arith, short, enough (one xs below) below)) | inr past ↦ past ]
    where
      one : (ys : List R) → k < length ys → R
      one [] below = absurd (omega (arith, below))
      one (y ∷ ys) below = y

  pub one_left : 1 + size ≤ length left → k < length xs
  one_left room = elim (cases_lt k (length xs)) [
    | inl below ↦ below
    | inr past ↦ absurd (omega (arith, room, ap length (is ∙ ap (flat_map (piece_bytes key body)) (drop_all k xs past))))
  ]

-- an iterator that stands before each place of a list in turn; it is known of places that are near
module _ {S X B : Type 0} (steps : S → Option X → S → Type 0) (Before : ℕ → S → Type 0) (Has : ℕ → X → B → Type 0) (Near : ℕ → Type 0) (bs : List B)
    (turn : (k : ℕ) (s t : S) (r : Option X) → Near k → Before k s → steps s r t → FoundAt (Has k) bs k r × IfSome r (λ _. Before (k + 1) t)) where
  stands : (xs : List X) (s t : S) (k : ℕ) → ((j : ℕ) → j < k + length xs → j ≤ length bs → Near j) → k ≤ length bs → Before k s → Yields steps s xs t → Before (k + length xs) t
  stands [] s t k near inside before e = let same : k ≡ k + 0 = omega arith in subst (λ u. Before (k + 0) u) e (subst (λ n. Before n s) same before)
  stands (x ∷ xs) s t k near inside before (j, one, more) =
      let next : k + 1 + length xs ≡ k + suc (length xs) = omega arith in
      let here = turn k s j (Some x) (near k (omega arith) inside) before one in
      subst (λ n. Before n t) next (stands xs j t (k + 1) (λ i lt le. near i (omega (arith, lt)) le) (omega (arith, here.0.0)) here.1 more)

  -- behind the things that came it stands before the next
  pub passed : (xs : List X) (s t : S) → ((j : ℕ) → j < length xs → j ≤ length bs → Near j) → Before 0 s → Yields steps s xs t → Before (length xs) t
  passed xs s t near before e =
      let same : 0 + length xs ≡ length xs = omega arith in
      subst (λ n. Before n t) same (stands xs s t 0 (λ j lt le. near j (omega (arith, lt)) le) (omega arith) before e)

  -- what comes behind n others, or none, is what stands at n
  pub nth_found : (s u : S) (n : ℕ) (r : Option X) → ((j : ℕ) → j ≤ n → Near j) → Before 0 s → SkipsThenYields steps s n r u → FoundAt (Has n) bs n r
  nth_found s u n (Some x) near before (xs, (t, e, last), many) =
      subst (λ k. FoundAt (Has k) bs k (Some x)) many (turn (length xs) t u (Some x) (near (length xs) (omega (arith, many))) (passed xs s t (λ j lt le. near j (omega (arith, lt, many))) before e) last).0
  nth_found s u n None near before (xs, (t, e, last), many) =
      omega (arith, many, (turn (length xs) t u None (near (length xs) many) (passed xs s t (λ j lt le. near j (omega (arith, lt, many))) before e) last).0)
