-- Records of one size behind each other: how long they are, and what stands behind the first of them.
use Rattle.std.proofs.Common.{◌≡◌, ℕ, zero, suc, ◌+◌, ◌*◌, ◌≤◌, List, [], ◌∷◌, ◌++◌, length, drop, sym, refl, ap, ◌∙◌, le_of_suc-le-suc, not-suc-le-zero, mul-zero, mul-suc, arith}
use Rattle.std.specs.List.{flat_map, AllByRecursion}
use Rattle.std.proofs.lemmas.List.{length-append, drop-drop, drop_at}
use Rattle.proof.proofs.Records.{piece_bytes}

module _ {R : Type 0} (key : R → ℕ) (body : R → List ℕ) (size : ℕ) (In : R → Type 0) (sized : (x : R) → In x → length (body x) ≡ size) where
  abbrev bytes : R → List ℕ
  bytes = piece_bytes key body

  pub stride_length : (xs : List R) → AllByRecursion In xs → length (flat_map bytes xs) ≡ (1 + size) * length xs
  stride_length [] h = sym (mul-zero (1 + size))
  stride_length (x ∷ xs) h = length-append (bytes x) (flat_map bytes xs) ∙ omega (arith, sized x h.0, stride_length xs h.1, mul-suc (1 + size) (length xs))

  -- behind k records stand the others
  pub behind : (xs : List R) (k : ℕ) → AllByRecursion In xs → k ≤ length xs → drop ((1 + size) * k) (flat_map bytes xs) ≡ flat_map bytes (drop k xs)
  behind xs zero h inside = ap (λ n. drop n (flat_map bytes xs)) (mul-zero (1 + size))
  behind [] (suc k) h inside = absurd (not-suc-le-zero inside)
  behind (x ∷ xs) (suc k) h inside =
      let e : (1 + size) * suc k ≡ length (bytes x) + (1 + size) * k = omega (arith, mul-suc (1 + size) k, sized x h.0) in
      ap (λ n. drop n (bytes x ++ flat_map bytes xs)) e
      ∙ sym (drop-drop ((1 + size) * k) (length (bytes x)) (bytes x ++ flat_map bytes xs))
      ∙ ap (drop ((1 + size) * k)) (drop_at (bytes x) (flat_map bytes xs) (length (bytes x)) refl)
      ∙ behind xs k h.1 (le_of_suc-le-suc inside)
