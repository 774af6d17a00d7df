-- How many bytes records take that are all of one size.
use Rattle.std.proofs.Common.{◌≡◌, ℕ, ◌*◌, List, [], ◌∷◌, ◌++◌, map, length, sym, refl, ap, ◌∙◌, mul-zero, mul-suc, arith}
use Rattle.std.specs.List.{flat_map}
use Rattle.std.proofs.lemmas.List.{length-append}

module _ {X B : Type 0} (body : X → B) (bytes : B → List ℕ) where
  pub joined-map : (xs : List X) → flat_map (λ x. bytes (body x)) xs ≡ flat_map bytes (map body xs)
  joined-map [] = refl
  joined-map (x ∷ xs) = ap (λ l. bytes (body x) ++ l) (joined-map xs)

  pub even_length : (k : ℕ) → ((x : X) → length (bytes (body x)) ≡ k) → (xs : List X) → length (flat_map bytes (map body xs)) ≡ k * length xs
  even_length k even [] = sym (mul-zero k)
  even_length k even (x ∷ xs) = length-append (bytes (body x)) (flat_map bytes (map body xs)) ∙ omega (arith, even x, even_length k even xs, mul-suc k (length xs))
