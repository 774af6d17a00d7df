-- A fold over two parts is a fold over both.
use Rattle.std.proofs.Common.{◌≡◌, ℕ, List, [], ◌∷◌, ◌++◌, fold, refl}
use Rattle.digest.specs.Fnv.{step, hashed}

folded-append : {A B : Type 0} (f : B → A → B) (a : B) (xs ys : List A) → fold f (fold f a xs) ys ≡ fold f a (xs ++ ys)
folded-append f a [] ys = refl
folded-append f a (x ∷ xs) ys = folded-append f (f a x) xs ys

pub hashed-append : (start : ℕ) (xs ys : List ℕ) → hashed (hashed start xs) ys ≡ hashed start (xs ++ ys)
unfolding hashed
hashed-append start xs ys = folded-append step start xs ys
