-- What a list of fixed memory holds.
use Rattle.std.specs.Prelude.{◌≡◌, Bool, cond, List, [], ◌∷◌, take}
use Rattle.inline_vec.specs.declared.InlineVec.{InlineVec}

-- the values in their order
abbrev pub items : {T : Type 0} {n : _} → InlineVec T n → List T
items v = take v.len v.places

-- The values that a test accepts, in order. It is told of each value and of all that stand behind it.
abbrev pub KeepsByRest : {T : Type 0} → (T → List T → Bool → Type 0) → List T → List T → Type 0
KeepsByRest says [] ys = ys ≡ []
KeepsByRest {T} says (x ∷ xs) ys = (b : Bool) × says x xs b × ((zs : List T) × KeepsByRest says xs zs × (ys ≡ cond b (x ∷ zs) zs))
