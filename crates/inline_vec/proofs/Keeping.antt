-- A loop that moves the values that it keeps to the front.
use Rattle.std.proofs.Common.{◌≡◌, ℕ, ◌+◌, ◌<◌, ◌≤◌, Bool, true, false, List, [], ◌∷◌, ◌++◌, length, get_or, take, drop, set, sym, refl, ap, ◌∙◌, subst, arith}
use Rattle.std.proofs.lemmas.List.{append_assoc, append-nil, at_drop_more, at_drop_all, take_more_set, drop-set-lt}
use Rattle.inline_vec.specs.Lists.{KeepsByRest}

-- what stands in front, and what the rest still gives
pub record Keeping {T : Type 0} (says : T → List T → Bool → Type 0) (xs ys : List T) (w i : ℕ) : Type 0 where
  pub behind : w ≤ i
  pub gives : (zs : List T) → KeepsByRest says (drop i ys) zs → KeepsByRest says xs (take w ys ++ zs)

module _ {T : Type 0} (says : T → List T → Bool → Type 0) (xs ys : List T) (w i : ℕ) (k : Keeping says xs ys w i) where
  module _ (x : T) (lt : i < length ys) (is : x ≡ get_or ys i x) where
    here : drop i ys ≡ x ∷ drop (i + 1) ys
    here = at_drop_more (λ (l : List T). l) ys i x lt ∙ ap (λ y. y ∷ drop (i + 1) ys) (sym is)

    pub keeping_drop : says x (drop (i + 1) ys) false → Keeping says xs ys w (i + 1)
    keeping_drop told = record {
      behind = let b = k.behind in omega arith;
      gives = λ zs rest. k.gives zs (subst (λ l. KeepsByRest says l zs) (sym here) (false, told, (zs, rest, refl)));
    }

    pub keeping_keep : says x (drop (i + 1) ys) true → Keeping says xs (set ys w x) (w + 1) (i + 1)
    keeping_keep told =
        let b = k.behind in
        let wlt : w < length ys = omega arith in
        let wi : w < i + 1 = omega arith in
        record {
          behind = omega arith;
          gives = λ zs rest.
              let same : KeepsByRest says (drop (i + 1) ys) zs = subst (λ l. KeepsByRest says l zs) (drop-set-lt (i + 1) ys w x wi) rest in
              let all = k.gives (x ∷ zs) (subst (λ l. KeepsByRest says l (x ∷ zs)) (sym here) (true, told, (zs, same, refl))) in
              subst (KeepsByRest says xs) (sym (ap (λ l. l ++ zs) (take_more_set ys w x wlt) ∙ append_assoc (take w ys) (x ∷ []) zs)) all;
        }

  pub keeping_all : length ys ≤ i → KeepsByRest says xs (take w ys)
  keeping_all le = subst (KeepsByRest says xs) (append-nil (take w ys)) (k.gives [] (subst (λ l. KeepsByRest says l []) (sym (at_drop_all (λ (l : List T). l) ys i le)) refl))

-- what the test answered, of the values behind
pub told_of : {T : Type 0} (says : T → List T → Bool → Type 0) (x : T) (q rest : List T) (b r : Bool) → says x q r → q ≡ rest → r ≡ b → says x rest b
told_of says x q rest b r told behind is = subst (λ l. says x l b) behind (subst (says x q) is told)
