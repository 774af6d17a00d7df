-- One piece behind the others, in a buffer.
use Rattle.std.proofs.Common.{◌≡◌, ℕ, ◌+◌, ◌-◌, ◌<◌, List, [], ◌∷◌, ◌++◌, length, get_or, take, drop, sym, ap, ◌∙◌, subst, arith}
use borrow.Rule.Slice.PartMut.{put_mid}
use Rattle.std.specs.List.{flat_map, AllByRecursion}
use Rattle.std.proofs.lemmas.List.{append_assoc, append-nil, length-append, length-drop, take_at, drop_at, take_rest, take_more, drop_more, drop-drop, drop_all, flat_map_more}
use Rattle.octets.specs.Parts.{over}

-- the rest of a buffer, lent from its middle and given back as `last`
pub put_behind : (done bs old now last : List ℕ) (at : ℕ) → at ≡ length done → now ≡ over done old → last ≡ over bs (take (length now - at) (drop at now)) → put_mid at (length now - at) now last ≡ over (done ++ bs) old
put_behind done bs old now last at e n l =
    let rest = drop (length done) old in
    let front : take at now ≡ done = ap (take at) n ∙ take_at done rest at (sym e) in
    let back : drop at now ≡ rest = ap (drop at) n ∙ drop_at done rest at (sym e) in
    let part : take (length now - at) (drop at now) ≡ rest = take_rest now at ∙ back in
    let none : drop (length now - at) (drop at now) ≡ [] = drop_all (length now - at) (drop at now) (rw length-drop (omega arith)) in
    let long : length done + length bs ≡ length (done ++ bs) = sym (length-append done bs) in
    (λ i. front i ++ (l i ++ none i))
    ∙ ap (λ x. done ++ x) (append-nil (over bs (take (length now - at) (drop at now))) ∙ ap (over bs) part ∙ ap (λ x. bs ++ x) (drop-drop (length bs) (length done) old ∙ ap (λ k. drop k old) long))
    ∙ sym (append_assoc done bs (drop (length (done ++ bs)) old))

module _ {P : Type 0} (bytes : P → List ℕ) (xs : List P) (i : ℕ) (x : P) (within : i < length xs) (is : x ≡ get_or xs i x) where
  pub front_more : flat_map bytes (take (i + 1) xs) ≡ flat_map bytes (take i xs) ++ bytes x
  front_more = ap (flat_map bytes) (take_more xs i x within) ∙ sym (flat_map_more bytes [] (take i xs) (get_or xs i x)) ∙ ap (λ y. flat_map bytes (take i xs) ++ bytes y) (sym is)

  pub rest_more : flat_map bytes (drop i xs) ≡ bytes x ++ flat_map bytes (drop (i + 1) xs)
  rest_more = ap (flat_map bytes) (drop_more xs i x within) ∙ ap (λ y. bytes y ++ flat_map bytes (drop (i + 1) xs)) (sym is)

  pub rest-length : length (flat_map bytes (drop i xs)) ≡ length (bytes x) + length (flat_map bytes (drop (i + 1) xs))
  rest-length = ap length rest_more ∙ length-append (bytes x) (flat_map bytes (drop (i + 1) xs))

  pub every_more : (ok : P → Type 0) → AllByRecursion ok (drop i xs) → ok x × AllByRecursion ok (drop (i + 1) xs)
  every_more ok h = subst (λ y. ok y × AllByRecursion ok (drop (i + 1) xs)) (sym is) (subst (AllByRecursion ok) (drop_more xs i x within) h)

pub every_unit : {P : Type 0} (xs : List P) → AllByRecursion (λ _. Unit {0}) xs
every_unit [] = tt
every_unit (x ∷ xs) = (tt, every_unit xs)
