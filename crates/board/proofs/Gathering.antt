-- Turns of the loops over the versions of a proof.
use Rattle.std.proofs.Common.{◌≡◌, ℕ, suc, ◌+◌, ◌-◌, ◌<◌, ◌≤◌, ltb, List, [], ◌∷◌, ◌++◌, map, length, take, set, Ok, Err, Result, sym, refl, ap, ◌∙◌, arith}
use Rattle.std.specs.List.{range_with_len, flat_map}
use Rattle.std.proofs.lemmas.List.FromFn.{map-range_with_len_more}
use Rattle.std.proofs.lemmas.List.{flat_map_more, length-append, map_push, take_more_set}
use Rattle.std.proofs.lemmas.Bool.{le-ltb, lt-ltb}
use Rattle.fault.specs.declared.Cause.TheVariants.{Unsealed}
use Rattle.fault.specs.declared.Fault.{Fault}
use Rattle.fault.specs.declared.Layer.TheVariants.{Board}
use Rattle.fault.specs.Codes.{fault}
use Rattle.record.specs.Chains.{tested}
use Rattle.record.proofs.Steps.{pass, refuse}
use Rattle.entry.specs.declared.parts.SealedEntry.{SealedEntry}
use Rattle.entry.specs.Bodies.{sealed_body, sealed_bytes}
use Rattle.window.specs.declared.ring.Window.{Window}
use Rattle.window.specs.Windows.{shares_in}
use Rattle.board.specs.Proofs.{sealed_in, sealed_row}

-- the rows of the versions from v on, as far as the last
module _ (w : Window) (f v last : ℕ) where
  abbrev rows_left : Result (Unit {0}) Fault
  rows_left = tested (map (sealed_row w f) (range_with_len v (last - v)))

  abbrev rows_behind : Result (Unit {0}) Fault
  rows_behind = tested (map (sealed_row w f) (range_with_len (v + 1) (last - (v + 1))))

  rows_next : v < last → rows_left ≡ tested (map (sealed_row w f) (v ∷ range_with_len (v + 1) (last - (v + 1))))
  rows_next lt = let more : last - v ≡ suc (last - (v + 1)) = omega arith in ap (λ n. tested (map (sealed_row w f) (range_with_len v n))) more

  pub unsealed_here : v < last → shares_in w v ≤ f → rows_left ≡ Err (fault Unsealed Board v)
  unsealed_here lt few = rows_next lt ∙ refuse (ltb f (shares_in w v)) (fault Unsealed Board v) rows_behind (le-ltb f (shares_in w v) few)

  pub sealed_here : v < last → f < shares_in w v → rows_left ≡ rows_behind
  sealed_here lt many = rows_next lt ∙ pass (ltb f (shares_in w v)) (fault Unsealed Board v) rows_behind (lt-ltb f (shares_in w v) many)

  pub all_sealed : last ≤ v → rows_left ≡ Ok tt
  all_sealed le = let none : last - v ≡ 0 = omega arith in ap (λ n. tested (map (sealed_row w f) (range_with_len v n))) none

-- one entry more in front of a list
module _ (w : Window) (first i : ℕ) (s : SealedEntry) (is : sealed_body s ≡ sealed_in w (first + i)) where
  pub gathered-more : (es : List SealedEntry) → i < length es → map sealed_body (take i es) ≡ map (sealed_in w) (range_with_len first i)
      → map sealed_body (take (i + 1) (set es i s)) ≡ map (sealed_in w) (range_with_len first (i + 1))
  gathered-more es lt before =
      ap (map sealed_body) (take_more_set es i s lt) ∙ map_push sealed_body (take i es) s
      ∙ (λ t. before t ++ is t ∷ [])
      ∙ sym (map-range_with_len_more (sealed_in w) first i (first + i) refl)

  pub size_more : length (flat_map (sealed_bytes 2) (map (sealed_in w) (range_with_len first (i + 1))))
      ≡ length (flat_map (sealed_bytes 2) (map (sealed_in w) (range_with_len first i))) + length (sealed_bytes 2 (sealed_body s))
  size_more =
      let old = map (sealed_in w) (range_with_len first i) in
      ap (λ xs. length (flat_map (sealed_bytes 2) xs)) (map-range_with_len_more (sealed_in w) first i (first + i) refl)
      ∙ ap length (sym (flat_map_more (sealed_bytes 2) [] old (sealed_in w (first + i))))
      ∙ length-append (flat_map (sealed_bytes 2) old) (sealed_bytes 2 (sealed_in w (first + i)))
      ∙ ap (λ x. length (flat_map (sealed_bytes 2) old) + length (sealed_bytes 2 x)) (sym is)
