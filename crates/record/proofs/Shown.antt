-- The records that marks show, where each lies in the frame.
use Rattle.std.proofs.Common.{◌≡◌, ℕ, zero, suc, List, [], ◌∷◌, map, Some, Option, refl, ap, ◌∙◌}
use Rattle.std.specs.List.{slice_get, AllByRecursion}
use Rattle.std.specs.Option.{option_and_then}
use Rattle.record.specs.Shown.{before, shown}

module _ {M B : Type 0} (view : List ℕ → M → Option B) (body : M → B) (bs : List ℕ) where
  -- each mark that lies in the frame shows its record, so its place does
  pub found-each : (Lies : M → Type 0) → ((m : M) → Lies m → view bs m ≡ Some (body m)) → (ms : List M) → AllByRecursion Lies ms → (i : ℕ) → option_and_then (view bs) (slice_get ms i) ≡ slice_get (map body ms) i
  found-each Lies see [] h zero = refl
  found-each Lies see [] h (suc i) = refl
  found-each Lies see (m ∷ ms) h zero = see m h.0
  found-each Lies see (m ∷ ms) h (suc i) = found-each Lies see ms h.1 i

  -- each place shows its record, so one behind the other shows all
  pub shown-all : (ms : List M) → ((i : ℕ) → option_and_then (view bs) (slice_get ms i) ≡ slice_get (map body ms) i) → shown view bs ms ≡ map body ms
  shown-all [] h = refl
  shown-all (m ∷ ms) h = ap (λ o. before o (shown view bs ms)) (h 0) ∙ ap (λ l. body m ∷ l) (shown-all ms (λ i. h (suc i)))

-- what the records hold, without their offsets
pub bodies : {M B : Type 0} (body : M → B) (place : M → ℕ) (ms : List M) → map (λ (v : B × ℕ). v.0) (map (λ m. (body m, place m)) ms) ≡ map body ms
bodies body place [] = refl
bodies body place (m ∷ ms) = ap (λ l. body m ∷ l) (bodies body place ms)
