-- Where the parts of a proof end, as its reader finds them.
use Rattle.std.specs.Prelude.{ℕ, List, Ok, Option, Result}
use Rattle.fault.specs.declared.Fault.{Fault}
use Rattle.fault.specs.declared.Layer.TheVariants.{Proof}
use Rattle.octets.specs.Numbers.{limit}
use Rattle.record.specs.Formats.{is, within}
use Rattle.ruled.specs.Ruled.{Ruled, numeral, end, free, scan}
use Rattle.proof.specs.declared.range.Range.{Range}
use Rattle.proof.specs.Bodies.{range}
use Rattle.proof.specs.Rules.{records_from}

-- the place behind what stands at a place
abbrev pub end_of : {A : Type 0} → Ruled A → List ℕ → ℕ → Result ℕ Fault
end_of c bs at = scan Proof c (λ a e. Ok e) bs at

-- records of which only the places are kept
abbrev pub records_to : ℕ → ℕ → Option ℕ → ℕ → Option ℕ → Ruled (List (Unit {0}))
records_to top size asked n last = records_from (λ k s. tt) top size asked n last

-- the count of writes behind the version that is due
abbrev pub count_of : ℕ → ℕ → List ℕ → ℕ → Result ℕ Fault
count_of w due bs at = scan Proof (numeral w (is due) free (λ version. numeral 1 (within 1 8) free (λ count. end count))) (λ n e. Ok n) bs at

-- low and high, from the front
abbrev pub range_of : ℕ → List ℕ → Result Range Fault
range_of w bs =
    scan Proof (numeral 1 (is 4) free (λ kind. numeral w (within 1 (limit w)) free (λ low. numeral w (range low) free (λ high. end (record { low = low; high = high })))))
    (λ g e. Ok g) bs 0
