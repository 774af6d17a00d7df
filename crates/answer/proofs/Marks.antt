-- What `==` of two marks says.
use Rattle.std.proofs.Common.{◌≡◌, Bool, ◌&&◌, eqb, Decides, sym, refl, subst}
use Rattle.std.proofs.lemmas.Bool.Decides.{Decides-and, Decides-eqb}
use Rattle.std.proofs.lemmas.Slice.Eq.{slice_eq-Decides}
use Rattle.std.specs.Cmp.Lexicographic.{pointwise}
use Rattle.answer.specs.declared.mark.Mark.{Mark}

pub same_mark : (a b : Mark) (r : Bool) → r ≡ (eqb a.count b.count && pointwise eqb a.chain b.chain) → Decides r ((a.count ≡ b.count) × (a.chain ≡ b.chain))
same_mark a b r is =
    subst (λ x. Decides x ((a.count ≡ b.count) × (a.chain ≡ b.chain))) (sym is)
    (Decides-and _ _ (Decides-eqb a.count b.count) (slice_eq-Decides Decides-eqb a.chain b.chain _ refl))
