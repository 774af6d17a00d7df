use Rattle.std.proofs.Common.{◌≡◌, ℕ, ◌<◌, ◌≤◌, [], ◌∷◌, ◌++◌, length, take, Ok, Err, Result, IsOk, OnOk, OnErr, ◌↔◌, refl, sym, ap, ◌∙◌, arith, length-append, length-take}
use Rattle.std.proofs.lemmas.List.{take_all, take-append-le}
use Rattle.inline_vec.specs.declared.calls.Full.{Full}
use Rattle.inline_vec.specs.declared.InlineVec.{InlineVec}
use Rattle.inline_vec.specs.Lists.{items}
use Rattle.lines.proofs.gather.Gather.push.Goals as goal

-- a list that is full keeps its first values, which are those of the longer line
kept_first : (b : ℕ) (old new : InlineVec ℕ 1709) (r : Result (Unit {0}) Full) → length (items old) ≤ 1709
    → IsOk r ↔ (length (items old) < 1709) → OnOk r (items new ≡ items old ++ b ∷ []) → OnErr r (new ≡ old)
    → items new ≡ take 1709 (items old ++ b ∷ [])
kept_first b old new (Ok u) within fits ok err =
    let few : length (items old ++ b ∷ []) ≤ 1709 = omega (arith, fits.0 refl, length-append (items old) (b ∷ [])) in
    ok ∙ sym (take_all 1709 (items old ++ b ∷ []) few)
kept_first b old new (Err e) within fits ok err =
    let many : 1709 ≤ length (items old) = grind (arith, fits.1) in
    ap items err ∙ sym (take-append-le 1709 (items old) (b ∷ []) many ∙ take_all 1709 (items old) within)

pub returns : goal.returns
returns c = kept_first c.args.b c.args.self.now.kept c.push.new.self c.push.result (simp length-take (omega arith)) c.push.ensures.variant c.push.ensures.ok c.push.ensures.err
