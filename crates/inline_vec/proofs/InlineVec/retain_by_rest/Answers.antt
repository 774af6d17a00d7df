use Rattle.std.proofs.Common.{◌≡◌, ◌+◌, ◌<◌, Bool, true, false, List, length, get_or, take, drop, set, sym, ap, ◌∙◌, subst, arith}
use lib.Seq.{take-set-lt}
use Rattle.std.proofs.lemmas.List.{get_or-take, length-take-le, take-take}
use Rattle.std.proofs.lemmas.Slice.{between_is}
use Rattle.inline_vec.specs.Lists.{KeepsByRest}
use Rattle.inline_vec.specs.declared.InlineVec.{InlineVec}
use Rattle.inline_vec.proofs.Keeping.{Keeping, keeping_drop, keeping_keep, keeping_all, told_of}
use Rattle.inline_vec.proofs.InlineVec.retain_by_rest.Goals as goal
use Rattle.inline_vec.proofs.InlineVec.retain_by_rest.Goals.{then-keeps, else-keeps}

pub loop-i-preserved : goal.loop-i-preserved
loop-i-preserved g c =
    let T = g.row.T.Denot in
    let len = c.args.self.now.len in
    let within = c.args.self.now.within in
    let i = c.loop-i.i in
    let w = c.loop-i.kept in
    let places = c.loop-i.self.places in
    let whole = c.loop-i.self.whole in
    let xs = take len c.args.self.now.places in
    let ys = take len places in
    let x : T = get_or places i c.index-self-i.result in
    let says : T → List T → Bool → Type 0 = g.K.RestTest.told c.args.test.now in
    let m : Keeping says xs ys w i = c.loop-i.invariant in
    let behind = m.behind in
    let below = c.loop-i-test.true in
    let long : length ys ≡ len = length-take-le len places (omega arith) in
    let lt : i < length ys = omega arith in
    let is : x ≡ get_or ys i x = ap (λ (d : T). get_or places i d) c.index-self-i.is ∙ sym (get_or-take len places i x below) in
    elim c.if-keeps.branch [
      | then-keeps v ↦
          let moved : take len c.if-keeps.self.places ≡ set ys w x = ap (λ (s : InlineVec T g.row.N). take len s.places) v.self-is ∙ take-set-lt len places w x (omega arith) in
          subst (λ (l : List T). Keeping says xs l c.if-keeps.kept (i + 1)) (sym moved)
          (subst (λ k. Keeping says xs (set ys w x) k (i + 1)) (sym v.kept-is)
          (keeping_keep says xs ys w i m x lt is (told_of says x _ (drop (i + 1) ys) true c.keeps.result c.keeps.ensures (between_is places (i + 1) len) v.if-keeps.true)))
      | else-keeps v ↦
          subst (λ (s : InlineVec T g.row.N). Keeping says xs (take len s.places) c.if-keeps.kept (i + 1)) (sym v.self-is)
          (subst (λ k. Keeping says xs ys k (i + 1)) (sym v.kept-is)
          (keeping_drop says xs ys w i m x lt is (told_of says x _ (drop (i + 1) ys) false c.keeps.result c.keeps.ensures (between_is places (i + 1) len) v.if-keeps.false)))
    ]

pub returns : goal.returns
returns g c =
    let len = c.args.self.now.len in
    let within = c.args.self.now.within in
    let places = c.loop-i.self.places in
    let whole = c.loop-i.self.whole in
    let m = c.loop-i.invariant in
    let behind = m.behind in
    let most = c.loop-i.auto.i-end in
    let done = c.loop-i-test.false in
    let long : length (take len places) ≡ len = length-take-le len places (omega arith) in
    subst (KeepsByRest _ _) (take-take c.loop-i.kept len places (omega arith)) (keeping_all _ _ _ _ c.loop-i.i m (omega arith))
