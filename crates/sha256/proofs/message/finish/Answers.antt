use Rattle.std.proofs.Common.{ℕ, List, take, drop, ap, ◌∙◌}
use Rattle.sha256.specs.Block.{compressed}
use Rattle.sha256.proofs.Padded.{finish_short, finish_long}
use Rattle.sha256.proofs.message.finish.Goals as goal

pub returns-then-rest-lt56 : goal.returns-then-rest-lt56
returns-then-rest-lt56 c =
    c.compress.ensures
    ∙ finish_short c.args.h c.args.rest.now c.lay_end.new.last c.args.n c.requires.left c.if-rest-lt56.true
    c.lay_end.ensures

pub returns-else-rest-lt56 : goal.returns-else-rest-lt56
returns-else-rest-lt56 c =
    let last : List ℕ = c.lay_end-else-rest-lt56.new.last in
    c.compress-else-rest-lt56.ensures ∙ ap (λ (s : List ℕ). compressed s (take 64 (drop 64 last))) c.compress-s.ensures
    ∙ finish_long c.args.h c.args.rest.now last c.args.n c.requires.left c.if-rest-lt56.false
    c.lay_end-else-rest-lt56.ensures
