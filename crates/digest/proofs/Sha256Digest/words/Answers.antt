use Rattle.std.proofs.Common.{ap, ◌∙◌}
use Rattle.digest.specs.Sha.{sha_words, wide}
use Rattle.digest.proofs.Sha256Digest.words.Goals as goal

pub returns-in-Some : goal.returns-in-Some
unfolding sha_words
returns-in-Some c = (c.in-Some.ensures.0, c.pairs.ensures ∙ ap wide c.in-Some.ensures.1)
