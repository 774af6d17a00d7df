-- What is kept of a line while it comes in.
use Rattle.std.specs.Prelude.{ℕ, List}
use Rattle.inline_vec.specs.Lists.{items}
use Rattle.lines.specs.declared.gather.Gather.{Gather}

-- the bytes gathered
abbrev pub gathered : Gather → List ℕ
gathered g = items g.kept
