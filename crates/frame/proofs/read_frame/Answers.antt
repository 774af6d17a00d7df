use Rattle.std.proofs.Common.{rules}
use Rattle.record.specs.declared.kind.Kind.TheVariants.{Request, Share, Proof, Reading}
use Rattle.frame.proofs.read_frame.Goals as goal

-- a byte that no kind has begins a frame of no kind
pub returns-in_default-try_from-clause-read : goal.returns-in_default-try_from-clause-read
returns-in_default-try_from-clause-read c =
    let no = c.in_default-try_from.ensures in (
      λ k. absurd (no Request (search (rules, k, c.in-Some.ensures))),
      λ k. absurd (no Share (search (rules, k, c.in-Some.ensures))),
      λ k. absurd (no Proof (search (rules, k, c.in-Some.ensures))),
      λ k. absurd (no Reading (search (rules, k, c.in-Some.ensures))),
      λ a b d e. c.malformed-in_default-try_from.ensures,
    )
