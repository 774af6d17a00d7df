use Rattle.std.proofs.Common.{◌∙◌}
use Rattle.sha256.proofs.Padded.{end-laid}
use Rattle.sha256.proofs.message.lay_end.Goals as goal

pub returns : goal.returns
returns c =
    end-laid c.args.rest.now c.args.last.now c.copy_from_slice.new.self c.copy_from_slice-2.new.self
    c.args.end c.args.n _ c.requires.blank c.requires.low c.requires.high c.copy_from_slice.ensures.after
    (c.copy_from_slice-2.ensures.after ∙ c.length_bytes.ensures)
