use Rattle.std.proofs.Common.{sym, ap, ◌∙◌, arith}
use Rattle.window.specs.Shares.{shares_of}
use Rattle.window.specs.Windows.{tag_in, tag_of}
use Rattle.window.specs.declared.slot.Slot.{Slot}
use Rattle.window.proofs.ShareLaws.{length_pairs, shares-le}
use Rattle.window.proofs.ring.Window.shares.Goals as goal

pub returns : goal.returns
returns c =
    let tag = tag_in c.args.self.now c.args.version in
    let count = c.shares.ensures ∙ ap (λ (s : Slot). shares_of (tag_of s)) c.slot.ensures in
    record {
      count = count;
      pairs = count ∙ sym (length_pairs tag 16);
      few = omega (arith, count, shares-le tag 16);
    }
