use Rattle.std.proofs.Common.{take, ap, ◌∙◌, arith}
use Rattle.std.proofs.lemmas.List.{take_all}
use Rattle.entry.specs.Bodies.{SealedBody, entry_body}
use Rattle.window.specs.Shares.{pairs_of}
use Rattle.window.specs.Windows.{pairs_in, tag_in, tag_of}
use Rattle.window.specs.declared.slot.Slot.{Slot}
use Rattle.window.proofs.ShareLaws.{length_pairs, pairs-rise}
use Rattle.window.proofs.ring.Window.sealed.Goals as goal

pub returns : goal.returns
returns c =
    let w = c.args.self.now in
    let v = c.args.version in
    let said : Slot → SealedBody = λ s. record { entry = entry_body s.entry; pairs = take 6 (pairs_of (tag_of s)) } in
    let six = c.sealed.ensures ∙ ap said c.slot.ensures in
    record {
      six = six;
      all = λ few. ap (λ (b : SealedBody). b.pairs) six ∙ take_all 6 (pairs_in w v) (omega (arith, length_pairs (tag_in w v) 16));
      rise = pairs-rise (tag_in w v) 16;
    }
