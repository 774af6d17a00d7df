use Rattle.std.proofs.Common.{◌%◌, ◌<◌, ap, ◌∙◌, arith}
use Rattle.std.proofs.lemmas.List.{get_or-replicate}
use Rattle.entry.specs.Bodies.{entry_body}
use Rattle.window.specs.Windows.{no_slot, tag_of}
use Rattle.window.specs.declared.slot.Slot.{Slot}
use Rattle.window.proofs.ring.Window.new.Goals as goal

pub returns : goal.returns
returns c = record {
  entries = λ v. let lt : v % 32 < 32 = omega arith in
      ap (λ (s : Slot). entry_body s.entry) (get_or-replicate 32 (v % 32) c.new-none.result no_slot lt) ∙ ap entry_body c.new-none.ensures.entry ∙ c.in-Some.ensures;
  shares = λ v s. let lt : v % 32 < 32 = omega arith in
      ap (λ (slot : Slot). tag_of slot s) (get_or-replicate 32 (v % 32) c.new-none.result no_slot lt) ∙ c.new-none.ensures.none s;
}
