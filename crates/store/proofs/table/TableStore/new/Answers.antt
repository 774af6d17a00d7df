use Rattle.std.proofs.Common.{ap, ◌∙◌}
use Rattle.std.proofs.lemmas.List.{get_or-replicate}
use Rattle.store.specs.Rows.{no_row}
use Rattle.store.specs.Slot.{slot}
use Rattle.store.proofs.table.TableStore.new.Goals as goal

pub returns : goal.returns
returns c k h = ap slot (get_or-replicate 64 k _ no_row h) ∙ c.blank-row.ensures
