use Rattle.std.proofs.Common.{[]}
use Rattle.history.proofs.Lawfuls.{lawful-none}
use Rattle.board.proofs.Sets.{sets_none}
use Rattle.history.proofs.Backs.{back_none}
use Rattle.promises.proofs.runs.run_new.Goals as goal

pub returns : goal.returns
returns g c = c.run-count.ensures _ _ _ [] c.new-board.ensures sets_none (lawful-none _ _ _ _ []) (back_none _ _ _ _ [])
