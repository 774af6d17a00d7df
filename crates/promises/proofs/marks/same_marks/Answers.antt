use Rattle.answer.proofs.Marks.{same_mark}
use Rattle.promises.proofs.Comparing.{compared, sized}
use Rattle.promises.proofs.marks.same_marks.Goals as goal

pub returns : goal.returns
returns g c tag seal f f' own other h k st st' =
    compared _ _ _ _ _ _ _ (sized _ g.met.D.Digest.four) c.eq.result (c.mark.ensures.history tag f own h st).0 (c.mark-2.ensures.history seal f' other k st').0
    (same_mark c.mark.result c.mark-2.result c.eq.result c.eq.ensures)
