use Rattle.history.specs.Events.{effects}
use Rattle.history.proofs.Determined.{deliver_determined}
use Rattle.promises.proofs.marks.deliver_both.Goals as goal

pub returns : goal.returns
returns g c = record {
  alike = λ tag f f' own other h k st st' same.
      deliver_determined _ tag f f' own other (effects h) (effects k) c.args.frame.now _ _ same (c.deliver-mine.ensures.history tag f own h st).0
      (c.deliver-theirs.ensures.history tag f' other k st').0;
  first = c.deliver-mine.ensures.history;
  second = c.deliver-theirs.ensures.history;
}
