use Rattle.reader.proofs.Exampling.{accepted_and_refused}
use Rattle.reader.proofs.worked.accepted_and_refused.Goals as goal

pub returns : goal.returns
returns c = accepted_and_refused
