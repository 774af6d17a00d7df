use Rattle.log_store.proofs.Marking.{latest_counts, tidying}
use Rattle.log_store.proofs.Counting.{full_at_65}
use Rattle.log_store.proofs.worked.laws_stand.Goals as goal

pub returns : goal.returns
returns c = record { latest = latest_counts; tidying = tidying; full = full_at_65 }
