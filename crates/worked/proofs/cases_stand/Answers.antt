use Rattle.log_store.proofs.Counting.{full_at_65}
use Rattle.worked.proofs.Requesting.{requests_occur}
use Rattle.worked.proofs.Measuring.{fnv, hmac, sha, sip}
use Rattle.worked.proofs.Sizing.{proof_sizes, request_sizes}
use Rattle.worked.proofs.Occurring.{commits_occur}
use Rattle.worked.proofs.Evicting.{evicted-after_33}
use Rattle.worked.proofs.Judging.{client-numbers, reads-of-five}
use Rattle.worked.proofs.Mixing.{mixed-is_stale}
use Rattle.worked.proofs.Replying.{session_cases}
use Rattle.worked.proofs.Filling.{logs_occur}
use Rattle.worked.proofs.cases_stand.Goals as goal

pub returns : goal.returns
returns c = record {
  requests = request_sizes;
  proofs = proof_sizes;
  boards = λ digest tag f own sized sealed. record {
    requests = requests_occur tag sealed;
    commits = commits_occur digest tag f own sized sealed;
    evicted = evicted-after_33 digest tag f own sized sealed;
    reads = reads-of-five digest tag f own sized sealed;
    numbers = client-numbers digest tag f own sized sealed;
  };
  fnv = fnv;
  sha = sha;
  sip = sip;
  hmac = hmac;
  readings = mixed-is_stale;
  sessions = session_cases;
  logs = full_at_65;
  logs_occur = logs_occur;
}
