use Rattle.std.proofs.Common.{refl}
use Rattle.sha256.specs.Constants.{primes}
use Rattle.sha256.proofs.Schedule.{schedule_start, schedule_next}
use Rattle.sha256.proofs.Joined.{length-SHA256}
use Rattle.sha256.proofs.Padded.{room, fewest, parses}
use Rattle.sha256.proofs.message.follows_standard.Goals as goal

pub returns : goal.returns
unfolding primes
returns c = record { primes = (refl, refl, refl); schedules = λ b. (schedule_start b, schedule_next b); pads = λ n. (room n, fewest n); parses = parses; digests = length-SHA256 }
