-- The numbers, letters and bytes by which refusals and verdicts are written, one definition over all cases each.
use Rattle.std.specs.Prelude.{ℕ}
use Rattle.fault.specs.declared.Cause.{Cause}
use Rattle.fault.specs.declared.Cause.TheVariants.{Malformed, NotRising, WrongTag, Unread, NotMember, NoRoom, WrongRange, Unmatched, Stale, NotOpen, BankFull, NotCommitted, Evicted, NoShareDue, Unsealed, Settled}
use Rattle.fault.specs.declared.Layer.{Layer}
use Rattle.fault.specs.declared.Layer.TheVariants.{Frame, Proof, Seal, Board, Reader, Session}
use Rattle.fault.specs.declared.Verdict.{Verdict}
use Rattle.fault.specs.declared.Verdict.TheVariants.{Abort, Commit}
use Rattle.fault.specs.declared.Fault.{Fault}

-- the number of each cause
abbrev pub number : Cause → ℕ
number Malformed = 1
number NotRising = 2
number WrongTag = 3
number Unread = 4
number NotMember = 5
number NoRoom = 6
number WrongRange = 7
number Unmatched = 8
number Stale = 9
number NotOpen = 10
number BankFull = 11
number NotCommitted = 12
number Evicted = 13
number NoShareDue = 14
number Unsealed = 15
number Settled = 16

-- the letter of each layer, in ASCII: F P S B R C
abbrev pub letter : Layer → ℕ
letter Frame = 70
letter Proof = 80
letter Seal = 83
letter Board = 66
letter Reader = 82
letter Session = 67

-- the byte of each verdict
abbrev pub verdict_byte : Verdict → ℕ
verdict_byte Abort = 0
verdict_byte Commit = 1

-- a fault by its three parts
abbrev pub fault : Cause → Layer → ℕ → Fault
fault c l p = record { cause = c; layer = l; place = p }
