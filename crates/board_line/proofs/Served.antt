-- From a call's promise to the answer of a line.
use Rattle.std.proofs.Common.{◌≡◌, ℕ, List, Ok, Err, Result}
use Rattle.fault.specs.declared.Fault.{Fault}
use Rattle.history.specs.declared.Delivery.{Delivery}
use Rattle.history.specs.Events.{delivered, shared_in}
use Rattle.board.specs.Delivering.{KeptOnRefusal}
use Rattle.board.specs.Shares.{Refusal}
use Rattle.board_line.specs.Answers.{Changes}

-- a refused delivery changes nothing
pub delivered-changes : {B : Type 0} (before after : B) (frame : List ℕ) (r : Result Delivery Fault) → KeptOnRefusal before after r → Changes before after (delivered frame r)
delivered-changes before after frame (Ok d) kept = tt
delivered-changes before after frame (Err f) kept = kept

-- a refused share changes nothing
pub shared_changes : {B : Type 0} (before after : B) (frame : List ℕ) (r : Result ℕ Fault) → Refusal r (after ≡ before) → Changes before after (shared_in frame r)
shared_changes before after frame (Ok n) kept = tt
shared_changes before after frame (Err f) kept = kept
