-- Events: calls on a board with their answers. A history is the list of a board's events since it was made, refused calls too.
use Rattle.std.specs.Prelude.{ℕ, List, map, Ok, Err, Result}
use Rattle.fault.specs.declared.Fault.{Fault}
use Rattle.fault.specs.declared.Verdict.{Verdict}
use Rattle.fault.specs.declared.Verdict.TheVariants.{Abort, Commit}
use Rattle.fault.specs.declared.Layer.TheVariants.{Frame}
use Rattle.decision.specs.Decisions.{verdict_of}
use Rattle.store.specs.Slot.{Slot}
use Rattle.entry.specs.Bodies.{PairBody}
use Rattle.record.specs.Formats.{formed}
use Rattle.request.specs.Bodies.{RequestBody, WriteBody, read_request}
use Rattle.share.specs.Shares.{ShareBody, share_format}
use Rattle.history.specs.declared.Delivery.{Delivery}

-- the bytes of a version, a commit count or a sequence number
abbrev pub width : ℕ
width = 2

-- A delivery and a share in hold the frame's bytes; a share out and a proof the buffer before and after the call.
pub data Event : Type 0 where
  delivered : (frame : List ℕ) → Result Delivery Fault → Event
  asked : (item : ℕ) → Result Slot Fault → Event
  marked : (count : ℕ) → (chain : List ℕ) → Event
  shared_out : (version : ℕ) → (before after : List ℕ) → Result ℕ Fault → Event
  shared_in : (frame : List ℕ) → Result ℕ Fault → Event
  proved : (low high : ℕ) → (before after : List ℕ) → Result ℕ Fault → Event

-- What an event does to a board: a commit or an abort uses up a client's number, a commit has writes, a share joins an entry.
pub data Effect : Type 0 where
  commit : (client number : ℕ) → (writes : List WriteBody) → Effect
  abort : (client number : ℕ) → Effect
  share : (version : ℕ) → PairBody → Effect
  nothing : Effect

-- the effect of a verdict on the request that a frame holds
abbrev pub verdict_effect : Result RequestBody Fault → Verdict → Effect
verdict_effect (Ok b) Commit = commit b.client b.sequence b.writes
verdict_effect (Ok b) Abort = abort b.client b.sequence
verdict_effect (Err e) verdict = nothing

-- the effect of taking the share that a frame holds
abbrev pub share_effect : Result ShareBody Fault → Effect
share_effect (Ok s) = share s.version (record { signer = s.signer; tag = s.tag })
share_effect (Err e) = nothing

abbrev pub effect : Event → Effect
effect (delivered frame (Ok d)) = verdict_effect (read_request width frame) (verdict_of d.decision)
effect (delivered frame (Err e)) = nothing
effect (asked item r) = nothing
effect (marked count chain) = nothing
effect (shared_out version before after r) = nothing
effect (shared_in frame (Ok n)) = share_effect (formed Frame (share_format width) frame)
effect (shared_in frame (Err e)) = nothing
effect (proved low high before after r) = nothing

-- the effects of a history, oldest first
abbrev pub effects : List Event → List Effect
effects h = map effect h
