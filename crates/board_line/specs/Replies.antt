-- The bytes of an answer.
use Rattle.std.specs.Prelude.{ℕ, List, [], ◌∷◌, ◌++◌, take, unwrap_or, Ok}
use Rattle.fault.specs.Codes.{verdict_byte}
use Rattle.decision.specs.Decisions.{verdict_of, version_of}
use Rattle.history.specs.declared.Delivery.{Delivery}
use Rattle.history.specs.Events.{Event, asked, delivered, marked, proved, shared_in, shared_out}
use Rattle.lines.specs.Replies.{item_bytes, mark_bytes, reply, wire}

-- verdict, version and number opened; 0 stands for no version and for no number
abbrev pub delivery_bytes : Delivery → List ℕ
delivery_bytes d = verdict_byte (verdict_of d.decision) ∷ wire (unwrap_or (version_of d.decision) 0) ++ wire (unwrap_or d.opened 0)

-- the count of an entry's shares
abbrev pub count_bytes : ℕ → List ℕ
count_bytes n = n ∷ []

-- the bytes of an event's answer; a share and a proof are the first bytes that the call left in its buffer
abbrev pub event_bytes : Event → List ℕ
event_bytes (delivered frame r) = reply delivery_bytes r
event_bytes (asked item r) = reply item_bytes r
event_bytes (marked count chain) = reply (mark_bytes count) (Ok chain)
event_bytes (shared_out version before after r) = reply (λ n. take n after) r
event_bytes (shared_in frame r) = reply count_bytes r
event_bytes (proved low high before after r) = reply (λ n. take n after) r
