-- What the share calls do with the board as it is now.
use Rattle.std.specs.Prelude.{◌≡◌, ℕ, ◌+◌, cond, List, is_some, Ok, Err, Result, ◌==◌, nat_le, nat_lt}
use Rattle.fault.specs.declared.Fault.{Fault}
use Rattle.fault.specs.declared.Cause.TheVariants.{Evicted, Malformed, NoRoom, NoShareDue, NotCommitted, WrongTag}
use Rattle.fault.specs.declared.Layer.TheVariants.{Board, Frame, Seal}
use Rattle.fault.specs.Codes.{fault}
use Rattle.entry.specs.Bodies.{EntryBody, entry_bytes}
use Rattle.label.specs.declared.Label.TheVariants.{Entry}
use Rattle.label.specs.Labels.{labelled}
use Rattle.record.specs.Chains.{after}
use Rattle.record.specs.Formats.{written}
use Rattle.share.specs.Shares.{share_fields}
use Rattle.window.specs.declared.ring.Window.{Window}
use Rattle.window.specs.Windows.{shares_in, tag_in}
use Rattle.board.specs.declared.state.Board as board

-- a tag is made, and it is this one
abbrev pub Signed : List ℕ → Result (List ℕ) Fault → Type 0
Signed tag (Ok t) = t ≡ tag
Signed tag (Err e) = ⊥

-- a version above the last commit, or evicted, is refused
abbrev pub kept_now : ℕ → ℕ → Result (Unit {0}) Fault
kept_now count v =
    cond (nat_lt count v) (Err (fault NotCommitted Board 0))
    (cond (nat_le (v + 32) count) (Err (fault Evicted Board 0)) (Ok tt))

-- share out, by the count of commits, the version and the buffer's length
abbrev pub share_out_now : ℕ → ℕ → ℕ → Result ℕ Fault
share_out_now count v room =
    cond (v == 0) (Err (fault Malformed Frame 1))
    (after (kept_now count v) (cond (nat_lt room 20) (Err (fault NoRoom Board 0)) (Ok 20)))

-- this board's share of the entry that the window holds
abbrev pub share_now : (ℕ → List ℕ → List ℕ) → ℕ → EntryBody → ℕ → List ℕ
share_now tag own e v = written (share_fields 2 (record { signer = own; version = v; tag = tag own (labelled Entry (entry_bytes 2 e)) }))

-- an entry takes shares of boards that sent none, up to f + 1
abbrev pub due_now : Window → ℕ → ℕ → ℕ → Result (Unit {0}) Fault
due_now w f v s =
    cond (is_some (tag_in w v s)) (Err (fault NoShareDue Board 0))
    (cond (nat_lt f (shares_in w v)) (Err (fault NoShareDue Board 0)) (Ok tt))

-- the version, then whether a share is due, then the tag; P says that the tag passes, and Q what a share that passes brings
abbrev pub Joins : {A : Type 0} → Result (Unit {0}) Fault → Result (Unit {0}) Fault → Type 0 → (A → Type 0) → Result A Fault → Type 0
Joins (Err e) due P Q r = r ≡ Err e
Joins (Ok _) (Err e) P Q r = r ≡ Err e
Joins (Ok _) (Ok _) P Q (Ok n) = P × Q n
Joins (Ok _) (Ok _) P Q (Err e) = (P → ⊥) × (e ≡ fault WrongTag Seal 4)

-- what holds where a call refuses
abbrev pub Refusal : {A : Type 0} → Result A Fault → Type 0 → Type 0
Refusal (Ok _) P = Unit {0}
Refusal (Err _) P = P

-- all but the window is as it was
pub record Rest {S D L : Type 0} (before after : board.Board S D L) : Type 0 where
  pub store : after.store ≡ before.store
  pub seal : after.seal ≡ before.seal
  pub place : after.place ≡ before.place
  pub count : after.count ≡ before.count
  pub chain : after.chain ≡ before.chain
  pub clients : after.clients ≡ before.clients
