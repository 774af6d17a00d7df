-- The whole answer line.
use Rattle.std.specs.Prelude.{ℕ, List, Some, None, Ok, Err, Option, Result}
use Rattle.fault.specs.declared.Fault.{Fault}
use Rattle.store.specs.Slot.{Slot}
use Rattle.bank.specs.Answers.{empty_proof, item_answer, proof_answer, share_refusal}
use Rattle.line.specs.declared.call.Call.{Call}
use Rattle.line.specs.declared.call.Call.TheVariants.{Deliver, Item, Mark, Proof, ShareIn, ShareOut}
use Rattle.line.specs.Lines.{line_call}
use Rattle.lines.specs.Hex.{hex}
use Rattle.lines.specs.Replies.{item_bytes, mark_bytes, no_call_bytes}
use Rattle.lines.specs.Replies as lines

-- an answer as bytes: 00 and the answer, or the refusal
abbrev pub answer_bytes : Result (List ℕ) Fault → List ℕ
answer_bytes r = lines.reply (λ answer. answer) r

abbrev pub item_reply : Result Slot Fault → List ℕ
item_reply (Ok s) = answer_bytes (Ok (item_bytes s))
item_reply (Err f) = answer_bytes (Err f)

abbrev pub proof_reply : Result ℕ Fault → List ℕ
proof_reply (Ok n) = answer_bytes (Ok empty_proof)
proof_reply (Err f) = answer_bytes (Err f)

-- What a bank says to a call: none to the two kinds that it does not serve.
module _ (digest : List ℕ → List ℕ) (holds : ℕ → Slot) (count : ℕ) (chain : List ℕ) where
  abbrev pub reply : Call → Option (List ℕ)
  reply Deliver = None
  reply ShareIn = None
  reply (Proof low high) = Some (proof_reply (proof_answer low high 5))
  reply (Item x) = Some (item_reply (item_answer digest holds x))
  reply Mark = Some (answer_bytes (Ok (mark_bytes count chain)))
  reply (ShareOut version) = Some (answer_bytes (Err (share_refusal version)))

  -- what it says to a line that may ask for no call: refused 1, layer F, place 0
  abbrev pub reply_to : Option Call → Option (List ℕ)
  reply_to (Some call) = reply call
  reply_to None = Some no_call_bytes

abbrev pub digits : Option (List ℕ) → Option (List ℕ)
digits (Some bs) = Some (hex bs)
digits None = None

-- the answer line of a line
abbrev pub line_answer : (List ℕ → List ℕ) → (ℕ → Slot) → ℕ → List ℕ → List ℕ → Option (List ℕ)
line_answer digest holds count chain line = digits (reply_to digest holds count chain (line_call line))
