-- What a seal answers, over its meaning: one function from a signer and a string to a tag of 16 bytes.
use Rattle.std.specs.Prelude.{◌≡◌, ℕ, ◌+◌, ◌<◌, ◌≤◌, Bool, ◌⊎◌, List, length, Ok, Err, Decides, Result}
use Rattle.fault.specs.declared.Fault.{Fault}
use Rattle.fault.specs.declared.Cause.TheVariants.{Malformed, WrongTag}
use Rattle.fault.specs.declared.Layer.TheVariants.{Frame, Seal}
use Rattle.fault.specs.Codes.{fault}

-- the signers are the boards, 0 to 15, and behind them the clients, 16 to 31
abbrev pub client_signer : ℕ → ℕ
client_signer c = 16 + c

-- the signers, and the lengths of the strings, that a seal takes
abbrev pub Taken : ℕ → ℕ → Type 0
Taken s n = (s ≤ 31) × (n ≤ 65535)

-- how it refuses the others: the signer is looked at first, and a string that is too long is refused at its first surplus byte
abbrev pub Refused : ℕ → ℕ → Fault → Type 0
Refused s n e = (Taken s n → ⊥) × (31 < s → e ≡ fault Malformed Frame 0) × (s ≤ 31 → e ≡ fault Malformed Frame 65535)

-- the tags that pass for a signer and a string: the one tag that they have
abbrev pub passes : (ℕ → List ℕ → List ℕ) → ℕ → List ℕ → List ℕ → Type 0
passes tag s m t = t ≡ tag s m

-- what making a tag answers
abbrev pub Made : (ℕ → List ℕ → List ℕ) → ℕ → List ℕ → Result (List ℕ) Fault → Type 0
Made tag s m (Ok t) = Taken s (length m) × (t ≡ tag s m)
Made tag s m (Err e) = Refused s (length m) e

-- what checking a tag answers, where P says which tags pass
abbrev pub Checked : (ℕ → List ℕ → List ℕ → Type 0) → ℕ → List ℕ → List ℕ → Result Bool Fault → Type 0
Checked P s m t (Ok b) = Taken s (length m) × Decides b (P s m t)
Checked P s m t (Err e) = Refused s (length m) e

-- and with a refusal of the wrong tag, which stands at the place p
abbrev pub Verified : {A : Type 0} → (ℕ → List ℕ → List ℕ → Type 0) → ℕ → List ℕ → List ℕ → ℕ → Result A Fault → Type 0
Verified P s m t p (Ok _) = Taken s (length m) × P s m t
Verified P s m t p (Err e) = Refused s (length m) e ⊎ (Taken s (length m) × (P s m t → ⊥) × (e ≡ fault WrongTag Seal p))
