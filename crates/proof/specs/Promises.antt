-- What the reader and the writer of proofs promise.
use Rattle.std.specs.Prelude.{◌≡◌, ℕ, false, ◌⊎◌, List, Ok, Err, Result}
use Rattle.std.specs.List.{AllByRecursion}
use Rattle.fault.specs.declared.Cause.TheVariants.{Malformed, NotRising, NotMember}
use Rattle.fault.specs.declared.Fault.{Fault}
use Rattle.fault.specs.declared.Layer.TheVariants.{Proof}
use Rattle.fault.specs.Codes.{fault}
use Rattle.record.specs.Refusals.{OutOfRange, TooShort, TooLong}
use Rattle.ruled.specs.Standing.{Among, Passes, Before, Alike}
use Rattle.proof.specs.Bodies.{ProofBody, ProofIn, proof_bytes}
use Rattle.proof.specs.Rules.{proof_format, rising_rows, member_rows, entries_at}

-- rule 1 is broken at p
abbrev pub MalformedAt : ℕ → ℕ → List ℕ → ℕ → Type 0
MalformedAt w f bs p = OutOfRange (proof_format w f) bs p ⊎ (TooShort (proof_format w f) bs p ⊎ TooLong (proof_format w f) bs p)

-- rule 2 is broken at p: some proof in range has the same bytes up to and with the one at p, and its record that begins there does not rise
pub record NotRisingAt (w f : ℕ) (bs : List ℕ) (p : ℕ) : Type 0 where
  pub other : ProofBody
  pub in_range : ProofIn w f other
  pub alike : Alike p bs (proof_bytes w other)
  pub falls : Among (false, fault NotRising Proof p) (rising_rows w (entries_at w) other.entries)

-- rule 5 is broken at p: some proof in range has the same bytes up to and with the one at p, and its pair that begins there is of no board
pub record NotMemberAt (w f : ℕ) (bs : List ℕ) (p : ℕ) : Type 0 where
  pub other : ProofBody
  pub in_range : ProofIn w f other
  pub alike : Alike p bs (proof_bytes w other)
  pub strange : Among (false, fault NotMember Proof p) (member_rows w f (entries_at w) other.entries)

-- a fault stands in the bytes
abbrev pub ProofStands : ℕ → ℕ → List ℕ → Fault → Type 0
ProofStands w f bs e =
    ((p : ℕ) × (e ≡ fault Malformed Proof p) × MalformedAt w f bs p)
    ⊎ (((p : ℕ) × (e ≡ fault NotRising Proof p) × NotRisingAt w f bs p)
    ⊎ ((p : ℕ) × (e ≡ fault NotMember Proof p) × NotMemberAt w f bs p))

-- a proof in range that keeps rules 2 and 5
pub record ProofKept (w f : ℕ) (b : ProofBody) : Type 0 where
  pub in_range : ProofIn w f b
  pub rises : AllByRecursion Passes (rising_rows w (entries_at w) b.entries)
  pub members : AllByRecursion Passes (member_rows w f (entries_at w) b.entries)

-- the answer: the bytes are those of a proof that keeps all rules; or of all faults that stand it is the one at the least place, at one place in the order of rules 1, 2, 5
abbrev pub ProofAnswered : ℕ → ℕ → List ℕ → Result ProofBody Fault → Type 0
ProofAnswered w f bs (Ok b) = ProofKept w f b × (bs ≡ proof_bytes w b)
ProofAnswered w f bs (Err e) = ProofStands w f bs e × ((d : Fault) → ProofStands w f bs d → Before e d)

-- a reader's answer r to the bytes bs
pub record ProofReads (w f : ℕ) (bs : List ℕ) (r : Result ProofBody Fault) : Type 0 where
  pub answered : ProofAnswered w f bs r
  pub only : (s : Result ProofBody Fault) → ProofAnswered w f bs s → s ≡ r
