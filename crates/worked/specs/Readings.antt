-- The worked case of a reading that mixes two states.
use Rattle.std.specs.Prelude.{◌≡◌, ℕ, List, [], ◌∷◌, Ok, Err, Result}
use Rattle.fault.specs.declared.Fault.{Fault}
use Rattle.fault.specs.declared.Cause.TheVariants.{Stale}
use Rattle.fault.specs.declared.Layer.TheVariants.{Reader}
use Rattle.fault.specs.Codes.{fault}
use Rattle.seal.specs.Seals.{passes}
use Rattle.proof.specs.Bodies.{ProofBody}
use Rattle.proof.specs.Rules.{proof_of}
use Rattle.reading.specs.Bodies.{ReadingItemBody, reading_of}
use Rattle.request.specs.Bodies.{WriteBody}
use Rattle.history.specs.Commits.{Wrote}
use Rattle.history.specs.Events.{width}
use Rattle.reader.specs.Accepted.{HonestProof}
use Rattle.reader.specs.Checks.{CheckAnswers}
use Rattle.reader.specs.Example as example

-- commit 1 wrote items 5 and 6, commit 3 both again; v is what commit 1 wrote to item 5, u what commit 3 wrote to item 6
pub record BothTwice (cs : List (List WriteBody)) (v u : List ℕ) : Type 0 where
  pub five : Wrote cs 1 5 v
  pub six : (w : List ℕ) × Wrote cs 1 6 w
  pub five_again : (w : List ℕ) × Wrote cs 3 5 w
  pub six_again : Wrote cs 3 6 u

-- item 5 as commit 1 left it, and item 6 as commit 3 did
abbrev pub mixed : List ℕ → List ℕ → List ReadingItemBody
mixed v u = record { item = 5; version = 1; value = v } ∷ record { item = 6; version = 3; value = u } ∷ []

-- a reading's frame and a proof's frame that hold this reading and the entries of these commits, under tags that pass
pub record MixedFrames (digest : List ℕ → List ℕ) (tag : ℕ → List ℕ → List ℕ) (f : ℕ) (reading proof : List ℕ) : Type 0 where
  pub commits : List (List WriteBody)
  pub old : List ℕ
  pub new : List ℕ
  pub twice : BothTwice commits old new
  pub body : ProofBody
  pub read : reading_of width reading ≡ Ok (record { items = mixed old new })
  pub proven : proof_of width f proof ≡ Ok body
  pub honest : HonestProof digest (passes tag) commits body (mixed old new)

-- Every such reading is refused at its first item, which stands at place 2; and there are such frames.
pub record MixedIsStale : Type 0 where
  pub refused : (digest : List ℕ → List ℕ) (tag : ℕ → List ℕ → List ℕ) (f : ℕ) (reading proof : List ℕ) (r : Result ℕ Fault)
      → MixedFrames digest tag f reading proof → CheckAnswers digest (passes tag) f reading proof r → r ≡ Err (fault Stale Reader 2)
  pub occurs : (reading : List ℕ) × ((proof : List ℕ) × MixedFrames example.digest example.tag 1 reading proof)
