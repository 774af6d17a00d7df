use Rattle.std.proofs.Common.{◌≡◌, ℕ, ◌<◌, Bool, true, false, List, sym, refl, subst, inl, inr, not, arith}
use Rattle.std.specs.Bool.{Decides, then_some}
use Rattle.std.proofs.lemmas.Bool.{false≢true}
use Rattle.fault.specs.declared.Cause.TheVariants.{Stale, Unmatched}
use Rattle.entry.specs.Bodies.{SealedBody}
use Rattle.reader.specs.Checks.{Writes}
use Rattle.reader.specs.Entries.{Records}
use Rattle.reader.specs.Items.{WrongBy}
use Rattle.reader.proofs.items.wrong_by.Goals as goal

module _ (x v : ℕ) (d : List ℕ) (s : SealedBody) where
  newer : v < s.entry.version → (b : Bool) → Decides b (Writes s.entry x) → WrongBy x v d s (then_some b Stale)
  newer lt true tells = inr (refl, lt, tells.0 refl)
  newer lt false tells = (λ e. absurd (omega arith), λ n w. false≢true (tells.1 w))

  own : s.entry.version ≡ v → (b : Bool) → Decides b (Records s.entry x d) → WrongBy x v d s (then_some (not b) Unmatched)
  own is true tells = (λ e. tells.0 refl, λ n w. omega arith)
  own is false tells = inl (refl, is, λ w. false≢true (tells.1 w))

pub returns-then-part-read : goal.returns-then-part-read
returns-then-part-read c = λ f at s holds. let v = holds.version in (λ e. absurd (omega arith), λ lt w. omega arith)

pub returns-then-part-read-2 : goal.returns-then-part-read-2
returns-then-part-read-2 c = λ f at s holds.
    let v = holds.version in
    subst (WrongBy c.args.read.item c.args.read.version c.args.digest.now s) (sym c.then_some.ensures) (newer _ _ _ s (omega arith) c.writes_item.result (c.writes_item.ensures f at s holds))

pub returns : goal.returns
returns c = λ f at s holds.
    let v = holds.version in
    subst (WrongBy c.args.read.item c.args.read.version c.args.digest.now s) (sym c.then_some-2.ensures) (own _ _ _ s (omega arith) c.records.result (c.records.ensures f at s holds))
