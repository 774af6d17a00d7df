use Rattle.std.proofs.Common.{◌≡◌, ℕ, ◌+◌, ◌<◌, ◌≤◌, List, [], ◌++◌, length, get_or, Some, None, Option, sym, ap, ◌∙◌, subst, inl, inr, arith}
use Rattle.std.specs.List.{flat_map}
use Rattle.std.proofs.lemmas.Bool.{cases_lt}
use Rattle.std.proofs.lemmas.List.{length-append}
use Rattle.octets.specs.Numbers.{limit}
use Rattle.entry.specs.Bodies.{SealedBody, entry_bytes, pair_bytes, sealed_bytes}
use Rattle.proof.specs.Bodies.{ProofBody, SealedIn}
use Rattle.proof.specs.Parts.{There, PartHolds, entry_place}
use Rattle.proof.specs.Turns.{BeforeEntry, GivesEntry}
use Rattle.proof.specs.declared.part.SealedPart.{SealedPart}
use Rattle.proof.specs.declared.read.walk.Entries.{Entries}
use Rattle.proof.proofs.Laid.{lies_in}
use Rattle.proof.proofs.read.walk.EntriesIterator.next.Goals as goal

none : SealedBody
none = record { entry = record { version = 0; items = [] }; pairs = [] }

-- where an entry is left, it is what was found
module _ (it : Entries) (r : Option SealedPart)
    (there : (pre post : List ℕ) (f due : ℕ) (s : SealedBody) → it.proof.f ≡ f → SealedIn f due s → due ≤ limit 2 → it.proof.frame.now ≡ pre ++ (sealed_bytes 2 s ++ post) → length pre ≡ it.at → it.at ≤ 1000000 → There (PartHolds f it.at) s r) where
  found : (f : ℕ) (b : ProofBody) (k : ℕ) (d : SealedBody) → BeforeEntry f b k it → k < length b.entries → There (PartHolds f (entry_place 2 b k)) (get_or b.entries k d) r
  found f b k d h below =
      let y = lies_in f it.proof b k d h.holds below in
      let at = h.place in
      subst (λ n. There (PartHolds f n) (get_or b.entries k d) r) at
      (there y.pre y.post f (b.low + k) (get_or b.entries k d) h.holds.among y.in_range y.fits y.bytes (y.place ∙ sym at) (subst (λ n. n ≤ 1000000) (sym at) y.near))

pub returns-in_err-part-clause-steps : goal.returns-in_err-part-clause-steps
returns-in_err-part-clause-steps c =
    let it = c.args.self.now in
    subst (λ r. GivesEntry it r it) (sym c.from_residual.ensures)
    (λ f b k h. (elim (cases_lt k (length b.entries)) [ inl below ↦ absurd (found it None c.in_err-part.ensures.there f b k none h below) | inr past ↦ past ], tt))

pub returns-clause-steps : goal.returns-clause-steps
returns-clause-steps c = λ f b k h.
    let it = c.args.self.now in
    let below : k < length b.entries = omega (arith, h.left, c.if-self-eq0.false) in
    let s = get_or b.entries k none in
    let p = found it (Some c.in_ok-part.part) c.in_ok-part.ensures.there f b k none h below in
    let y = lies_in f it.proof b k none h.holds below in (
      (below, λ d. found it (Some c.in_ok-part.part) c.in_ok-part.ensures.there f b k d h below),
      record {
        holds = h.holds;
        place = omega (arith, y.next, h.place, ap length p.body, ap length p.pairs, length-append (entry_bytes 2 s.entry) (flat_map pair_bytes s.pairs));
        left = omega (arith, h.left, c.if-self-eq0.false);
      },
    )
