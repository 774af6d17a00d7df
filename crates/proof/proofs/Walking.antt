-- What came of the iterators over a proof's parts, for their callers.
use Rattle.std.proofs.Common.{◌≡◌, ℕ, ◌+◌, ◌*◌, ◌<◌, ◌≤◌, List, [], ◌∷◌, length, get_or, drop, Option, sym, refl, ap, ◌∙◌, subst, arith}
use Rattle.std.specs.Iterator.{AlwaysYields, Yields}
use Rattle.std.proofs.lemmas.Iterator.{YieldsList}
use Rattle.std.proofs.lemmas.List.{drop_more, length-drop}
use Rattle.entry.specs.Bodies.{ItemBody, SealedBody}
use Rattle.proof.specs.Bodies.{ProofBody}
use Rattle.proof.specs.Parts.{FoundAt, Holds, PairHolds, PartHolds, entry_place, tag_place}
use Rattle.proof.specs.Turns.{BeforeEntry, BeforeItem, BeforePair, GivesEntry, GivesItem, GivesPair, item_seen, pairs_place}
use Rattle.proof.specs.declared.part.Items.{Items}
use Rattle.proof.specs.declared.part.PairPart.{PairPart}
use Rattle.proof.specs.declared.part.Pairs.{Pairs}
use Rattle.proof.specs.declared.part.SealedPart.{SealedPart}
use Rattle.proof.specs.declared.read.Proof.{Proof}
use Rattle.proof.specs.declared.read.walk.Entries.{Entries}
use Rattle.proof.proofs.Stepping.{passed}

-- the entry that comes behind others is that at their count, and none comes behind the last
pub entry_came : {proof : Proof} {first it t : Entries} (xs : List SealedPart) (o : Option SealedPart) (u : Entries) → ((f : ℕ) (b : ProofBody) → Holds f proof b → BeforeEntry f b 0 first) → it ≡ first → Yields GivesEntry it xs t → GivesEntry t o u
    → (f : ℕ) (b : ProofBody) → Holds f proof b → FoundAt (PartHolds f (entry_place 2 b (length xs))) b.entries (length xs) o
entry_came {it = it} {t = t} xs o u before same e gives f b h =
    (gives f b (length xs)
    (passed GivesEntry (BeforeEntry f b) (λ k. PartHolds f (entry_place 2 b k)) (λ k. Unit {0}) b.entries (λ k s n r near at step. step f b k at) xs it t (λ j lt le. tt) (subst (BeforeEntry f b 0) (sym same) (before f b h)) e)).0

-- and so with the pairs of an entry, where a byte counts them
pub pair_came : {part : SealedPart} {first it t : Pairs} (xs : List PairPart) (o : Option PairPart) (u : Pairs) → ((f at : ℕ) (s : SealedBody) → PartHolds f at part s → BeforePair (pairs_place 2 at s) s.pairs 0 first) → it ≡ first → Yields GivesPair it xs t → GivesPair t o u
    → (f at : ℕ) (s : SealedBody) → PartHolds f at part s → f < 255 → FoundAt (PairHolds (tag_place 2 at s (length xs))) s.pairs (length xs) o
pair_came {it = it} {t = t} xs o u before same e gives f at s h few =
    let from = pairs_place 2 at s in
    let n = h.in_range.sealed in
    let start = subst (BeforePair from s.pairs 0) (sym same) (before f at s h) in
    let there = passed GivesPair (BeforePair from s.pairs) (λ k. PairHolds (from + 17 * k + 1)) (λ k. k ≤ 255) s.pairs (λ k i j r near place step. step.1 from s.pairs k near place) xs it t (λ j lt le. omega (arith, le, n, few)) start e in
    (gives.1 from s.pairs (length xs) (omega (arith, there.inside, n, few)) there).0

-- the writes of an entry come as a list
items_always : (is ys : List ItemBody) (k : ℕ) (it : Items) → drop k is ≡ ys → BeforeItem is k it → AlwaysYields GivesItem item_seen it ys
items_always is [] k it e h = λ x t gives. let one = (gives.1 is k h).0.0 in absurd (omega (arith, one, ap length e, length-drop k is))
items_always is (y ∷ ys) k it e h = (
  (λ t gives. let past = (gives.1 is k h).0 in absurd (omega (arith, past, ap length e, length-drop k is))),
  λ x t gives.
      let one = gives.1 is k h in
      let all : y ∷ ys ≡ get_or is k y ∷ drop (k + 1) is = sym e ∙ drop_more is k y one.0.0 in
      let first : get_or is k y ≡ y = sym (ap (λ l. get_or l 0 y) all) in
      let held = one.0.1 y in
      ((λ i. record { item = held.item i; digest = held.digest i }) ∙ first, items_always is ys (k + 1) t (sym (ap (drop 1) all)) one.1),
)

pub items_listed : (is : List ItemBody) (it : Items) → BeforeItem is 0 it → YieldsList GivesItem item_seen it is
items_listed is it h = record { runs = items_always is is 0 it refl h }
