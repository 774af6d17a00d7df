-- Readings and the fields of their frames.
use Rattle.std.proofs.Common.{◌≡◌, ℕ, leb, List, [], ◌∷◌, ◌++◌, length, sym, refl, ◌∙◌, subst, arith}
use Rattle.std.specs.List.{flat_map, AllByRecursion}
use Rattle.std.proofs.lemmas.List.{append-nil}
use Rattle.std.proofs.lemmas.Bool.{le-leb, leb-true, and_parts, and_from, eqb-true}
use Rattle.record.specs.Formats.{Format, done, ◌>>=◌, repeat, Field, num, Fields}
use Rattle.record.proofs.Paths.{Live, live_bind, live_repeat}
use Rattle.record.proofs.Codings.{Coding, opened, two, joins, repeated}
use Rattle.record.proofs.Judging.{Exact, exact_bind, exact_repeat}
use Rattle.record.proofs.Puts.{every_unit}
use Rattle.reading.specs.Bodies.{ReadingItemBody, ReadingBody, reading_item_format, reading_format, reading_item_fields, reading_fields, ReadingItemIn, ReadingIn}
use Rattle.reading.specs.Plans.{count_format}
use Rattle.reading.proofs.Records.{items, read_item_live, read_item_exact}

-- what is behind the items, behind the count
abbrev pub behind-items : List ReadingItemBody → Format ReadingBody
behind-items ps = done (record { items = ps })

abbrev pub behind-count : ℕ → ℕ → Format ReadingBody
behind-count w n = repeat n (reading_item_format w) >>= behind-items

pub live : (w : ℕ) → Live (reading_format w)
live w = (
  (5, omega arith, refl),
  λ kind a b. (
    (1, omega arith, refl),
    λ n c d. live_bind (repeat n (reading_item_format w)) behind-items (live_repeat n (reading_item_format w) (read_item_live w)) (λ fs r k. tt),
  ),
)

module _ (w : ℕ) where
  abbrev all_items : (n : ℕ) → Coding (repeat n (reading_item_format w)) (flat_map (reading_item_fields w)) (λ xs. (length xs ≡ n) × AllByRecursion (ReadingItemIn w) xs)
  all_items n = repeated (reading_item_format w) (reading_item_fields w) (ReadingItemIn w) (items w).coding n

  of : (fs : List Field) (b : ReadingBody) → Fields (reading_format w) fs b → (fs ≡ reading_fields w b) × ReadingIn w b
  of fs b hyp =
      let t = two (behind-count w) count_format fs b hyp in
      let kind = opened count_format t.front t.holds t.first in
      let count = kind.3.2 in
      let end = count.3.2 in
      let five = eqb-true kind.0 5 kind.2 in
      let u = two behind-items (repeat t.holds (reading_item_format w)) t.rest b t.second in
      let last = opened (behind-items u.holds) u.rest b u.second in
      let r = (all_items t.holds).of u.front u.holds u.first in
      let range = and_parts (leb 1 count.0) (leb count.0 16) count.2 in
      let counted : count.0 ≡ length u.holds = end.1 ∙ sym r.1.0 in
      let front : t.front ≡ num 1 5 ∷ num 1 (length u.holds) ∷ [] =
      kind.3.1
      ∙ (λ i. num 1 (five i) ∷ count.3.1 i)
      ∙ (λ i. num 1 5 ∷ num 1 (counted i) ∷ end.0 i)
      in
      let back : t.rest ≡ flat_map (reading_item_fields w) u.holds = u.is ∙ (λ i. r.0 i ++ last.0 i) ∙ append-nil (flat_map (reading_item_fields w) u.holds) in
      subst (λ x. (fs ≡ reading_fields w x) × ReadingIn w x) last.1 (
        t.is ∙ (λ i. front i ++ back i),
        record {
          some = omega (arith, leb-true 1 count.0 range.0, counted);
          few = omega (arith, leb-true count.0 16 range.1, counted);
          items = r.1.1;
        },
      )

  to : (b : ReadingBody) → ReadingIn w b → Fields (reading_format w) (reading_fields w b) b
  to b h =
      let n = length b.items in
      let fields = flat_map (reading_item_fields w) b.items in (
        refl,
        omega arith,
        refl,
        (
          refl,
          omega (arith, h.few),
          and_from (leb 1 n) (leb n 16) (le-leb 1 n h.some) (le-leb n 16 h.few),
          subst (λ fs. Fields (behind-count w n) fs b) (append-nil fields)
              (joins behind-items (repeat n (reading_item_format w)) fields [] b.items b ((all_items n).to b.items (refl, h.items)) refl),
        ),
      )

  pub coding : Coding (reading_format w) (reading_fields w) (ReadingIn w)
  coding = record { of = of; to = to }

  pub exact : (b : ReadingBody) → Exact (reading_format w) (reading_fields w b) b
  exact b =
      let n = length b.items in
      let fields = flat_map (reading_item_fields w) b.items in (
        refl,
        λ a c. (
          refl,
          λ d e.
              subst (λ fs. Exact (behind-count w n) fs b) (append-nil fields)
              (exact_bind behind-items (repeat n (reading_item_format w)) fields [] b.items b (exact_repeat (reading_item_format w) (reading_item_fields w) (λ x. Unit {0}) (λ x u. read_item_exact w x) b.items (every_unit b.items)) refl),
        ),
      )
