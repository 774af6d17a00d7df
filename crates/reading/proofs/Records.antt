-- Items, their fields and their marks.
use Rattle.std.proofs.Common.{◌≡◌, ℕ, ◌+◌, ◌-◌, List, ◌∷◌, length, get_or, Ok, sym, refl, ◌∙◌, subst, arith}
use Rattle.std.proofs.lemmas.Bool.{le-leb, leb-true}
use Rattle.std.proofs.lemmas.Bool.Decides.{nat_tests}
use Rattle.fault.specs.declared.Layer.TheVariants.{Frame}
use Rattle.octets.specs.Numbers.{number_at}
use Rattle.octets.specs.Parts.{part_at}
use Rattle.record.specs.Formats.{Field, num, str, Fields, walk}
use Rattle.record.proofs.Paths.{Live}
use Rattle.record.proofs.Codings.{opened}
use Rattle.record.proofs.Judging.{Exact}
use Rattle.record.proofs.Marking.{Kind, both}
use Rattle.reading.specs.declared.mark.ItemAt.{ItemAt}
use Rattle.reading.specs.Bodies.{ReadingItemBody, reading_item_format, reading_item_fields, ReadingItemIn}
use Rattle.reading.specs.Marks.{read_item_mark, read_item_ends, read_item_body}

pub read_item-of : (w : ℕ) (fs : List Field) (b : ReadingItemBody) → Fields (reading_item_format w) fs b → (fs ≡ reading_item_fields w b) × ReadingItemIn w b
read_item-of w fs b h =
    let item = opened (reading_item_format w) fs b h in
    let version = item.3.2 in
    let size = version.3.2 in
    let value = size.3.2 in
    let end = value.3.2 in
    let long = sym value.1 in
    subst (λ x. (fs ≡ reading_item_fields w x) × ReadingItemIn w x) end.1 (
      item.3.1
          ∙ (λ i. num 1 item.0 ∷ version.3.1 i)
          ∙ (λ i. num 1 item.0 ∷ num w version.0 ∷ size.3.1 i)
          ∙ (λ i. num 1 item.0 ∷ num w version.0 ∷ num 1 size.0 ∷ value.3.1 i)
          ∙ (λ i. num 1 item.0 ∷ num w version.0 ∷ num 1 (long i) ∷ str value.0 ∷ end.0 i),
      record { item = leb-true item.0 63 item.2; version = version.1; value = omega (arith, leb-true size.0 32 size.2, value.1); bytes = value.2 },
    )

pub read_item_to : (w : ℕ) (b : ReadingItemBody) → ReadingItemIn w b → Fields (reading_item_format w) (reading_item_fields w b) b
read_item_to w b h = (refl, omega (arith, h.item), le-leb b.item 63 h.item, (refl, h.version, refl, (refl, omega (arith, h.value), le-leb (length b.value) 32 h.value, (refl, h.bytes, refl))))

pub read_item_live : (w : ℕ) → Live (reading_item_format w)
read_item_live w = ((0, omega arith, refl), λ item a b. ((0, omega arith, refl), λ version c d. ((0, omega arith, refl), λ size e f. λ value long all. tt)))

pub read_item_exact : (w : ℕ) (b : ReadingItemBody) → Exact (reading_item_format w) (reading_item_fields w b) b
read_item_exact w b = (refl, λ a c. (refl, λ d e. (refl, λ f g. (refl, refl))))

-- what a walk over one item came to
pub read_item-there : (w : ℕ) (bs : List ℕ) (at : ℕ) (b : ReadingItemBody) (e : ℕ) → walk Frame (reading_item_format w) both bs at ≡ Ok (b, e)
    → (record { item = get_or bs at 0; version = number_at bs (at + 1) w; value = part_at bs (at + 1 + w + 1) (get_or bs (at + 1 + w) 0) } ≡ b) × (at + 1 + w + 1 + get_or bs (at + 1 + w) 0 ≡ e)
read_item-there w bs at b e h = (grind (arith, nat_tests), grind (arith, nat_tests))

abbrev pub items : (w : ℕ) → Kind ReadingItemBody ItemAt
items w = record {
  layer = Frame;
  format = reading_item_format w;
  fields = reading_item_fields w;
  In = ReadingItemIn w;
  coding = record { of = read_item-of w; to = read_item_to w };
  mark = read_item_mark;
  ends = read_item_ends;
  body = read_item_body w;
  stops = λ bs at b e h.
      let t = read_item-there w bs at b e h in
      let y : at + (w + 2) ≡ at + 1 + w + 1 = omega arith in
      let z : e - (at + (w + 2)) ≡ get_or bs (at + 1 + w) 0 = omega (arith, t.1) in
      (refl, (λ i. record { item = b.item; version = b.version; value = part_at bs (y i) (z i) }) ∙ (λ i. record { item = b.item; version = b.version; value = (t.0 i).value }));
}
