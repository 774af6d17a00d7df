-- Reads and writes, their fields and their marks.
use Rattle.std.proofs.Common.{◌≡◌, ℕ, ◌+◌, ◌-◌, List, ◌∷◌, length, get_or, Ok, sym, refl, ◌∙◌, subst, arith}
use Rattle.std.proofs.lemmas.Bool.{le-leb, leb-true}
use Rattle.std.proofs.lemmas.Bool.Decides.{nat_tests}
use Rattle.fault.specs.declared.Layer.TheVariants.{Frame}
use Rattle.octets.specs.Numbers.{number_at}
use Rattle.octets.specs.Parts.{part_at}
use Rattle.record.specs.Formats.{Field, num, str, Fields, walk}
use Rattle.record.proofs.Paths.{Live}
use Rattle.record.proofs.Codings.{opened}
use Rattle.record.proofs.Judging.{Exact}
use Rattle.record.proofs.Marking.{Kind, both}
use Rattle.request.specs.declared.mark.ReadAt.{ReadAt}
use Rattle.request.specs.declared.mark.WriteAt.{WriteAt}
use Rattle.request.specs.Bodies.{ReadBody, WriteBody, read_format, write_format, read_fields, write_fields, ReadIn, WriteIn}
use Rattle.request.specs.Marks.{read_mark, read_ends, read_body, write_mark, write_ends, write_body}

pub read_of : (w : ℕ) (fs : List Field) (b : ReadBody) → Fields (read_format w) fs b → (fs ≡ read_fields w b) × ReadIn w b
read_of w fs b h =
    let item = opened (read_format w) fs b h in
    let version = item.3.2 in
    let digest = version.3.2 in
    let end = digest.3.2 in
    subst (λ x. (fs ≡ read_fields w x) × ReadIn w x) end.1 (
      item.3.1
          ∙ (λ i. num 1 item.0 ∷ version.3.1 i)
          ∙ (λ i. num 1 item.0 ∷ num w version.0 ∷ digest.3.1 i)
          ∙ (λ i. num 1 item.0 ∷ num w version.0 ∷ str digest.0 ∷ end.0 i),
      record { item = leb-true item.0 63 item.2; version = version.1; digest = digest.1; bytes = digest.2 },
    )

pub read_to : (w : ℕ) (b : ReadBody) → ReadIn w b → Fields (read_format w) (read_fields w b) b
read_to w b h = (refl, omega (arith, h.item), le-leb b.item 63 h.item, (refl, h.version, refl, (h.digest, h.bytes, refl)))

pub read_live : (w : ℕ) → Live (read_format w)
read_live w = ((0, omega arith, refl), λ item a b. ((0, omega arith, refl), λ version c d. λ digest long all. tt))

pub read_exact : (w : ℕ) (b : ReadBody) → length b.digest ≡ 32 → Exact (read_format w) (read_fields w b) b
read_exact w b long = (refl, λ a c. (refl, λ d e. (long, refl)))

-- what a walk over one read came to
pub read-there : (w : ℕ) (bs : List ℕ) (at : ℕ) (b : ReadBody) (e : ℕ) → walk Frame (read_format w) both bs at ≡ Ok (b, e)
    → (record { item = get_or bs at 0; version = number_at bs (at + 1) w; digest = part_at bs (at + 1 + w) 32 } ≡ b) × (at + 1 + w + 32 ≡ e)
read-there w bs at b e h = (grind (arith, nat_tests), grind (arith, nat_tests))

abbrev pub reads : (w : ℕ) → Kind ReadBody ReadAt
reads w = record {
  layer = Frame;
  format = read_format w;
  fields = read_fields w;
  In = ReadIn w;
  coding = record { of = read_of w; to = read_to w };
  mark = read_mark;
  ends = read_ends w;
  body = read_body w;
  stops = λ bs at b e h.
      let t = read-there w bs at b e h in
      let z : at + (w + 1) ≡ at + 1 + w = omega arith in
      (omega (arith, t.1), (λ i. record { item = b.item; version = b.version; digest = part_at bs (z i) 32 }) ∙ (λ i. record { item = b.item; version = b.version; digest = (t.0 i).digest }));
}

pub write-of : (fs : List Field) (b : WriteBody) → Fields write_format fs b → (fs ≡ write_fields b) × WriteIn b
write-of fs b h =
    let item = opened write_format fs b h in
    let size = item.3.2 in
    let value = size.3.2 in
    let end = value.3.2 in
    let long = sym value.1 in
    subst (λ x. (fs ≡ write_fields x) × WriteIn x) end.1 (
      item.3.1
          ∙ (λ i. num 1 item.0 ∷ size.3.1 i)
          ∙ (λ i. num 1 item.0 ∷ num 1 size.0 ∷ value.3.1 i)
          ∙ (λ i. num 1 item.0 ∷ num 1 (long i) ∷ str value.0 ∷ end.0 i),
      record { item = leb-true item.0 63 item.2; value = omega (arith, leb-true size.0 32 size.2, value.1); bytes = value.2 },
    )

pub write_to : (b : WriteBody) → WriteIn b → Fields write_format (write_fields b) b
write_to b h = (refl, omega (arith, h.item), le-leb b.item 63 h.item, (refl, omega (arith, h.value), le-leb (length b.value) 32 h.value, (refl, h.bytes, refl)))

pub write_live : Live write_format
write_live = ((0, omega arith, refl), λ item a b. ((0, omega arith, refl), λ size c d. λ value long all. tt))

pub write_exact : (b : WriteBody) → Exact write_format (write_fields b) b
write_exact b = (refl, λ a c. (refl, λ d e. (refl, refl)))

pub write-there : (bs : List ℕ) (at : ℕ) (b : WriteBody) (e : ℕ) → walk Frame write_format both bs at ≡ Ok (b, e)
    → (record { item = get_or bs at 0; value = part_at bs (at + 1 + 1) (get_or bs (at + 1) 0) } ≡ b) × (at + 1 + 1 + get_or bs (at + 1) 0 ≡ e)
write-there bs at b e h = (grind (arith, nat_tests), grind (arith, nat_tests))

abbrev pub writes : Kind WriteBody WriteAt
writes = record {
  layer = Frame;
  format = write_format;
  fields = write_fields;
  In = WriteIn;
  coding = record { of = write-of; to = write_to };
  mark = write_mark;
  ends = write_ends;
  body = write_body;
  stops = λ bs at b e h.
      let t = write-there bs at b e h in
      let y : at + 2 ≡ at + 1 + 1 = omega arith in
      let z : e - (at + 2) ≡ get_or bs (at + 1) 0 = omega (arith, t.1) in
      (refl, (λ i. record { item = b.item; value = part_at bs (y i) (z i) }) ∙ (λ i. record { item = b.item; value = (t.0 i).value }));
}
