-- What a reading frame holds, its format, and the rule behind rule 1.
use Rattle.std.specs.Prelude.{ℕ, ◌≤◌, Bool, List, [], ◌∷◌, length, None, Result}
use Rattle.std.specs.List.{flat_map, AllByRecursion}
use Rattle.fault.specs.declared.Fault.{Fault}
use Rattle.fault.specs.declared.Layer.TheVariants.{Frame}
use Rattle.octets.specs.Numbers.{Bytes, limit}
use Rattle.record.specs.Formats.{Format, number, string, done, ◌>>=◌, repeat, is, up_to, within, any, Field, num, str, read_by}
use Rattle.record.specs.Rules.{spots, rising}
use Rattle.record.specs.Writing.{write_by}
use Rattle.record.specs.Promises.{Reads, Writes}

-- one item as it was read: item, version, value
pub record ReadingItemBody : Type 0 where
  pub item : ℕ
  pub version : ℕ
  pub value : List ℕ

pub record ReadingBody : Type 0 where
  pub items : List ReadingItemBody

-- item (0 to 63), version, length (0 to 32), value; w is the width of a version
abbrev pub reading_item_format : ℕ → Format ReadingItemBody
reading_item_format w =
    number 1 (up_to 63) (λ item.
    number w any (λ version.
    number 1 (up_to 32) (λ size.
    string size (λ value.
    done (record { item = item; version = version; value = value })))))

-- 05, count (1 to 16), then each item
abbrev pub reading_format : ℕ → Format ReadingBody
reading_format w =
    number 1 (is 5) (λ kind.
    number 1 (within 1 16) (λ count.
    repeat count (reading_item_format w) >>= (λ ps.
    done (record { items = ps }))))

-- the fields of one item and of a reading's frame
abbrev pub reading_item_fields : ℕ → ReadingItemBody → List Field
reading_item_fields w p = num 1 p.item ∷ num w p.version ∷ num 1 (length p.value) ∷ str p.value ∷ []

abbrev pub reading_fields : ℕ → ReadingBody → List Field
reading_fields w b = num 1 5 ∷ num 1 (length b.items) ∷ flat_map (reading_item_fields w) b.items

-- in range
pub record ReadingItemIn (w : ℕ) (p : ReadingItemBody) : Type 0 where
  pub item : p.item ≤ 63
  pub version : p.version ≤ limit w
  pub value : length p.value ≤ 32
  pub bytes : Bytes p.value

pub record ReadingIn (w : ℕ) (b : ReadingBody) : Type 0 where
  pub some : 1 ≤ length b.items
  pub few : length b.items ≤ 16
  pub items : AllByRecursion (ReadingItemIn w) b.items

abbrev pub read_item_item : ReadingItemBody → ℕ
read_item_item p = p.item

-- behind rule 1: the items rise
abbrev pub reading_rules : ℕ → ReadingBody → List (Bool × Fault)
reading_rules w b = rising Frame None (spots read_item_item (reading_item_fields w) 2 b.items)

-- the reading that a frame holds, or the refusal
abbrev pub reading_of : ℕ → List ℕ → Result ReadingBody Fault
reading_of w bs = read_by Frame (reading_format w) (reading_rules w) bs

-- how many bytes a reading's writer wrote, or the refusal
abbrev pub write_reading : ℕ → ReadingBody → ℕ → Result ℕ Fault
write_reading w b room = write_by Frame (reading_format w) (reading_rules w) (reading_fields w b) room

-- the promises of a reader and of a writer, for readings
abbrev pub ReadingReads : ℕ → List ℕ → Result ReadingBody Fault → Type 0
ReadingReads w = Reads Frame (reading_format w) (reading_rules w) (reading_fields w) (ReadingIn w)

abbrev pub ReadingWrites : ℕ → ReadingBody → List ℕ → List ℕ → Result ℕ Fault → Type 0
ReadingWrites w = Writes Frame (reading_format w) (reading_rules w) (reading_fields w) (ReadingIn w)
