-- What a store means for one item.
use Rattle.std.specs.Prelude.{ℕ, List, [], replicate}
use Rattle.inline_vec.specs.Lists.{items}
use Rattle.store.specs.declared.record.Record.{Record}
use Rattle.store.specs.declared.value.Value.{Value}

-- the bytes of a value
abbrev pub value_of : Value → List ℕ
value_of v = items v.bytes

-- what is held for an item: a version, the bytes of a value, the bytes of a digest
pub record Slot : Type 0 where
  pub version : ℕ
  pub value : List ℕ
  pub digest : List ℕ

-- what a record says
abbrev pub slot : Record → Slot
slot r = record { version = r.version; value = value_of r.value; digest = r.digest }

-- what a new store holds for every item: version 0, the empty value, 32 zero bytes
abbrev pub blank : Slot
blank = record { version = 0; value = []; digest = replicate 32 0 }
