-- Reads and writes as they stand in a frame.
use Rattle.std.specs.Prelude.{ℕ, ◌+◌, ◌-◌, List, Ok, Result}
use Rattle.fault.specs.declared.Fault.{Fault}
use Rattle.fault.specs.declared.Layer.TheVariants.{Frame}
use Rattle.octets.specs.Parts.{part_at}
use Rattle.record.specs.Formats.{walk}
use Rattle.request.specs.declared.mark.ReadAt.{ReadAt}
use Rattle.request.specs.declared.mark.WriteAt.{WriteAt}
use Rattle.request.specs.Bodies.{ReadBody, WriteBody, read_format, write_format}

abbrev pub read_number : ReadAt → ℕ
read_number r = r.item

abbrev pub read_place : ReadAt → ℕ
read_place r = r.place

abbrev pub read_ends : ℕ → ReadAt → ℕ
read_ends w r = r.place + (w + 33)

-- the mark of a read that begins at a place
abbrev pub read_mark : ReadBody → ℕ → ℕ → ReadAt
read_mark b at e = record { item = b.item; version = b.version; place = at }

abbrev pub read_stands : ℕ → List ℕ → ℕ → Result ReadAt Fault
read_stands w bs at = walk Frame (read_format w) (λ b e. Ok (read_mark b at e)) bs at

-- what a marked read holds
abbrev pub read_body : ℕ → List ℕ → ReadAt → ReadBody
read_body w bs r = record { item = r.item; version = r.version; digest = part_at bs (r.place + (w + 1)) 32 }

abbrev pub write_number : WriteAt → ℕ
write_number r = r.item

abbrev pub write_place : WriteAt → ℕ
write_place r = r.place

abbrev pub write_ends : WriteAt → ℕ
write_ends r = r.after

-- the mark of a write that begins at a place, and the place behind it
abbrev pub write_mark : WriteBody → ℕ → ℕ → WriteAt
write_mark b at e = record { item = b.item; place = at; after = e }

abbrev pub write_stands : List ℕ → ℕ → Result WriteAt Fault
write_stands bs at = walk Frame write_format (λ b e. Ok (write_mark b at e)) bs at

-- what a marked write holds
abbrev pub write_body : List ℕ → WriteAt → WriteBody
write_body bs r = record { item = r.item; value = part_at bs (r.place + 2) (r.after - (r.place + 2)) }
