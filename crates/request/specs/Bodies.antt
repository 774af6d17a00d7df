-- What a request frame holds, its format, and the rules behind rule 1.
use Rattle.std.specs.Prelude.{◌≡◌, ℕ, ◌+◌, ◌≤◌, Bool, List, [], ◌∷◌, ◌++◌, map, length, None, Result}
use Rattle.std.specs.List.{flat_map, AllByRecursion}
use Rattle.fault.specs.declared.Fault.{Fault}
use Rattle.fault.specs.declared.Layer.TheVariants.{Frame}
use Rattle.octets.specs.Numbers.{Bytes, limit}
use Rattle.record.specs.Formats.{Format, number, string, done, ◌>>=◌, repeat, is, up_to, within, any, Field, num, str, written, read_by}
use Rattle.record.specs.Rules.{Spot, spots, rising, covered}
use Rattle.record.specs.Writing.{write_by}
use Rattle.record.specs.Promises.{Reads, Writes}

-- a read: item, version, digest
pub record ReadBody : Type 0 where
  pub item : ℕ
  pub version : ℕ
  pub digest : List ℕ

-- a write: item, value
pub record WriteBody : Type 0 where
  pub item : ℕ
  pub value : List ℕ

pub record RequestBody : Type 0 where
  pub client : ℕ
  pub sequence : ℕ
  pub reads : List ReadBody
  pub writes : List WriteBody
  pub tag : List ℕ

-- item (0 to 63), version, digest; w is the width of a version
abbrev pub read_format : ℕ → Format ReadBody
read_format w =
    number 1 (up_to 63) (λ item.
    number w any (λ version.
    string 32 (λ digest.
    done (record { item = item; version = version; digest = digest }))))

-- item (0 to 63), length (0 to 32), value
abbrev pub write_format : Format WriteBody
write_format =
    number 1 (up_to 63) (λ item.
    number 1 (up_to 32) (λ size.
    string size (λ value.
    done (record { item = item; value = value }))))

-- behind the counts: reads, writes, tag
abbrev pub lists : ℕ → ℕ → ℕ → ℕ → ℕ → Format RequestBody
lists w client sequence reads writes =
    repeat reads (read_format w) >>= (λ rs.
    repeat writes write_format >>= (λ ws.
    string 16 (λ tag.
    done (record { client = client; sequence = sequence; reads = rs; writes = ws; tag = tag }))))

-- 01, client (0 to 15), sequence number, count of reads (0 to 16), count of writes (1 to 8), reads, writes, tag
abbrev pub request_format : ℕ → Format RequestBody
request_format w =
    number 1 (is 1) (λ kind.
    number 1 (up_to 15) (λ client.
    number w any (λ sequence.
    number 1 (up_to 16) (λ reads.
    number 1 (within 1 8) (λ writes.
    lists w client sequence reads writes)))))

-- the fields of a read, of a write, and of a request's frame
abbrev pub read_fields : ℕ → ReadBody → List Field
read_fields w r = num 1 r.item ∷ num w r.version ∷ str r.digest ∷ []

abbrev pub write_fields : WriteBody → List Field
write_fields r = num 1 r.item ∷ num 1 (length r.value) ∷ str r.value ∷ []

abbrev pub request_fields : ℕ → RequestBody → List Field
request_fields w b =
    num 1 1 ∷ num 1 b.client ∷ num w b.sequence ∷ num 1 (length b.reads) ∷ num 1 (length b.writes)
    ∷ (flat_map (read_fields w) b.reads ++ (flat_map write_fields b.writes ++ (str b.tag ∷ [])))

-- in range
pub record ReadIn (w : ℕ) (r : ReadBody) : Type 0 where
  pub item : r.item ≤ 63
  pub version : r.version ≤ limit w
  pub digest : length r.digest ≡ 32
  pub bytes : Bytes r.digest

pub record WriteIn (r : WriteBody) : Type 0 where
  pub item : r.item ≤ 63
  pub value : length r.value ≤ 32
  pub bytes : Bytes r.value

pub record RequestIn (w : ℕ) (b : RequestBody) : Type 0 where
  pub client : b.client ≤ 15
  pub sequence : b.sequence ≤ limit w
  pub few-reads : length b.reads ≤ 16
  pub some-writes : 1 ≤ length b.writes
  pub few-writes : length b.writes ≤ 8
  pub reads : AllByRecursion (ReadIn w) b.reads
  pub writes : AllByRecursion WriteIn b.writes
  pub tag : length b.tag ≡ 16
  pub bytes : Bytes b.tag

-- where the reads begin, and where the writes do
abbrev pub reads_at : ℕ → ℕ
reads_at w = w + 4

abbrev pub writes_at : ℕ → RequestBody → ℕ
writes_at w b = reads_at w + length (written (flat_map (read_fields w) b.reads))

abbrev pub read_item : ReadBody → ℕ
read_item r = r.item

abbrev pub write_item : WriteBody → ℕ
write_item r = r.item

abbrev pub read_spots : ℕ → RequestBody → List Spot
read_spots w b = spots read_item (read_fields w) (reads_at w) b.reads

abbrev pub write_spots : ℕ → RequestBody → List Spot
write_spots w b = spots write_item write_fields (writes_at w b) b.writes

-- behind rule 1: the reads rise, the writes rise, and each write's item was read
abbrev pub request_rules : ℕ → RequestBody → List (Bool × Fault)
request_rules w b = rising Frame None (read_spots w b) ++ (rising Frame None (write_spots w b) ++ covered Frame (map read_item b.reads) (write_spots w b))

-- the request that a frame holds, or the refusal
abbrev pub read_request : ℕ → List ℕ → Result RequestBody Fault
read_request w bs = read_by Frame (request_format w) (request_rules w) bs

-- how many bytes a request's writer wrote, or the refusal
abbrev pub write_request : ℕ → RequestBody → ℕ → Result ℕ Fault
write_request w b room = write_by Frame (request_format w) (request_rules w) (request_fields w b) room

-- the promises of a reader and of a writer, for requests
abbrev pub RequestReads : ℕ → List ℕ → Result RequestBody Fault → Type 0
RequestReads w = Reads Frame (request_format w) (request_rules w) (request_fields w) (RequestIn w)

abbrev pub RequestWrites : ℕ → RequestBody → List ℕ → List ℕ → Result ℕ Fault → Type 0
RequestWrites w = Writes Frame (request_format w) (request_rules w) (request_fields w) (RequestIn w)
