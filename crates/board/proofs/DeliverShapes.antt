-- A request that its frame's reader accepted has the shape that a board relies on.
use Rattle.std.proofs.Common.{◌≡◌, ℕ, ◌+◌, ◌*◌, ◌≤◌, List, [], ◌∷◌, ◌++◌, map, length, Some, None, Ok, Option, Result, sym, refl, ap, ◌∙◌, arith}
use Rattle.std.specs.List.{flat_map, AllByRecursion, AllByRecursion as All}
use Rattle.std.proofs.lemmas.List.{length-append}
use Rattle.fault.specs.declared.Cause.TheVariants.{NotRising}
use Rattle.fault.specs.declared.Fault.{Fault}
use Rattle.fault.specs.declared.Layer.TheVariants.{Frame}
use Rattle.fault.specs.Codes.{fault}
use Rattle.record.specs.Chains.{guards}
use Rattle.record.specs.Rules.{above, covered, rising, spots}
use Rattle.record.proofs.Keeping.{through}
use Rattle.record.proofs.Rules.{guards-append}
use Rattle.record.proofs.Steps.{passed}
use Rattle.record.specs.Formats.{written, str}
use Rattle.record.proofs.Paths.{written-append}
use Rattle.request.specs.declared.Request.{Request}
use Rattle.request.specs.Bodies.{ReadBody, ReadIn, RequestBody, RequestReads, WriteBody, WriteIn, read_fields, read_item, read_spots, request_fields, write_fields, write_item, write_spots, writes_at}
use Rattle.request.specs.Requests.{Found, held}
use Rattle.history.specs.Answers.{tag_at}
use Rattle.board.specs.Delivering.{Shaped}
use Rattle.board.specs.WriteSets.{Rises, WriteSet}

reads-long : (rs : List ReadBody) → AllByRecursion (ReadIn 2) rs → length (written (flat_map (read_fields 2) rs)) ≤ 35 * length rs
reads-long [] all = omega arith
reads-long (r ∷ rs) all =
    let rest = written (flat_map (read_fields 2) rs) in
    let more : length rest ≤ 35 * length rs = reads-long rs all.1 in
    let digest : length r.digest ≡ 32 = all.0.digest in
    let n = length-append r.digest rest in
    omega arith

writes-long : (ws : List WriteBody) → AllByRecursion WriteIn ws → length (written (flat_map write_fields ws)) ≤ 34 * length ws
writes-long [] all = omega arith
writes-long (w ∷ ws) all =
    let rest = written (flat_map write_fields ws) in
    let more : length rest ≤ 34 * length ws = writes-long ws all.1 in
    let value : length w.value ≤ 32 = all.0.value in
    let n = length-append w.value rest in
    omega arith

-- the tag stands behind the reads and the writes
lists-long : (b : RequestBody) → length b.tag ≡ 16 → length (written (request_fields 2 b)) ≡ tag_at b + 16
lists-long b tag =
    let rs = flat_map (read_fields 2) b.reads in
    let ws = flat_map write_fields b.writes in
    let end = str b.tag ∷ [] in
    let a : length (written (rs ++ (ws ++ end))) ≡ length (written rs) + length (written (ws ++ end)) =
    ap length (written-append rs (ws ++ end)) ∙ length-append (written rs) (written (ws ++ end)) in
    let c : length (written (ws ++ end)) ≡ length (written ws) + length (b.tag ++ []) =
    ap length (written-append ws end) ∙ length-append (written ws) (b.tag ++ []) in
    let d : length (b.tag ++ []) ≡ length b.tag + 0 = length-append b.tag [] in
    omega arith

pub shaped : (bs : List ℕ) (q : Request) → RequestReads 2 bs (Ok (held q)) → Found bs q → Shaped q
shaped bs q reads found =
    let ok = reads.accepted (held q) refl in
    let inside = ok.0 in
    let long : length bs ≡ tag_at (held q) + 16 = ap length ok.2 ∙ lists-long (held q) inside.tag in
    let end : length bs ≡ q.plan.tag_at + 16 = found.end in
    let a : length (written (flat_map (read_fields 2) (held q).reads)) ≤ 35 * length (held q).reads = reads-long (held q).reads inside.reads in
    let b : length (written (flat_map write_fields (held q).writes)) ≤ 34 * length (held q).writes = writes-long (held q).writes inside.writes in
    let few-reads : length (held q).reads ≤ 16 = inside.few-reads in
    let few-writes : length (held q).writes ≤ 8 = inside.few-writes in
    record {
      client = inside.client;
      tag_there = omega arith;
      short = omega arith;
      end = ap length found.frame ∙ end;
      each_read = found.each_read;
      each_write = found.each_write;
      writes = inside.writes;
      few = few-writes;
    }

-- the items that it reads
pub items-read : (bs : List ℕ) (q : Request) → RequestReads 2 bs (Ok (held q)) → AllByRecursion (λ r. r.item ≤ 63) (held q).reads
items-read bs q reads = every-item (held q).reads (reads.accepted (held q) refl).0.reads
  where
    every-item : (rs : List ReadBody) → AllByRecursion (ReadIn 2) rs → AllByRecursion (λ r. r.item ≤ 63) rs
    every-item [] all = tt
    every-item (r ∷ rs) all = (all.0.item, every-item rs all.1)

-- rows of the rising rule that an answer came through
rows-rise : {A : Type 0} (at : ℕ) (last : Option ℕ) (ws : List WriteBody) (r : Result A Fault) (y : A)
    → guards (rising Frame last (spots write_item write_fields at ws)) r ≡ Ok y → Rises last (map write_item ws)
rows-rise at last [] r y e = tt
rows-rise at last (w ∷ ws) r y e =
    let next = at + length (written (write_fields w)) in
    let p = passed (above last w.item) (fault NotRising Frame at) (guards (rising Frame (Some w.item) (spots write_item write_fields next ws)) r) y e in
    (p.0, rows-rise next (Some w.item) ws r y p.1)

-- what it writes
pub write-set : (bs : List ℕ) (q : Request) → RequestReads 2 bs (Ok (held q)) → WriteSet (held q).writes
write-set bs q reads =
    let b = held q in
    let ok = reads.accepted b refl in
    let first = rising Frame None (read_spots 2 b) in
    let second = rising Frame None (write_spots 2 b) in
    let third = covered Frame (map read_item b.reads) (write_spots 2 b) in
    let behind = (through first (guards (second ++ third) (Ok b)) b (Ok b) (sym (guards-append first (second ++ third) (Ok b)) ∙ ok.1)).0 in
    record {
      some = ok.0.some-writes;
      few = ok.0.few-writes;
      items = every-item b.writes ok.0.writes;
      rise = rows-rise (writes_at 2 b) None b.writes (guards third (Ok b)) b (sym (guards-append second third (Ok b)) ∙ behind);
    }
  where
    every-item : (ws : List WriteBody) → AllByRecursion WriteIn ws → All (λ w. w.item ≤ 63) ws
    every-item [] all = tt
    every-item (w ∷ ws) all = (all.0.item, every-item ws all.1)
