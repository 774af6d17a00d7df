-- Requests that read what they write: the frame of each is accepted, and holds it.
use Rattle.std.proofs.Common.{◌≡◌, ℕ, zero, suc, ◌+◌, ◌<◌, List, [], ◌∷◌, ◌++◌, map, length, get_or, take, Ok, Err, Result, sym, refl, ap, ◌∙◌, subst, inl, inr, add-one, arith}
use Rattle.std.specs.List.{flat_map, ContainsAt as Has, AllByRecursion as All}
use Rattle.std.specs.List.Sorted.{IsStrictlyIncreasing}
use Rattle.std.proofs.ByRecursion.{All-get_or}
use Rattle.std.proofs.lemmas.List.{length-append, take_at}
use Rattle.fault.specs.declared.Fault.{Fault}
use Rattle.fault.specs.declared.Layer.TheVariants.{Frame}
use Rattle.label.specs.declared.Label.TheVariants.{Request}
use Rattle.label.specs.Labels.{labelled}
use Rattle.seal.specs.Seals.{client_signer}
use Rattle.record.specs.Chains.{guards}
use Rattle.record.specs.Formats.{Field, written}
use Rattle.record.specs.Rules.{spots}
use Rattle.record.specs.Orders.{Covers, Rises, spot_at}
use Rattle.record.proofs.Paths.{written-append}
use Rattle.record.proofs.Rules.{judged-only}
use Rattle.request.specs.Bodies.{RequestBody, RequestIn, read_fields, read_item, read_request, read_spots, request_fields, request_format, request_rules, write_fields, write_item, write_spots, writes_at, reads_at}
use Rattle.request.specs.Orders.{Orderly, items_read}
use Rattle.request.specs.Sizes.{covered_part}
use Rattle.request.proofs.Requests.{coding, live}
use Rattle.request.proofs.Sizing.{covered_then_tag, orderly}
use Rattle.history.specs.Events.{width}
use Rattle.history.specs.Answers.{tag_at}
use Rattle.worked.specs.Requests.{TagOf16, RequestsOccur}

-- the numbers of records that stand one behind the other
module _ {A : Type 0} (number : A → ℕ) (fields : A → List Field) where
  spot_number : (at : ℕ) (xs : List A) (i : ℕ) → (spot_at (spots number fields at xs) i).number ≡ get_or (map number xs) i 0
  spot_number at [] i = refl
  spot_number at (x ∷ xs) zero = refl
  spot_number at (x ∷ xs) (suc i) = spot_number (at + length (written (fields x))) xs i

  spots-long : (at : ℕ) (xs : List A) → length (spots number fields at xs) ≡ length (map number xs)
  spots-long at [] = refl
  spots-long at (x ∷ xs) = ap suc (spots-long (at + length (written (fields x))) xs)

  spots-rise : (at : ℕ) (xs : List A) → IsStrictlyIncreasing (map number xs) → Rises (spots number fields at xs)
  spots-rise at xs up i lt =
      let n = spots-long at xs in
      let here = spot_number at xs i in
      let next = spot_number at xs (suc i) in
      let step : get_or (map number xs) i 0 < get_or (map number xs) (suc i) 0 = subst (λ k. get_or (map number xs) i 0 < get_or (map number xs) k 0) (add-one i) (up i (omega arith)) in
      omega arith

  spots-covered : (at : ℕ) (xs : List A) (known : List ℕ) → All (Has known) (map number xs) → Covers known (spots number fields at xs)
  spots-covered at xs known all i lt =
      let n = spots-long at xs in
      let here = All-get_or (Has known) (map number xs) i 0 (omega arith) all in
      (here.0, here.1, here.2 0 ∙ sym (spot_number at xs i))

-- rules that are kept refuse nothing
orderly_kept : (b : RequestBody) (r : Result RequestBody Fault) → Orderly width b r
    → Rises (read_spots width b) → Rises (write_spots width b) → Covers (items_read b) (write_spots width b) → r ≡ Ok b
orderly_kept b (Ok a) o p q c = ap Ok o.0
orderly_kept b (Err e) (l, inl (why, fall)) p q c = let up = p fall.before fall.inside in let down = fall.falls in absurd (omega arith)
orderly_kept b (Err e) (l, inr (inl (why, rise, fall))) p q c = let up = q fall.before fall.inside in let down = fall.falls in absurd (omega arith)
orderly_kept b (Err e) (l, inr (inr (why, rise, rise', missing))) p q c = absurd (missing.unread (c missing.index missing.inside))

-- the frame of a request in range that keeps the order, and reads the items that it writes
pub request-read : (b : RequestBody) → RequestIn width b → IsStrictlyIncreasing (map read_item b.reads) → IsStrictlyIncreasing (map write_item b.writes)
    → All (Has (map read_item b.reads)) (map write_item b.writes) → read_request width (written (request_fields width b)) ≡ Ok b
request-read b inside up rise read =
    let bs = written (request_fields width b) in
    let kept : guards (request_rules width b) (Ok b) ≡ Ok b = orderly_kept b (guards (request_rules width b) (Ok b)) (orderly width b)
    (spots-rise read_item (read_fields width) (reads_at width) b.reads up)
    (spots-rise write_item write_fields (writes_at width b) b.writes rise)
    (spots-covered write_item write_fields (writes_at width b) b.writes (items_read b) read) in
    sym (judged-only Frame (request_format width) (request_rules width) bs (guards (request_rules width b) (Ok b)) (live width)
    (inr (b, record { fields = request_fields width b; fields_ok = (coding width).to b inside; bytes = refl }, refl))) ∙ kept

-- what the tag covers stands before it
covered-long : (b : RequestBody) → length (covered_part width b) ≡ tag_at b
covered-long b =
    let rs = flat_map (read_fields width) b.reads in
    let ws = flat_map write_fields b.writes in
    let a : length (written (rs ++ ws)) ≡ length (written rs) + length (written ws) = ap length (written-append rs ws) ∙ length-append (written rs) (written ws) in
    omega arith

pub covered-first : (b : RequestBody) → take (tag_at b) (written (request_fields width b)) ≡ covered_part width b
covered-first b = ap (take (tag_at b)) (covered_then_tag width b) ∙ take_at (covered_part width b) b.tag (tag_at b) (covered-long b)

module _ (tag : ℕ → List ℕ → List ℕ) (sealed : TagOf16 tag) where
  pub requests_occur : RequestsOccur tag
  requests_occur c s rs ws few small many reads up carried read =
      let under : List ℕ → RequestBody = λ t. record { client = c; sequence = s; reads = rs; writes = ws; tag = t } in
      let m = labelled Request (covered_part width (under [])) in
      let b = under (tag (client_signer c) m) in
      let inside : RequestIn width b = record {
        client = few;
        sequence = small;
        few-reads = many;
        some-writes = carried.some;
        few-writes = carried.few;
        reads = reads;
        writes = carried.each;
        tag = sealed.long (client_signer c) m;
        bytes = sealed.bytes (client_signer c) m;
      } in (
        written (request_fields width b),
        record {
          body = b;
          held = request-read b inside up carried.rise read;
          client = refl;
          number = refl;
          reads = refl;
          writes = refl;
          tagged = ap (λ x. tag (client_signer c) (labelled Request x)) (sym (covered-first b));
        },
      )
