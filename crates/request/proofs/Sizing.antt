-- Lengths of requests, the part that a tag covers, and the rules in plain words.
use Rattle.std.proofs.Common.{◌≡◌, ℕ, ◌+◌, ◌*◌, ◌≤◌, List, [], ◌∷◌, ◌++◌, map, length, replicate, None, Ok, Err, Result, sym, refl, ap, ◌∙◌, subst, inl, inr, suc-mul, arith}
use lib.ListN.{length-replicate}
use Rattle.std.specs.List.{flat_map, AllByRecursion}
use Rattle.std.proofs.lemmas.List.{append_assoc, append-nil, length-append}
use Rattle.std.proofs.lemmas.Nat.{mul-le}
use Rattle.fault.specs.declared.Fault.{Fault}
use Rattle.fault.specs.declared.Layer.TheVariants.{Frame}
use Rattle.octets.specs.Numbers.{be}
use Rattle.octets.proofs.NumberLaws.{length-be}
use Rattle.record.specs.Chains.{after, guards, tested}
use Rattle.record.specs.Formats.{num, str, written}
use Rattle.record.specs.Rules.{rising, covered}
use Rattle.record.specs.Orders.{RisingSays, CoveredSays}
use Rattle.record.proofs.Paths.{written-append}
use Rattle.record.proofs.Rules.{guards-after, guards-append}
use Rattle.record.proofs.Ordering.{rising-says, covered-says}
use Rattle.request.specs.Bodies.{ReadBody, WriteBody, RequestBody, read_fields, write_fields, request_fields, ReadIn, WriteIn, RequestIn, request_rules, read_spots, write_spots}
use Rattle.request.specs.Orders.{items_read, Orderly}
use Rattle.request.specs.Sizes.{RequestSize, SizesOccur, covered_fields, covered_part}

reads-long : (w : ℕ) (rs : List ReadBody) → AllByRecursion (ReadIn w) rs → length (written (flat_map (read_fields w) rs)) ≡ length rs * (w + 33)
reads-long w [] h = omega arith
reads-long w (r ∷ rs) h =
    let fs = read_fields w r in
    let rest = flat_map (read_fields w) rs in
    omega (arith, ap length (written-append fs rest), length-append (written fs) (written rest), length-append (be w r.version) (r.digest ++ []), length-be w r.version, length-append r.digest [], h.0.digest, reads-long w rs h.1, suc-mul (length rs) (w + 33))

write-long : (r : WriteBody) → length (written (write_fields r)) ≡ length r.value + 2
write-long r = omega (arith, length-append r.value [])

writes-long : (v : ℕ) (rs : List WriteBody) → AllByRecursion (λ x. length x.value ≡ v) rs → length (written (flat_map write_fields rs)) ≡ length rs * (v + 2)
writes-long v [] h = omega arith
writes-long v (r ∷ rs) h =
    let rest = flat_map write_fields rs in
    omega (arith, ap length (written-append (write_fields r) rest), length-append (written (write_fields r)) (written rest), write-long r, h.0, writes-long v rs h.1, suc-mul (length rs) (v + 2))

writes-most : (rs : List WriteBody) → AllByRecursion WriteIn rs → length (written (flat_map write_fields rs)) ≤ length rs * 34
writes-most [] h = omega arith
writes-most (r ∷ rs) h =
    let rest = flat_map write_fields rs in
    omega (arith, ap length (written-append (write_fields r) rest), length-append (written (write_fields r)) (written rest), write-long r, h.0.value, writes-most rs h.1)

module _ (w : ℕ) (b : RequestBody) where
  -- the frame is what the tag covers, and the tag
  pub covered_then_tag : written (request_fields w b) ≡ covered_part w b ++ b.tag
  covered_then_tag =
      let one = flat_map (read_fields w) b.reads in
      let two = flat_map write_fields b.writes in
      let split : one ++ (two ++ (str b.tag ∷ [])) ≡ (one ++ two) ++ (str b.tag ∷ []) = sym (append_assoc one two (str b.tag ∷ [])) in
      ap (λ l. written (num 1 1 ∷ num 1 b.client ∷ num w b.sequence ∷ num 1 (length b.reads) ∷ num 1 (length b.writes) ∷ l)) split
      ∙ written-append (covered_fields w b) (str b.tag ∷ [])
      ∙ ap (λ l. covered_part w b ++ l) (append-nil b.tag)

  pub covered-long : length (covered_part w b) ≡ (w + 4) + (length (written (flat_map (read_fields w) b.reads)) + length (written (flat_map write_fields b.writes)))
  covered-long =
      let one = flat_map (read_fields w) b.reads in
      let two = flat_map write_fields b.writes in
      let rest = length b.reads ∷ length b.writes ∷ written (one ++ two) in
      omega (arith, length-append (be w b.sequence) rest, length-be w b.sequence, ap length (written-append one two), length-append (written one) (written two))

  pub sized : RequestIn w b → RequestSize w b (length (written (request_fields w b)))
  sized h =
      let all = ap length covered_then_tag ∙ length-append (covered_part w b) b.tag in
      let rl = reads-long w b.reads h.reads in
      record {
        alike = λ v e. omega (arith, all, covered-long, rl, writes-long v b.writes e, h.tag);
        most = omega (arith, all, covered-long, rl, writes-most b.writes h.writes, h.tag, h.few-writes, reads-most (length b.reads) h.few-reads);
      }
    where
      reads-most : (n : ℕ) → n ≤ 16 → n * (w + 33) ≤ 16 * (w + 33)
      reads-most n k = mul-le n (w + 33) 16 (w + 33) k (omega arith)

  -- the table of a request's rules, one part behind the other
  orderly_from : (x y z : Result (Unit {0}) Fault) → RisingSays Frame (read_spots w b) x → RisingSays Frame (write_spots w b) y → CoveredSays Frame (items_read b) (write_spots w b) z → Orderly w b (after x (after y (after z (Ok b))))
  orderly_from (Ok u) (Ok v) (Ok s) p q r = (refl, p, q, r)
  orderly_from (Ok u) (Ok v) (Err e) p q r = (r.1, inr (inr (r.0, p, q, r.2)))
  orderly_from (Ok u) (Err e) z p q r = (q.1, inr (inl (q.0, p, q.2)))
  orderly_from (Err e) y z p q r = (p.1, inl (p.0, p.2))

  pub orderly : Orderly w b (guards (request_rules w b) (Ok b))
  orderly =
      let X = rising Frame None (read_spots w b) in
      let Y = rising Frame None (write_spots w b) in
      let Z = covered Frame (items_read b) (write_spots w b) in
      let e : after (tested X) (after (tested Y) (after (tested Z) (Ok b))) ≡ guards (request_rules w b) (Ok b) =
      guards-after X tt (after (tested Y) (after (tested Z) (Ok b)))
      ∙ ap (guards X) (guards-after Y tt (after (tested Z) (Ok b)) ∙ ap (guards Y) (guards-after Z tt (Ok b)) ∙ sym (guards-append Y Z (Ok b)))
      ∙ sym (guards-append X (Y ++ Z) (Ok b))
      in
      subst (Orderly w b) e (orderly_from (tested X) (tested Y) (tested Z) (rising-says Frame (read_spots w b)) (rising-says Frame (write_spots w b)) (covered-says Frame (items_read b) (write_spots w b)))

-- a read of an item, and a write of v zero bytes to it
a_read : ℕ → ReadBody
a_read x = record { item = x; version = 0; digest = replicate 32 0 }

a_write : ℕ → ℕ → WriteBody
a_write v x = record { item = x; value = replicate v 0 }

-- the request that reads some items and writes some, v bytes to each
of_size : ℕ → List ℕ → List ℕ → RequestBody
of_size v rs ws = record { client = 0; sequence = 1; reads = map a_read rs; writes = map (a_write v) ws; tag = replicate 16 0 }

of_length : (v : ℕ) (ws : List ℕ) → AllByRecursion (λ x. length x.value ≡ v) (of_size v [] ws).writes
unfolding of_size a_write
of_length v [] = tt
of_length v (x ∷ ws) = (length-replicate v 0, of_length v ws)

pub sizes_occur : SizesOccur
unfolding of_size a_read a_write
sizes_occur =
    let eight : List ℕ = 0 ∷ 1 ∷ 2 ∷ 3 ∷ 4 ∷ 5 ∷ 6 ∷ 7 ∷ [] in
    let sixteen : List ℕ = eight ++ (8 ∷ 9 ∷ 10 ∷ 11 ∷ 12 ∷ 13 ∷ 14 ∷ 15 ∷ []) in
    ((of_size 1 (0 ∷ []) (0 ∷ []), refl, refl, of_length 1 (0 ∷ []), refl), (of_size 32 sixteen eight, refl, refl, of_length 32 eight, refl))
