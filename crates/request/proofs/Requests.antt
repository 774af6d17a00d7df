-- Requests and the fields of their frames.
use Rattle.std.proofs.Common.{◌≡◌, ℕ, ◌≤◌, leb, List, [], ◌∷◌, ◌++◌, length, sym, refl, ap, ◌∙◌, subst, arith}
use Rattle.std.specs.List.{flat_map, AllByRecursion}
use Rattle.std.proofs.lemmas.Bool.{le-leb, leb-true, and_parts, and_from, eqb-true}
use Rattle.octets.specs.Numbers.{limit}
use Rattle.record.specs.Formats.{Format, string, done, ◌>>=◌, repeat, Field, num, str, Fields}
use Rattle.record.proofs.Paths.{Live, live_bind, live_repeat}
use Rattle.record.proofs.Codings.{Coding, opened, two, joins, repeated}
use Rattle.record.proofs.Judging.{Exact, exact_bind, exact_repeat}
use Rattle.request.specs.declared.plan.Head.{Head}
use Rattle.request.specs.Bodies.{ReadBody, WriteBody, RequestBody, read_format, write_format, request_format, read_fields, write_fields, request_fields, ReadIn, WriteIn, RequestIn}
use Rattle.request.specs.Plans.{head_format}
use Rattle.request.proofs.Records.{reads, writes, read_live, write_live, read_exact, write_exact}

-- what is behind the head, behind the reads, behind the writes
abbrev pub behind-writes : Head → List ReadBody → List WriteBody → Format RequestBody
behind-writes h rs ws = string 16 (λ tag. done (record { client = h.client; sequence = h.sequence; reads = rs; writes = ws; tag = tag }))

abbrev pub behind-reads : Head → List ReadBody → Format RequestBody
behind-reads h rs = repeat h.writes write_format >>= behind-writes h rs

abbrev pub behind_head : ℕ → Head → Format RequestBody
behind_head w h = repeat h.reads (read_format w) >>= behind-reads h

pub live : (w : ℕ) → Live (request_format w)
live w = (
  (1, omega arith, refl),
  λ kind a b. (
    (0, omega arith, refl),
    λ client c d. (
      (0, omega arith, refl),
      λ sequence e f. (
        (0, omega arith, refl),
        λ rs g h. (
          (1, omega arith, refl),
          λ ws i j.
              let top : Head = record { client = client; sequence = sequence; reads = rs; writes = ws } in
              live_bind (repeat rs (read_format w)) (behind-reads top) (live_repeat rs (read_format w) (read_live w))
              (λ fs r k. live_bind (repeat ws write_format) (behind-writes top r) (live_repeat ws write_format write_live) (λ gs s m. λ tag long all. tt)),
        ),
      ),
    ),
  ),
)

module _ (w : ℕ) where
  abbrev all_reads : (n : ℕ) → Coding (repeat n (read_format w)) (flat_map (read_fields w)) (λ xs. (length xs ≡ n) × AllByRecursion (ReadIn w) xs)
  all_reads n = repeated (read_format w) (read_fields w) (ReadIn w) (reads w).coding n

  abbrev all_writes : (n : ℕ) → Coding (repeat n write_format) (flat_map write_fields) (λ xs. (length xs ≡ n) × AllByRecursion WriteIn xs)
  all_writes n = repeated write_format write_fields WriteIn writes.coding n

  of : (fs : List Field) (b : RequestBody) → Fields (request_format w) fs b → (fs ≡ request_fields w b) × RequestIn w b
  of fs b hyp =
      let t = two (behind_head w) (head_format w) fs b hyp in
      let top = t.holds in
      let kind = opened (head_format w) t.front top t.first in
      let client = kind.3.2 in
      let sequence = client.3.2 in
      let nr = sequence.3.2 in
      let nw = nr.3.2 in
      let end = nw.3.2 in
      let one = eqb-true kind.0 1 kind.2 in
      let u = two (behind-reads top) (repeat top.reads (read_format w)) t.rest b t.second in
      let v = two (behind-writes top u.holds) (repeat top.writes write_format) u.rest b u.second in
      let tag = opened (behind-writes top u.holds v.holds) v.rest b v.second in
      let last = tag.3.2 in
      let r = (all_reads top.reads).of u.front u.holds u.first in
      let s = (all_writes top.writes).of v.front v.holds v.first in
      let is = end.1 in
      let range = and_parts (leb 1 nw.0) (leb nw.0 8) nw.2 in
      let cr : nr.0 ≡ length u.holds = ap (λ x. x.reads) is ∙ sym r.1.0 in
      let cw : nw.0 ≡ length v.holds = ap (λ x. x.writes) is ∙ sym s.1.0 in
      let cc0 : client.0 ≡ top.client = ap (λ x. x.client) is in
      let cs : sequence.0 ≡ top.sequence = ap (λ x. x.sequence) is in
      let front : t.front ≡ num 1 1 ∷ num 1 top.client ∷ num w top.sequence ∷ num 1 (length u.holds) ∷ num 1 (length v.holds) ∷ [] =
      kind.3.1
      ∙ (λ i. num 1 (one i) ∷ client.3.1 i)
      ∙ (λ i. num 1 1 ∷ num 1 (cc0 i) ∷ sequence.3.1 i)
      ∙ (λ i. num 1 1 ∷ num 1 top.client ∷ num w (cs i) ∷ nr.3.1 i)
      ∙ (λ i. num 1 1 ∷ num 1 top.client ∷ num w top.sequence ∷ num 1 (cr i) ∷ nw.3.1 i)
      ∙ (λ i. num 1 1 ∷ num 1 top.client ∷ num w top.sequence ∷ num 1 (length u.holds) ∷ num 1 (cw i) ∷ end.0 i)
      in
      let back : t.rest ≡ flat_map (read_fields w) u.holds ++ (flat_map write_fields v.holds ++ (str tag.0 ∷ [])) =
      u.is ∙ (λ i. r.0 i ++ (v.is ∙ (λ j. s.0 j ++ (tag.3.1 ∙ (λ k. str tag.0 ∷ last.0 k)) j)) i)
      in
      subst (λ x. (fs ≡ request_fields w x) × RequestIn w x) last.1 (
        t.is ∙ (λ i. front i ++ back i),
        record {
          client = omega (arith, leb-true client.0 15 client.2, cc0);
          sequence = subst (λ x. x ≤ limit w) cs sequence.1;
          few-reads = omega (arith, leb-true nr.0 16 nr.2, cr);
          some-writes = omega (arith, leb-true 1 nw.0 range.0, cw);
          few-writes = omega (arith, leb-true nw.0 8 range.1, cw);
          reads = r.1.1;
          writes = s.1.1;
          tag = tag.1;
          bytes = tag.2;
        },
      )

  head_of : RequestBody → Head
  head_of b = record { client = b.client; sequence = b.sequence; reads = length b.reads; writes = length b.writes }

  to : (b : RequestBody) → RequestIn w b → Fields (request_format w) (request_fields w b) b
  unfolding head_of
  to b h =
      let n = length b.reads in
      let m = length b.writes in (
        refl,
        omega arith,
        refl,
        (
          refl,
          omega (arith, h.client),
          le-leb b.client 15 h.client,
          (
            refl,
            h.sequence,
            refl,
            (
              refl,
              omega (arith, h.few-reads),
              le-leb n 16 h.few-reads,
              (
                refl,
                omega (arith, h.few-writes),
                and_from (leb 1 m) (leb m 8) (le-leb 1 m h.some-writes) (le-leb m 8 h.few-writes),
                joins (behind-reads (head_of b)) (repeat n (read_format w)) (flat_map (read_fields w) b.reads) _ b.reads b ((all_reads n).to b.reads (refl, h.reads))
                    (joins (behind-writes (head_of b) b.reads) (repeat m write_format) (flat_map write_fields b.writes) (str b.tag ∷ []) b.writes b ((all_writes m).to b.writes (refl, h.writes))
                    (h.tag, h.bytes, refl)),
              ),
            ),
          ),
        ),
      )

  pub coding : Coding (request_format w) (request_fields w) (RequestIn w)
  coding = record { of = of; to = to }

  no_need : (xs : List WriteBody) → AllByRecursion (λ x. Unit {0}) xs
  no_need [] = tt
  no_need (x ∷ xs) = (tt, no_need xs)

  pub exact : (b : RequestBody) → AllByRecursion (λ r. length r.digest ≡ 32) b.reads → length b.tag ≡ 16 → Exact (request_format w) (request_fields w b) b
  unfolding head_of
  exact b long tag = (
    refl,
    λ a c. (
      refl,
      λ d e. (
        refl,
        λ f g. (
          refl,
          λ h i. (
            refl,
            λ j k.
                exact_bind (behind-reads (head_of b)) (repeat (length b.reads) (read_format w)) (flat_map (read_fields w) b.reads) _ b.reads b (exact_repeat (read_format w) (read_fields w) (λ r. length r.digest ≡ 32) (read_exact w) b.reads long)
                (exact_bind (behind-writes (head_of b) b.reads) (repeat (length b.writes) write_format) (flat_map write_fields b.writes) (str b.tag ∷ []) b.writes b (exact_repeat write_format write_fields (λ x. Unit {0}) (λ x u. write_exact x) b.writes (no_need b.writes))
                (tag, refl)),
          ),
        ),
      ),
    ),
  )
