-- Proofs and the fields of their frames: which frames are in range, and the rows that judge them.
use Rattle.std.proofs.Common.{◌≡◌, ℕ, zero, suc, ◌+◌, ◌-◌, ◌*◌, ◌≤◌, Bool, true, ◌&&◌, eqb, leb, List, [], ◌∷◌, ◌++◌, length, Some, None, sym, refl, ap, ◌∙◌, subst, inl, inr, arith}
use Rattle.std.specs.List.{flat_map, AllByRecursion}
use Rattle.std.proofs.lemmas.List.{append_assoc, append-nil, length-append}
use Rattle.std.proofs.lemmas.Bool.{le-leb, leb-true, eq-eqb, eqb-true, and_parts, and_from, or_cases, or_left}
use Rattle.fault.specs.declared.Fault.{Fault}
use Rattle.fault.specs.declared.Layer.TheVariants.{Proof}
use Rattle.octets.specs.Numbers.{limit, be}
use Rattle.octets.proofs.NumberLaws.{length-be, power_more}
use Rattle.std.proofs.lemmas.Nat.{pow_pos}
use Rattle.record.specs.Rules.{spots}
use Rattle.record.specs.Formats.{done, is, Field, num, str, written, Fields}
use Rattle.record.proofs.Paths.{Live, live_bind, written-append}
use Rattle.record.proofs.Codings.{Coding, opened, Two, two, joins}
use Rattle.entry.specs.Bodies.{ItemBody, PairBody, SealedBody, item_bytes, head_bytes, pair_bytes, sealed_bytes}
use Rattle.ruled.specs.Ruled.{Ruled, end, follow, plain, rows}
use Rattle.ruled.proofs.Scans.{plain-follow, rows-follow}
use Rattle.ruled.proofs.Least.{Tidy, tidy_follow}
use Rattle.proof.specs.Bodies.{ProofBody, item_fields, pair_fields, sealed_fields, proof_fields, proof_bytes, range, ItemIn, PairIn, SealedIn, EntriesIn, ProofIn}
use Rattle.proof.specs.Rules.{items_from, pairs_from, sealed_from, entries_from, proof_ruled, item_number, pair_number, item_spots, pair_spots, entries_at}
use Rattle.proof.proofs.Records.{item_of, pair_of, item_coding, pair_coding, records_coding, rows_records, live_records, tidy_records, piece_bytes_lem, table}

-- one format behind another, at the level of fields
module _ {A B : Type 0} (c : Ruled A) (h : A → Ruled B) where
  pub two-follow : (fs : List Field) (b : B) → Fields (plain (follow c h)) fs b → Two (plain c) (λ a. plain (h a)) fs b
  two-follow fs b fr = two (λ a. plain (h a)) (plain c) fs b (subst (λ g. Fields g fs b) (plain-follow c h) fr)

  pub joins_follow : (xs ys : List Field) (a : A) (b : B) → Fields (plain c) xs a → Fields (plain (h a)) ys b → Fields (plain (follow c h)) (xs ++ ys) b
  joins_follow xs ys a b fr gr = subst (λ g. Fields g (xs ++ ys) b) (sym (plain-follow c h)) (joins (λ x. plain (h x)) (plain c) xs ys a b fr gr)

  pub live_follow : Live (plain c) → ((fs : List Field) (a : A) → Fields (plain c) fs a → Live (plain (h a))) → Live (plain (follow c h))
  live_follow l m = subst Live (sym (plain-follow c h)) (live_bind (plain c) (λ a. plain (h a)) l m)

abbrev pub digest_of : ItemBody → List ℕ
digest_of i = i.digest

abbrev pub tag_of : PairBody → List ℕ
tag_of p = p.tag

pub items_coding : (n : ℕ) → Coding (plain (items_from n)) (flat_map item_fields) (λ xs. (length xs ≡ n) × AllByRecursion ItemIn xs)
items_coding n = records_coding item_number digest_of item_of 63 32 ItemIn (λ x h. h.digest) item_coding None None n

pub pairs_coding : (f n : ℕ) → Coding (plain (pairs_from f n)) (flat_map pair_fields) (λ xs. (length xs ≡ n) × AllByRecursion PairIn xs)
pairs_coding f n = records_coding pair_number tag_of pair_of 255 16 PairIn (λ x h. h.tag) pair_coding (Some f) None n

-- the bytes of the fields
pub items-bytes : (xs : List ItemBody) → written (flat_map item_fields xs) ≡ flat_map item_bytes xs
items-bytes xs = piece_bytes_lem item_number digest_of xs

pub pairs-bytes : (xs : List PairBody) → written (flat_map pair_fields xs) ≡ flat_map pair_bytes xs
pairs-bytes xs = piece_bytes_lem pair_number tag_of xs

pub sealed-bytes : (w : ℕ) (s : SealedBody) → written (sealed_fields w s) ≡ sealed_bytes w s
sealed-bytes w s =
    let is = s.entry.items in
    let head = be w s.entry.version in
    let rest : written (flat_map item_fields is ++ flat_map pair_fields s.pairs) ≡ flat_map item_bytes is ++ flat_map pair_bytes s.pairs =
    written-append (flat_map item_fields is) (flat_map pair_fields s.pairs) ∙ (λ i. items-bytes is i ++ pairs-bytes s.pairs i) in
    ap (λ x. head ++ (length is ∷ x)) rest
    ∙ sym (append_assoc head (length is ∷ []) (flat_map item_bytes is ++ flat_map pair_bytes s.pairs))
    ∙ sym (append_assoc (head_bytes w s.entry.version (length is)) (flat_map item_bytes is) (flat_map pair_bytes s.pairs))

pub entries-bytes : (w : ℕ) (ss : List SealedBody) → written (flat_map (sealed_fields w) ss) ≡ flat_map (sealed_bytes w) ss
entries-bytes w [] = refl
entries-bytes w (s ∷ ss) = written-append (sealed_fields w s) (flat_map (sealed_fields w) ss) ∙ (λ i. sealed-bytes w s i ++ entries-bytes w ss i)

pub proof-bytes : (w : ℕ) (b : ProofBody) → written (proof_fields w b) ≡ proof_bytes w b
proof-bytes w b = λ i. 4 ∷ (be w b.low ++ (be w b.high ++ entries-bytes w b.entries i))

-- a sealed entry
abbrev sealed_end : ℕ → List ItemBody → List PairBody → Ruled SealedBody
sealed_end v is ps = end (record { entry = record { version = v; items = is }; pairs = ps })

abbrev sealed_pairs : ℕ → ℕ → List ItemBody → Ruled SealedBody
sealed_pairs f v is = follow (pairs_from f (f + 1)) (λ ps. sealed_end v is ps)

pub sealed-of : (w f due : ℕ) (fs : List Field) (s : SealedBody) → Fields (plain (sealed_from w f due)) fs s → (fs ≡ sealed_fields w s) × SealedIn f due s
sealed-of w f due [] s h = absurd h
sealed-of w f due (str t ∷ fs) s h = absurd h
sealed-of w f due (num x v ∷ []) s h = absurd h.3
sealed-of w f due (num x v ∷ (str t ∷ fs)) s h = absurd h.3
sealed-of w f due (num x v ∷ (num y n ∷ fs)) s h =
    let in_range = and_parts (leb 1 n) (leb n 8) h.3.2 in
    let a = two-follow (items_from n) (sealed_pairs f v) fs s h.3.3 in
    let b = two-follow (pairs_from f (f + 1)) (sealed_end v a.holds) a.rest s a.second in
    let z = opened (done (record { entry = record { version = v; items = a.holds }; pairs = b.holds })) b.rest s b.second in
    let is = (items_coding n).of a.front a.holds a.first in
    let ps = (pairs_coding f (f + 1)).of b.front b.holds b.first in
    let behind : a.rest ≡ flat_map pair_fields b.holds = b.is ∙ ap (λ l. b.front ++ l) z.0 ∙ append-nil b.front ∙ ps.0 in
    let rest : fs ≡ flat_map item_fields a.holds ++ flat_map pair_fields b.holds = a.is ∙ (λ i. is.0 i ++ behind i) in
    subst (λ t. (num x v ∷ (num y n ∷ fs) ≡ sealed_fields w t) × SealedIn f due t) z.1 (
      (λ i. num (h.0 i) v ∷ num (h.3.0 i) (sym is.1.0 i) ∷ rest i),
      record {
        dated = eqb-true v due h.2;
        some = omega (arith, leb-true 1 n in_range.0, is.1.0);
        few = omega (arith, leb-true n 8 in_range.1, is.1.0);
        items = is.1.1;
        sealed = ps.1.0;
        pairs = ps.1.1;
      },
    )

pub sealed_to : (w f due : ℕ) (s : SealedBody) → due ≤ limit w → SealedIn f due s → Fields (plain (sealed_from w f due)) (sealed_fields w s) s
sealed_to w f due s fits h =
    let v = s.entry.version in
    let is = s.entry.items in
    let n = length is in
    let ps = (pairs_coding f (f + 1)).to s.pairs (h.sealed, h.pairs) in
    let last = joins_follow (pairs_from f (f + 1)) (sealed_end v is) (flat_map pair_fields s.pairs) [] s.pairs s ps refl in
    let pairs = subst (λ l. Fields (plain (sealed_pairs f v is)) l s) (append-nil (flat_map pair_fields s.pairs)) last in (
      refl,
      subst (λ x. x ≤ limit w) (sym h.dated) fits,
      eq-eqb v due h.dated,
      (
        refl,
        omega (arith, h.few),
        and_from (leb 1 n) (leb n 8) (le-leb 1 n h.some) (le-leb n 8 h.few),
        joins_follow (items_from n) (sealed_pairs f v) (flat_map item_fields is) (flat_map pair_fields s.pairs) is s ((items_coding n).to is (refl, h.items)) pairs,
      ),
    )

-- entries of one version after the other
abbrev entries_rest : ℕ → ℕ → ℕ → ℕ → SealedBody → Ruled (List SealedBody)
entries_rest w f due n one = follow (entries_from w f (due + 1) n) (λ rest. end (one ∷ rest))

pub entries-of : (w f due n : ℕ) (fs : List Field) (ss : List SealedBody) → Fields (plain (entries_from w f due n)) fs ss → (fs ≡ flat_map (sealed_fields w) ss) × (length ss ≡ n) × EntriesIn f due ss
entries-of w f due zero fs ss h =
    let z = opened (done []) fs ss h in
    subst (λ xs. (fs ≡ flat_map (sealed_fields w) xs) × (length xs ≡ 0) × EntriesIn f due xs) z.1 (z.0, refl, tt)
entries-of w f due (suc n) fs ss h =
    let a = two-follow (sealed_from w f due) (entries_rest w f due n) fs ss h in
    let b = two-follow (entries_from w f (due + 1) n) (λ rest. end (a.holds ∷ rest)) a.rest ss a.second in
    let z = opened (done (a.holds ∷ b.holds)) b.rest ss b.second in
    let one = sealed-of w f due a.front a.holds a.first in
    let more = entries-of w f (due + 1) n b.front b.holds b.first in
    let behind : a.rest ≡ flat_map (sealed_fields w) b.holds = b.is ∙ ap (λ l. b.front ++ l) z.0 ∙ append-nil b.front ∙ more.0 in
    subst (λ xs. (fs ≡ flat_map (sealed_fields w) xs) × (length xs ≡ suc n) × EntriesIn f due xs) z.1
    (a.is ∙ (λ i. one.0 i ++ behind i), ap suc more.1, (one.1, more.2))

pub entries_to : (w f due : ℕ) (ss : List SealedBody) → due + length ss ≤ limit w + 1 → EntriesIn f due ss → Fields (plain (entries_from w f due (length ss))) (flat_map (sealed_fields w) ss) ss
entries_to w f due [] fits h = refl
entries_to w f due (s ∷ ss) fits h =
    let n = length ss in
    let more = entries_to w f (due + 1) ss (omega (arith, fits)) h.1 in
    let last = joins_follow (entries_from w f (due + 1) n) (λ rest. end (s ∷ rest)) (flat_map (sealed_fields w) ss) [] ss (s ∷ ss) more refl in
    joins_follow (sealed_from w f due) (entries_rest w f due n) (sealed_fields w s) (flat_map (sealed_fields w) ss) s (s ∷ ss)
    (sealed_to w f due s (omega (arith, fits)) h.0)
    (subst (λ l. Fields (plain (entries_rest w f due n s)) l (s ∷ ss)) (append-nil (flat_map (sealed_fields w) ss)) last)

-- the versions of a range are within the limit
pub range-fits : (w low high : ℕ) → low ≤ limit w → high ≤ limit w → range low high ≡ true → low + (high + 1 - low) ≤ limit w + 1
range-fits w low high lows fits r =
    elim (or_cases (leb low high && leb high (low + 31)) (eqb low 1 && eqb high 0) r) [
      | inl a ↦ omega (arith, leb-true low high (and_parts (leb low high) (leb high (low + 31)) a).0, fits)
      | inr a ↦
          let p = and_parts (eqb low 1) (eqb high 0) a in
          omega (arith, eqb-true low 1 p.0, eqb-true high 0 p.1, lows)
    ]

abbrev proof_end : ℕ → ℕ → List SealedBody → Ruled ProofBody
proof_end low high ss = end (record { low = low; high = high; entries = ss })

proof-of : (w f : ℕ) (fs : List Field) (b : ProofBody) → Fields (plain (proof_ruled w f)) fs b → (fs ≡ proof_fields w b) × ProofIn w f b
proof-of w f [] b h = absurd h
proof-of w f (str t ∷ fs) b h = absurd h
proof-of w f (num x kind ∷ []) b h = absurd h.3
proof-of w f (num x kind ∷ (str t ∷ fs)) b h = absurd h.3
proof-of w f (num x kind ∷ (num y low ∷ [])) b h = absurd h.3.3
proof-of w f (num x kind ∷ (num y low ∷ (str t ∷ fs))) b h = absurd h.3.3
proof-of w f (num x kind ∷ (num y low ∷ (num z high ∷ fs))) b h =
    let l = h.3 in
    let r = l.3 in
    let n = high + 1 - low in
    let a = two-follow (entries_from w f low n) (proof_end low high) fs b r.3 in
    let e = opened (done (record { low = low; high = high; entries = a.holds })) a.rest b a.second in
    let ss = entries-of w f low n a.front a.holds a.first in
    let rest : fs ≡ flat_map (sealed_fields w) a.holds = a.is ∙ ap (λ q. a.front ++ q) e.0 ∙ append-nil a.front ∙ ss.0 in
    let four = eqb-true kind 4 h.2 in
    subst (λ t. (num x kind ∷ (num y low ∷ (num z high ∷ fs)) ≡ proof_fields w t) × ProofIn w f t) e.1 (
      (λ i. num (h.0 i) (four i) ∷ num (l.0 i) low ∷ num (r.0 i) high ∷ rest i),
      record {
        low-some = leb-true 1 low (and_parts (leb 1 low) (leb low (limit w)) l.2).0;
        low_fits = l.1;
        high_fits = r.1;
        ranged = r.2;
        count = ss.1;
        entries = ss.2;
      },
    )

proof_to : (w f : ℕ) (b : ProofBody) → ProofIn w f b → Fields (plain (proof_ruled w f)) (proof_fields w b) b
proof_to w f b h =
    let low = b.low in
    let ss = b.entries in
    let n = b.high + 1 - low in
    let fits = range-fits w low b.high h.low_fits h.high_fits h.ranged in
    let few : low + length ss ≤ limit w + 1 = subst (λ k. low + k ≤ limit w + 1) (sym h.count) fits in
    let all = subst (λ k. Fields (plain (entries_from w f low k)) (flat_map (sealed_fields w) ss) ss) h.count (entries_to w f low ss few h.entries) in
    let last = joins_follow (entries_from w f low n) (proof_end low b.high) (flat_map (sealed_fields w) ss) [] ss b all refl in (
      refl,
      omega arith,
      refl,
      (
        refl,
        h.low_fits,
        and_from (leb 1 low) (leb low (limit w)) (le-leb 1 low h.low-some) (le-leb low (limit w) h.low_fits),
        (
          refl,
          h.high_fits,
          h.ranged,
          subst (λ l. Fields (plain (follow (entries_from w f low n) (proof_end low b.high))) l b) (append-nil (flat_map (sealed_fields w) ss)) last,
        ),
      ),
    )

pub proof_coding : (w f : ℕ) → Coding (plain (proof_ruled w f)) (proof_fields w) (ProofIn w f)
proof_coding w f = record { of = proof-of w f; to = proof_to w f }

-- each next field can be in range
live_sealed : (w f due : ℕ) → due ≤ limit w → Live (plain (sealed_from w f due))
live_sealed w f due fits = (
  (due, fits, eq-eqb due due refl),
  λ v a o. (
    (1, omega arith, refl),
    λ n c d.
        live_follow (items_from n) (sealed_pairs f v) (live_records item_of 63 32 None n None)
        (λ fs is fr.
        live_follow (pairs_from f (f + 1)) (sealed_end v is) (live_records pair_of 255 16 (Some f) (f + 1) None) (λ gs ps gr. tt)),
  ),
)

live_entries : (w f due n : ℕ) → due + n ≤ limit w + 1 → Live (plain (entries_from w f due n))
live_entries w f due zero fits = tt
live_entries w f due (suc n) fits =
    live_follow (sealed_from w f due) (entries_rest w f due n) (live_sealed w f due (omega (arith, fits)))
    (λ fs s fr. live_follow (entries_from w f (due + 1) n) (λ rest. end (s ∷ rest)) (live_entries w f (due + 1) n (omega (arith, fits))) (λ gs ss gr. tt))

-- 1 fits every width but 0
one-fits : (w : ℕ) → 1 ≤ limit (suc w)
one-fits w = omega (arith, power_more w, pow_pos (8 * w))

same-range : (low : ℕ) → range low low ≡ true
same-range low = or_left (leb low low && leb low (low + 31)) (eqb low 1 && eqb low 0) (and_from (leb low low) (leb low (low + 31)) (le-leb low low (omega arith)) (le-leb low (low + 31) (omega arith)))

pub proof_live : (w f : ℕ) → Live (plain (proof_ruled (suc w) f))
proof_live w f = (
  (4, omega arith, refl),
  λ kind a o. (
    (1, one-fits w, and_from (leb 1 1) (leb 1 (limit (suc w))) refl (le-leb 1 (limit (suc w)) (one-fits w))),
    λ low b p. (
      (low, b, same-range low),
      λ high c q.
          live_follow (entries_from (suc w) f low (high + 1 - low)) (proof_end low high) (live_entries (suc w) f low (high + 1 - low) (range-fits (suc w) low high b c q)) (λ fs ss fr. tt),
    ),
  ),
)

-- the rows are neat
tidy_sealed : (w f due : ℕ) → Tidy Proof (sealed_from w f due)
tidy_sealed w f due = (
  λ n at. tt,
  λ v. (
    λ n at. tt,
    λ n.
        tidy_follow Proof (items_from n) (sealed_pairs f v) (tidy_records item_of 63 32 None n None)
        (λ is. tidy_follow Proof (pairs_from f (f + 1)) (sealed_end v is) (tidy_records pair_of 255 16 (Some f) (f + 1) None) (λ ps. tt)),
  ),
)

tidy_entries : (w f due n : ℕ) → Tidy Proof (entries_from w f due n)
tidy_entries w f due zero = tt
tidy_entries w f due (suc n) =
    tidy_follow Proof (sealed_from w f due) (entries_rest w f due n) (tidy_sealed w f due)
    (λ s. tidy_follow Proof (entries_from w f (due + 1) n) (λ rest. end (s ∷ rest)) (tidy_entries w f (due + 1) n) (λ ss. tt))

pub proof_tidy : (w f : ℕ) → Tidy Proof (proof_ruled w f)
proof_tidy w f = (
  λ n at. tt,
  λ kind. (
    λ n at. tt,
    λ low. (
      λ n at. tt,
      λ high. tidy_follow Proof (entries_from w f low (high + 1 - low)) (proof_end low high) (tidy_entries w f low (high + 1 - low)) (λ ss. tt),
    ),
  ),
)

-- the rows on the records of a proof, entry by entry
abbrev pub sealed_table : ℕ → ℕ → ℕ → SealedBody → List (Bool × Fault)
sealed_table w f at s = table None None (item_spots w at s) ++ table (Some f) None (pair_spots w at s)

abbrev pub entries_table : ℕ → ℕ → ℕ → List SealedBody → List (Bool × Fault)
entries_table w f at [] = []
entries_table w f at (s ∷ ss) = sealed_table w f at s ++ entries_table w f (at + length (sealed_bytes w s)) ss

-- where the last format adds nothing, its rows are those before it
rows_last : {A B : Type 0} (c : Ruled A) (h : A → B) (fs : List Field) (a : A) (at : ℕ) → Fields (plain c) fs a → rows (follow c (λ x. end (h x))) fs at ≡ rows c fs at
rows_last c h fs a at fr =
    ap (λ l. rows (follow c (λ x. end (h x))) l at) (sym (append-nil fs))
    ∙ rows-follow c (λ x. end (h x)) fs [] a at fr
    ∙ append-nil (rows c fs at)

rows-sealed : (w f due : ℕ) (s : SealedBody) (at : ℕ) → SealedIn f due s → rows (sealed_from w f due) (sealed_fields w s) at ≡ sealed_table w f at s
rows-sealed w f due s at h =
    let v = s.entry.version in
    let is = s.entry.items in
    let ps = s.pairs in
    let n = length is in
    let start = at + w + 1 in
    let mid = start + length (written (flat_map item_fields is)) in
    let pair-make : List PairBody → SealedBody = λ qs. record { entry = record { version = v; items = is }; pairs = qs } in
    let items = rows_records item_number digest_of item_of 63 32 ItemIn (λ x q. q.digest) item_coding None None is start h.items in
    let count : f + 1 ≡ length ps = sym h.sealed in
    let pairs : rows (pairs_from f (f + 1)) (flat_map pair_fields ps) mid ≡ table (Some f) None (pair_spots w at s) =
    ap (λ k. rows (pairs_from f k) (flat_map pair_fields ps) mid) count
    ∙ rows_records pair_number tag_of pair_of 255 16 PairIn (λ x q. q.tag) pair_coding (Some f) None ps mid h.pairs
    ∙ ap (λ j. table (Some f) None (spots pair_number pair_fields j ps)) (omega (arith, ap length (items-bytes is), length-append (head_bytes w v n) (flat_map item_bytes is), length-append (be w v) (n ∷ []), length-be w v))
    in
    rows-follow (items_from n) (sealed_pairs f v) (flat_map item_fields is) (flat_map pair_fields ps) is start ((items_coding n).to is (refl, h.items))
    ∙ (λ i. items i ++ (rows_last (pairs_from f (f + 1)) pair-make (flat_map pair_fields ps) ps mid ((pairs_coding f (f + 1)).to ps (h.sealed, h.pairs)) ∙ pairs) i)

rows-entries : (w f due : ℕ) (ss : List SealedBody) (at : ℕ) → due + length ss ≤ limit w + 1 → EntriesIn f due ss → rows (entries_from w f due (length ss)) (flat_map (sealed_fields w) ss) at ≡ entries_table w f at ss
rows-entries w f due [] at fits h = refl
rows-entries w f due (s ∷ ss) at fits h =
    let n = length ss in
    let c = entries_from w f (due + 1) n in
    let fs = flat_map (sealed_fields w) ss in
    let here = at + length (written (sealed_fields w s)) in
    let more : due + 1 + n ≤ limit w + 1 = omega (arith, fits) in
    let rest : rows (entries_rest w f due n s) fs here ≡ entries_table w f (at + length (sealed_bytes w s)) ss =
    rows_last c (λ xs. s ∷ xs) fs ss here (entries_to w f (due + 1) ss more h.1)
    ∙ rows-entries w f (due + 1) ss here more h.1
    ∙ ap (λ x. entries_table w f (at + length x) ss) (sealed-bytes w s)
    in
    rows-follow (sealed_from w f due) (entries_rest w f due n) (sealed_fields w s) fs s at (sealed_to w f due s (omega (arith, fits)) h.0)
    ∙ (λ i. rows-sealed w f due s at h.0 i ++ rest i)

pub rows-proof : (w f : ℕ) (b : ProofBody) → ProofIn w f b → rows (proof_ruled w f) (proof_fields w b) 0 ≡ entries_table w f (entries_at w) b.entries
rows-proof w f b h =
    let low = b.low in
    let ss = b.entries in
    let n = b.high + 1 - low in
    let fs = flat_map (sealed_fields w) ss in
    let fits = range-fits w low b.high h.low_fits h.high_fits h.ranged in
    let few : low + length ss ≤ limit w + 1 = subst (λ k. low + k ≤ limit w + 1) (sym h.count) fits in
    let all = subst (λ k. Fields (plain (entries_from w f low k)) fs ss) h.count (entries_to w f low ss few h.entries) in
    rows_last (entries_from w f low n) (λ xs. record { low = low; high = b.high; entries = xs }) fs ss (entries_at w) all
    ∙ ap (λ k. rows (entries_from w f low k) fs (entries_at w)) (sym h.count)
    ∙ rows-entries w f low ss (entries_at w) few h.entries
