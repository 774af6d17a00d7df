-- Sealed entries where they lie in a frame: their sizes, and the place of each.
use Rattle.std.proofs.Common.{◌≡◌, ℕ, zero, suc, ◌+◌, ◌-◌, ◌*◌, ◌<◌, ◌≤◌, true, ◌&&◌, eqb, leb, List, [], ◌∷◌, ◌++◌, length, get_or, take, drop, sym, refl, ap, ◌∙◌, subst, inl, inr, le_of_suc-le-suc, not-suc-le-zero, mul-le-mul_right, mul-suc, arith}
use Rattle.std.specs.List.{flat_map, AllByRecursion}
use Rattle.std.proofs.lemmas.List.{append_assoc, append-nil, length-append, drop_at}
use Rattle.std.proofs.lemmas.Bool.{leb-true, eqb-true, and_parts, or_cases}
use Rattle.octets.specs.Numbers.{limit, be, number_at}
use Rattle.octets.specs.Parts.{part_at}
use Rattle.octets.proofs.NumberLaws.{length-be}
use Rattle.entry.specs.Bodies.{PairBody, SealedBody, item_bytes, head_bytes, entry_bytes, pair_bytes, sealed_bytes}
use Rattle.ruled.proofs.Scans.{lies, number_lies}
use Rattle.proof.specs.Bodies.{ProofBody, ItemIn, PairIn, SealedIn, EntriesIn, range}
use Rattle.proof.specs.Rules.{item_number, pair_number}
use Rattle.proof.specs.Parts.{Holds, entry_place}
use Rattle.proof.proofs.Frames.{digest_of, tag_of, range-fits}
use Rattle.proof.proofs.Strides.{stride_length}
use Rattle.proof.specs.declared.read.Proof.{Proof as Frame}

-- how many bytes a sealed entry takes
pub body_size : (w : ℕ) (s : SealedBody) → AllByRecursion ItemIn s.entry.items → length (entry_bytes w s.entry) ≡ w + 1 + 33 * length s.entry.items
body_size w s h =
    let is = s.entry.items in
    let head = head_bytes w s.entry.version (length is) in
    length-append head (flat_map item_bytes is)
    ∙ omega (arith, length-append (be w s.entry.version) (length is ∷ []), length-be w s.entry.version, stride_length item_number digest_of 32 ItemIn (λ x q. q.digest) is h)

pub pairs_size : (ps : List PairBody) → AllByRecursion PairIn ps → length (flat_map pair_bytes ps) ≡ 17 * length ps
pairs_size ps h = stride_length pair_number tag_of 16 PairIn (λ x q. q.tag) ps h

pub sealed_size_lem : (w f due : ℕ) (s : SealedBody) → SealedIn f due s → length (sealed_bytes w s) ≡ w + 1 + 33 * length s.entry.items + 17 * (f + 1)
sealed_size_lem w f due s h =
    length-append (entry_bytes w s.entry) (flat_map pair_bytes s.pairs)
    ∙ omega (arith, body_size w s h.items, pairs_size s.pairs h.pairs, h.sealed)

-- the parts of a sealed entry that lies at a place
pub record LaidAt (bs : List ℕ) (at f : ℕ) (s : SealedBody) : Type 0 where
  pub version : number_at bs at 2 ≡ s.entry.version
  pub writes : get_or bs (at + 2) 0 ≡ length s.entry.items
  pub body : part_at bs at (3 + 33 * length s.entry.items) ≡ entry_bytes 2 s.entry
  pub pairs : part_at bs (at + (3 + 33 * length s.entry.items)) (17 * (f + 1)) ≡ flat_map pair_bytes s.pairs
  pub room : at + (3 + 33 * length s.entry.items) + 17 * (f + 1) ≤ length bs

pub laid : (bs pre post : List ℕ) (f due at : ℕ) (s : SealedBody) → SealedIn f due s → due ≤ limit 2 → bs ≡ pre ++ (sealed_bytes 2 s ++ post) → length pre ≡ at → LaidAt bs at f s
laid bs pre post f due at s h fits e long =
    let v = s.entry.version in
    let is = s.entry.items in
    let n = length is in
    let ps = flat_map pair_bytes s.pairs in
    let its = flat_map item_bytes is in
    let start : at ≤ length bs = omega (arith, ap length e, length-append pre (sealed_bytes 2 s ++ post), long) in
    let lay : drop at bs ≡ sealed_bytes 2 s ++ post = ap (drop at) e ∙ drop_at pre (sealed_bytes 2 s ++ post) at long in
    let small : v ≤ limit 2 = subst (λ x. x ≤ limit 2) (sym h.dated) fits in
    let head : drop at bs ≡ be 2 v ++ (n ∷ ((its ++ ps) ++ post)) = lay in
    let two = lies bs (be 2 v) (n ∷ ((its ++ ps) ++ post)) at 2 start refl head in
    let whole : drop at bs ≡ entry_bytes 2 s.entry ++ (ps ++ post) = lay ∙ append_assoc (entry_bytes 2 s.entry) ps post in
    let one = lies bs (entry_bytes 2 s.entry) (ps ++ post) at (3 + 33 * n) start (body_size 2 s h.items) whole in
    let size : length ps ≡ 17 * (f + 1) = pairs_size s.pairs h.pairs ∙ ap (λ k. 17 * k) h.sealed in
    let three = lies bs ps post (at + (3 + 33 * n)) (17 * (f + 1)) one.room size one.behind in
    record {
      version = number_lies bs (n ∷ ((its ++ ps) ++ post)) at 2 v start small head;
      writes = number_lies bs ((its ++ ps) ++ post) (at + 2) 1 n two.room (omega (arith, h.few)) two.behind;
      body = one.part;
      pairs = three.part;
      room = three.room;
    }

-- the entry at an index, and the bytes before and behind it
pub record Split (w f due : ℕ) (ss : List SealedBody) (k : ℕ) (d : SealedBody) : Type 0 where
  pub rest : List ℕ
  pub bytes : flat_map (sealed_bytes w) ss ≡ flat_map (sealed_bytes w) (take k ss) ++ (sealed_bytes w (get_or ss k d) ++ rest)
  pub in_range : SealedIn f (due + k) (get_or ss k d)
  pub next : flat_map (sealed_bytes w) (take (k + 1) ss) ≡ flat_map (sealed_bytes w) (take k ss) ++ sealed_bytes w (get_or ss k d)

pub split_at : (w f due : ℕ) (ss : List SealedBody) (k : ℕ) (d : SealedBody) → EntriesIn f due ss → k < length ss → Split w f due ss k d
split_at w f due [] k d h below = absurd (not-suc-le-zero below)
split_at w f due (s ∷ ss) zero d h below =
    let e : due ≡ due + 0 = omega arith in
    record { rest = flat_map (sealed_bytes w) ss; bytes = refl; in_range = subst (λ x. SealedIn f x s) e h.0; next = append-nil (sealed_bytes w s) }
split_at w f due (s ∷ ss) (suc k) d h below =
    let r = split_at w f (due + 1) ss k d h.1 (le_of_suc-le-suc below) in
    let e : due + 1 + k ≡ due + suc k = omega arith in
    let one : suc k + 1 ≡ suc (k + 1) = omega arith in
    let y = get_or ss k d in
    let front = flat_map (sealed_bytes w) (take k ss) in
    record {
      rest = r.rest;
      bytes = ap (λ l. sealed_bytes w s ++ l) r.bytes ∙ sym (append_assoc (sealed_bytes w s) front (sealed_bytes w y ++ r.rest));
      in_range = subst (λ x. SealedIn f x y) e r.in_range;
      next = ap (λ j. flat_map (sealed_bytes w) (take j (s ∷ ss))) one ∙ ap (λ l. sealed_bytes w s ++ l) r.next ∙ sym (append_assoc (sealed_bytes w s) front (sealed_bytes w y));
    }

-- entries take at most as many bytes as full ones
pub entries_bound : (w f due : ℕ) (ss : List SealedBody) (k : ℕ) → EntriesIn f due ss → length (flat_map (sealed_bytes w) (take k ss)) ≤ (w + 265 + 17 * (f + 1)) * k
entries_bound w f due ss zero h = omega arith
entries_bound w f due [] (suc k) h = omega arith
entries_bound w f due (s ∷ ss) (suc k) h =
    omega (
      arith,
      length-append (sealed_bytes w s) (flat_map (sealed_bytes w) (take k ss)),
      sealed_size_lem w f due s h.0,
      h.0.few,
      entries_bound w f (due + 1) ss k h.1,
      mul-suc (w + 265 + 17 * (f + 1)) k,
    )

-- a range has at most 32 versions
pub few-entries : (low high : ℕ) → range low high ≡ true → high + 1 - low ≤ 32
few-entries low high r =
    elim (or_cases (leb low high && leb high (low + 31)) (eqb low 1 && eqb high 0) r) [
      | inl a ↦ omega (arith, leb-true high (low + 31) (and_parts (leb low high) (leb high (low + 31)) a).1)
      | inr a ↦ let p = and_parts (eqb low 1) (eqb high 0) a in omega (arith, eqb-true low 1 p.0, eqb-true high 0 p.1)
    ]

-- entry k of a decoded proof lies in the frame
pub record LiesIn (f : ℕ) (p : Frame) (b : ProofBody) (k : ℕ) (d : SealedBody) : Type 0 where
  pub pre : List ℕ
  pub post : List ℕ
  pub bytes : p.frame.now ≡ pre ++ (sealed_bytes 2 (get_or b.entries k d) ++ post)
  pub place : length pre ≡ entry_place 2 b k
  pub near : entry_place 2 b k ≤ 1000000
  pub in_range : SealedIn f (b.low + k) (get_or b.entries k d)
  pub fits : b.low + k ≤ limit 2
  pub next : entry_place 2 b (k + 1) ≡ entry_place 2 b k + length (sealed_bytes 2 (get_or b.entries k d))

pub lies_in : (f : ℕ) (p : Frame) (b : ProofBody) (k : ℕ) (d : SealedBody) → Holds f p b → k < length b.entries → LiesIn f p b k d
lies_in f p b k d h below =
    let ss = b.entries in
    let y = get_or ss k d in
    let head = 4 ∷ (be 2 b.low ++ be 2 b.high) in
    let front = flat_map (sealed_bytes 2) (take k ss) in
    let r = split_at 2 f b.low ss k d h.in_range.entries below in
    let long : length (head ++ front) ≡ entry_place 2 b k = length-append head front in
    let count = h.in_range.count in
    let few = few-entries b.low b.high h.in_range.ranged in
    let bound = entries_bound 2 f b.low ss k h.in_range.entries in
    let width : 2 + 265 + 17 * (f + 1) ≤ 4619 = omega (arith, h.byte) in
    let more = mul-le-mul_right k width in
    record {
      pre = head ++ front;
      post = r.rest;
      bytes = h.frame ∙ ap (λ l. head ++ l) r.bytes ∙ sym (append_assoc head front (sealed_bytes 2 y ++ r.rest));
      place = long;
      near = omega (arith, bound, more, few, count, below);
      in_range = r.in_range;
      fits = omega (arith, range-fits 2 b.low b.high h.in_range.low_fits h.in_range.high_fits h.in_range.ranged, count, below);
      next = omega (arith, ap length r.next, length-append front (sealed_bytes 2 y));
    }
