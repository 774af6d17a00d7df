-- Records of a number and a string: items with their digests, pairs of signer and tag.
use Rattle.std.proofs.Common.{◌≡◌, ℕ, zero, suc, ◌+◌, Bool, List, [], ◌∷◌, ◌++◌, length, Some, None, Option, sym, refl, ap, ◌∙◌, subst, arith}
use Rattle.std.specs.List.{flat_map, AllByRecursion}
use Rattle.std.proofs.lemmas.List.{append-nil, length-append}
use Rattle.std.proofs.lemmas.Bool.{le-leb, leb-true}
use Rattle.fault.specs.declared.Fault.{Fault}
use Rattle.fault.specs.declared.Layer.TheVariants.{Proof}
use Rattle.record.specs.Formats.{Format, number, string, done, ◌>>=◌, repeat, up_to, Field, num, str, written}
use Rattle.record.specs.Rules.{Spot, spots}
use Rattle.record.proofs.Paths.{Live, live_repeat}
use Rattle.record.proofs.Codings.{Coding, opened, repeated}
use Rattle.entry.specs.Bodies.{ItemBody, PairBody}
use Rattle.ruled.specs.Ruled.{Ruled, end, follow, plain, rows}
use Rattle.ruled.proofs.Tables.{Neat}
use Rattle.ruled.proofs.Scans.{plain-follow, rows-follow}
use Rattle.ruled.proofs.Least.{Tidy, tidy_follow}
use Rattle.proof.specs.Bodies.{item_fields, pair_fields, ItemIn, PairIn}
use Rattle.proof.specs.Rules.{numbered, records_from}

-- one record
abbrev pub record_format : {R : Type 0} → (ℕ → List ℕ → R) → ℕ → ℕ → Format R
record_format make top size = number 1 (up_to top) (λ k. string size (λ s. done (make k s)))

module _ {R : Type 0} (make : ℕ → List ℕ → R) (top size : ℕ) (asked : Option ℕ) where
  -- rule 1 alone asks for n records
  pub plain_records : (n : ℕ) (last : Option ℕ) → plain (records_from make top size asked n last) ≡ repeat n (record_format make top size)
  plain_records zero last = refl
  plain_records (suc n) last =
      let one : (k : ℕ) (s : List ℕ) → plain (follow (records_from make top size asked n (Some k)) (λ rest. end (make k s ∷ rest))) ≡ repeat n (record_format make top size) >>= (λ rest. done (make k s ∷ rest)) = λ k s.
      plain-follow (records_from make top size asked n (Some k)) (λ rest. end (make k s ∷ rest))
      ∙ ap (λ g. g >>= (λ rest. done (make k s ∷ rest))) (plain_records n (Some k))
      in
      λ i. number 1 (up_to top) (λ k. string size (λ s. one k s i))

  pub live_records : (n : ℕ) (last : Option ℕ) → Live (plain (records_from make top size asked n last))
  live_records n last = subst Live (sym (plain_records n last)) (live_repeat n (record_format make top size) ((0, omega arith, le-leb 0 top (omega arith)), λ k fits o. λ s long all. tt))

  neat_numbered : (asked last : Option ℕ) (n at : ℕ) → Neat Proof 1 at 0 (numbered asked last n at)
  neat_numbered None last n at = (refl, refl, refl, omega arith, tt)
  neat_numbered (Some f) last n at = (refl, refl, refl, omega arith, (refl, refl, refl, omega arith, tt))

  pub tidy_records : (n : ℕ) (last : Option ℕ) → Tidy Proof (records_from make top size asked n last)
  tidy_records zero last = tt
  tidy_records (suc n) last = (
    λ k at. neat_numbered asked last k at,
    λ k s. tidy_follow Proof (records_from make top size asked n (Some k)) (λ rest. end (make k s ∷ rest)) (tidy_records n (Some k)) (λ rest. tt),
  )

-- the rows on records with a number and a place
abbrev pub table : Option ℕ → Option ℕ → List Spot → List (Bool × Fault)
table asked last [] = []
table asked last (s ∷ ss) = numbered asked last s.number s.place ++ table asked (Some s.number) ss

-- a kind of record: its number and string, and when it is in range
module _ {R : Type 0} (key : R → ℕ) (body : R → List ℕ) where
  abbrev pub pieces : R → List Field
  pieces r = num 1 (key r) ∷ str (body r) ∷ []

  abbrev pub piece_bytes : R → List ℕ
  piece_bytes r = key r ∷ body r

  pub piece_bytes_lem : (xs : List R) → written (flat_map pieces xs) ≡ flat_map piece_bytes xs
  piece_bytes_lem [] = refl
  piece_bytes_lem (x ∷ xs) = λ i. key x ∷ (body x ++ piece_bytes_lem xs i)

  pub piece_length : (x : R) (size : ℕ) → length (body x) ≡ size → length (written (pieces x)) ≡ 1 + size
  piece_length x size e = omega (arith, length-append (body x) [], e)

  module _ (make : ℕ → List ℕ → R) (top size : ℕ) (In : R → Type 0) (sized : (x : R) → In x → length (body x) ≡ size) (coding : Coding (record_format make top size) pieces In) where
    pub records_coding : (asked last : Option ℕ) (n : ℕ) → Coding (plain (records_from make top size asked n last)) (flat_map pieces) (λ xs. (length xs ≡ n) × AllByRecursion In xs)
    records_coding asked last n = subst (λ g. Coding g (flat_map pieces) (λ xs. (length xs ≡ n) × AllByRecursion In xs)) (sym (plain_records make top size asked n last)) (repeated (record_format make top size) pieces In coding n)

    pub rows_records : (asked last : Option ℕ) (xs : List R) (at : ℕ) → AllByRecursion In xs → rows (records_from make top size asked (length xs) last) (flat_map pieces xs) at ≡ table asked last (spots key pieces at xs)
    rows_records asked last [] at h = refl
    rows_records asked last (x ∷ xs) at h =
        let c = records_from make top size asked (length xs) (Some (key x)) in
        let g : List R → Ruled (List R) = λ rest. end (make (key x) (body x) ∷ rest) in
        let fs = flat_map pieces xs in
        let fr = (records_coding asked (Some (key x)) (length xs)).to xs (refl, h.1) in
        let next : at + 1 + size ≡ at + length (written (pieces x)) = omega (arith, piece_length x size (sized x h.0)) in
        let rest : rows (follow c g) fs (at + 1 + size) ≡ table asked (Some (key x)) (spots key pieces (at + length (written (pieces x))) xs) =
        ap (λ l. rows (follow c g) l (at + 1 + size)) (sym (append-nil fs))
        ∙ rows-follow c g fs [] xs (at + 1 + size) fr
        ∙ append-nil (rows c fs (at + 1 + size))
        ∙ rows_records asked (Some (key x)) xs (at + 1 + size) h.1
        ∙ ap (λ j. table asked (Some (key x)) (spots key pieces j xs)) next
        in
        ap (λ l. numbered asked last (key x) at ++ l) rest

-- items and pairs
abbrev pub item_of : ℕ → List ℕ → ItemBody
item_of k s = record { item = k; digest = s }

abbrev pub pair_of : ℕ → List ℕ → PairBody
pair_of k s = record { signer = k; tag = s }

pub item_coding : Coding (record_format item_of 63 32) item_fields ItemIn
item_coding =
    record {
      of = λ fs b h.
          let one = opened (record_format item_of 63 32) fs b h in
          let two = one.3.2 in
          let last = two.3.2 in
          subst (λ x. (fs ≡ item_fields x) × ItemIn x) last.1 (
            one.3.1 ∙ (λ i. num 1 one.0 ∷ two.3.1 i) ∙ (λ i. num 1 one.0 ∷ str two.0 ∷ last.0 i),
            record { item = leb-true one.0 63 one.2; digest = two.1; bytes = two.2 },
          );
      to = λ b h. (refl, omega (arith, h.item), le-leb b.item 63 h.item, (h.digest, h.bytes, refl));
    }

pub pair_coding : Coding (record_format pair_of 255 16) pair_fields PairIn
pair_coding =
    record {
      of = λ fs b h.
          let one = opened (record_format pair_of 255 16) fs b h in
          let two = one.3.2 in
          let last = two.3.2 in
          subst (λ x. (fs ≡ pair_fields x) × PairIn x) last.1 (
            one.3.1 ∙ (λ i. num 1 one.0 ∷ two.3.1 i) ∙ (λ i. num 1 one.0 ∷ str two.0 ∷ last.0 i),
            record { signer = one.1; tag = two.1; bytes = two.2 },
          );
      to = λ b h. (refl, h.signer, le-leb b.signer 255 h.signer, (h.tag, h.bytes, refl));
    }
