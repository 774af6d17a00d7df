-- One turn of the loops over records and entries.
use Rattle.std.proofs.Common.{◌≡◌, ℕ, zero, suc, ◌+◌, ◌-◌, ◌<◌, ◌≤◌, Bool, true, false, leb, List, [], ◌∷◌, length, get_or, Some, None, Ok, Err, Option, Result, sym, refl, ap, ◌∙◌, arith}
use Rattle.std.proofs.lemmas.Bool.{le-leb, lt-leb}
use Rattle.fault.specs.declared.Fault.{Fault}
use Rattle.fault.specs.declared.Layer.TheVariants.{Proof}
use Rattle.fault.specs.declared.Cause.TheVariants.{Malformed}
use Rattle.fault.specs.Codes.{fault}
use Rattle.octets.specs.Numbers.{number_at}
use Rattle.octets.specs.Parts.{part_at}
use Rattle.record.specs.Chains.{unless, and_then, guards, tested}
use Rattle.record.specs.Formats.{is, up_to, within}
use Rattle.record.proofs.Steps.{never, pass, refuse, then_ok, then_err}
use Rattle.record.proofs.Rules.{unless_then}
use Rattle.entry.specs.Bodies.{ItemBody, PairBody, SealedBody}
use Rattle.ruled.specs.Ruled.{Ruled, end, follow, scan}
use Rattle.ruled.proofs.Scans.{scan-follow, scan_then}
use Rattle.proof.specs.Rules.{numbered, records_from, items_from, pairs_from, sealed_from, entries_from}
use Rattle.proof.specs.Ends.{end_of, records_to, count_of}

-- what a test and a table say by themselves, before an answer
module _ {A : Type 0} (r : Result A Fault) where
  tested_ok : (rows : List (Bool × Fault)) → tested rows ≡ Ok tt → guards rows r ≡ r
  tested_ok [] e = refl
  tested_ok (row ∷ rows) e = by_test row.0 refl (λ h. tested_ok rows h)
    where
      by_test : (b : Bool) → row.0 ≡ b → (tested rows ≡ Ok tt → guards rows r ≡ r) → guards (row ∷ rows) r ≡ r
      by_test true t rec = pass row.0 row.1 (guards rows r) t ∙ rec (sym (pass row.0 row.1 (tested rows) t) ∙ e)
      by_test false t rec = never row.1 tt (sym (refuse row.0 row.1 (tested rows) t) ∙ e)

  tested_err : (rows : List (Bool × Fault)) (f : Fault) → tested rows ≡ Err f → guards rows r ≡ Err f
  tested_err [] f e = never f tt (sym e)
  tested_err (row ∷ rows) f e = by_test row.0 refl (λ h. tested_err rows f h)
    where
      by_test : (b : Bool) → row.0 ≡ b → (tested rows ≡ Err f → guards rows r ≡ Err f) → guards (row ∷ rows) r ≡ Err f
      by_test true t rec = pass row.0 row.1 (guards rows r) t ∙ rec (sym (pass row.0 row.1 (tested rows) t) ∙ e)
      by_test false t rec =
          let same : row.1 ≡ f = let z = sym (refuse row.0 row.1 (tested rows) t) ∙ e in cc in
          refuse row.0 row.1 (guards rows r) t ∙ ap Err same

  pub judged_ok : (b : Bool) (d : Fault) (rows : List (Bool × Fault)) → unless b d (tested rows) ≡ Ok tt → unless b d (guards rows r) ≡ r
  judged_ok true d rows e = tested_ok rows e
  judged_ok false d rows e = never d tt e

  pub judged_err : (b : Bool) (d : Fault) (rows : List (Bool × Fault)) (f : Fault) → unless b d (tested rows) ≡ Err f → unless b d (guards rows r) ≡ Err f
  judged_err true d rows f e = tested_err rows f e
  judged_err false d rows f e = let same : d ≡ f = cc in ap Err same

-- one record more
module _ (top size : ℕ) (asked last : Option ℕ) (bs : List ℕ) (n i at : ℕ) (h : i < n) where
  abbrev pub number-there : ℕ
  number-there = get_or bs at 0

  abbrev pub left : Result ℕ Fault
  left = end_of (records_to top size asked (n - i) last) bs at

  abbrev pub rest : Result ℕ Fault
  rest = end_of (records_to top size asked (n - (i + 1)) (Some number-there)) bs (at + 1 + size)

  abbrev short : Fault
  short = fault Malformed Proof (length bs)

  abbrev bad : Fault
  bad = fault Malformed Proof at

  abbrev rows : List (Bool × Fault)
  rows = numbered asked last number-there at

  abbrev behind : Result ℕ Fault
  behind = unless (leb (at + 1 + size) (length bs)) short rest

  turn : left ≡ unless (leb (at + 1) (length bs)) short (unless (up_to top number-there) bad (guards rows behind))
  turn =
      let m : n - i ≡ suc (n - (i + 1)) = omega arith in
      ap (λ k. end_of (records_to top size asked k last) bs at) m
      ∙ ap (λ r. unless (leb (at + 1) (length bs)) short (unless (up_to top number-there) bad (guards rows (unless (leb (at + 1 + size) (length bs)) short r))))
      (scan-follow Proof bs (records_to top size asked (n - (i + 1)) (Some number-there)) (λ xs. end (tt ∷ xs)) (λ a e. Ok e) (at + 1 + size))

  pub no_number : length bs ≤ at → left ≡ Err short
  no_number s = turn ∙ refuse (leb (at + 1) (length bs)) short (unless (up_to top number-there) bad (guards rows behind)) (lt-leb (at + 1) (length bs) (omega arith))

  judged : at < length bs → left ≡ unless (up_to top number-there) bad (guards rows behind)
  judged s = turn ∙ pass (leb (at + 1) (length bs)) short (unless (up_to top number-there) bad (guards rows behind)) (le-leb (at + 1) (length bs) (omega arith))

  pub bad_number : (f : Fault) → at < length bs → unless (up_to top number-there) bad (tested rows) ≡ Err f → left ≡ Err f
  bad_number f s e = judged s ∙ judged_err behind (up_to top number-there) bad rows f e

  pub no_string : at < length bs → unless (up_to top number-there) bad (tested rows) ≡ Ok tt → length bs < at + 1 + size → left ≡ Err short
  no_string s e t = judged s ∙ judged_ok behind (up_to top number-there) bad rows e ∙ refuse (leb (at + 1 + size) (length bs)) short rest (lt-leb (at + 1 + size) (length bs) t)

  pub next_record : at < length bs → unless (up_to top number-there) bad (tested rows) ≡ Ok tt → at + 1 + size ≤ length bs → left ≡ rest
  next_record s e t = judged s ∙ judged_ok behind (up_to top number-there) bad rows e ∙ pass (leb (at + 1 + size) (length bs)) short rest (le-leb (at + 1 + size) (length bs) t)

-- where records end does not hang on what is made of them
pub ends_same : {R : Type 0} (make : ℕ → List ℕ → R) (top size : ℕ) (asked : Option ℕ) (bs : List ℕ) (n : ℕ) (last : Option ℕ) (at : ℕ) → end_of (records_from make top size asked n last) bs at ≡ end_of (records_to top size asked n last) bs at
ends_same make top size asked bs zero last at = refl
ends_same make top size asked bs (suc n) last at =
    let v = get_or bs at 0 in
    let s = part_at bs (at + 1) size in
    let there = at + 1 + size in
    let same : scan Proof (follow (records_from make top size asked n (Some v)) (λ rest. end (make v s ∷ rest))) (λ a e. Ok e) bs there ≡ scan Proof (follow (records_to top size asked n (Some v)) (λ rest. end (tt ∷ rest))) (λ a e. Ok e) bs there =
    scan-follow Proof bs (records_from make top size asked n (Some v)) (λ rest. end (make v s ∷ rest)) (λ a e. Ok e) there
    ∙ ends_same make top size asked bs n (Some v) there
    ∙ sym (scan-follow Proof bs (records_to top size asked n (Some v)) (λ rest. end (tt ∷ rest)) (λ a e. Ok e) there)
    in
    ap (λ r. unless (leb (at + 1) (length bs)) (fault Malformed Proof (length bs)) (unless (up_to top v) (fault Malformed Proof at) (guards (numbered asked last v at) (unless (leb there (length bs)) (fault Malformed Proof (length bs)) r)))) same

-- a sealed entry: its count, its items, its pairs
abbrev pub pairs_end : ℕ → List ℕ → ℕ → Result ℕ Fault
pairs_end f bs e = end_of (records_to 255 16 (Some f) (f + 1) None) bs e

abbrev pub records_end : ℕ → List ℕ → ℕ → ℕ → Result ℕ Fault
records_end f bs at n = and_then (end_of (records_to 63 32 None n None) bs at) (pairs_end f bs)

records_split : (f v n : ℕ) (bs : List ℕ) (at : ℕ)
    → scan Proof (follow (items_from n) (λ items. follow (pairs_from f (f + 1)) (λ pairs. end (record { entry = record { version = v; items = items }; pairs = pairs })))) (λ (s : SealedBody) e. Ok e) bs at
    ≡ records_end f bs at n
records_split f v n bs at =
    let last : List ItemBody → List PairBody → SealedBody = λ items pairs. record { entry = record { version = v; items = items }; pairs = pairs } in
    let ends : SealedBody → ℕ → Result ℕ Fault = λ s e. Ok e in
    let pairs : (items : List ItemBody) (e : ℕ) → scan Proof (follow (pairs_from f (f + 1)) (λ ps. end (last items ps))) ends bs e ≡ pairs_end f bs e = λ items e.
    scan-follow Proof bs (pairs_from f (f + 1)) (λ ps. end (last items ps)) ends e
    ∙ ends_same (λ k s. record { signer = k; tag = s }) 255 16 (Some f) bs (f + 1) None e
    in
    scan-follow Proof bs (items_from n) (λ items. follow (pairs_from f (f + 1)) (λ ps. end (last items ps))) ends at
    ∙ scan_then Proof bs (pairs_end f bs) (items_from n) (λ a e. Ok e) (λ items e. scan Proof (follow (pairs_from f (f + 1)) (λ ps. end (last items ps))) ends bs e) at pairs
    ∙ ap (λ r. and_then r (pairs_end f bs)) (ends_same (λ k s. record { item = k; digest = s }) 63 32 None bs n None at)

pub sealed_split : (w f due : ℕ) (bs : List ℕ) (at : ℕ) → end_of (sealed_from w f due) bs at ≡ and_then (count_of w due bs at) (records_end f bs (at + w + 1))
sealed_split w f due bs at =
    let v = number_at bs at w in
    let n = get_or bs (at + w) 0 in
    let short = fault Malformed Proof (length bs) in
    let g = records_end f bs (at + w + 1) in
    let a = leb (at + w) (length bs) in
    let b = is due v in
    let c = leb (at + w + 1) (length bs) in
    let d = within 1 8 n in
    let p = fault Malformed Proof at in
    let q = fault Malformed Proof (at + w) in
    ap (λ r. unless a short (unless b p (unless c short (unless d q r)))) (records_split f v n bs (at + w + 1))
    ∙ sym (unless_then a short (unless b p (unless c short (unless d q (Ok n)))) g
    ∙ ap (unless a short) (unless_then b p (unless c short (unless d q (Ok n))) g
    ∙ ap (unless b p) (unless_then c short (unless d q (Ok n)) g
    ∙ ap (unless c short) (unless_then d q (Ok n) g))))

-- one entry more
pub entries_split : (w f due n : ℕ) (bs : List ℕ) (at : ℕ) → end_of (entries_from w f due (suc n)) bs at ≡ and_then (end_of (sealed_from w f due) bs at) (λ e. end_of (entries_from w f (due + 1) n) bs e)
entries_split w f due n bs at =
    let ends : List SealedBody → ℕ → Result ℕ Fault = λ s e. Ok e in
    let rest : SealedBody → Ruled (List SealedBody) = λ one. follow (entries_from w f (due + 1) n) (λ xs. end (one ∷ xs)) in
    scan-follow Proof bs (sealed_from w f due) rest ends at
    ∙ scan_then Proof bs (λ e. end_of (entries_from w f (due + 1) n) bs e) (sealed_from w f due) (λ a e. Ok e) (λ one e. scan Proof (rest one) ends bs e) at
    (λ one e. scan-follow Proof bs (entries_from w f (due + 1) n) (λ xs. end (one ∷ xs)) ends e)

module _ (w f due stop : ℕ) (bs : List ℕ) (at : ℕ) (h : due < stop) where
  entry_turn : end_of (entries_from w f due (stop - due)) bs at ≡ and_then (end_of (sealed_from w f due) bs at) (λ e. end_of (entries_from w f (due + 1) (stop - (due + 1))) bs e)
  entry_turn =
      let m : stop - due ≡ suc (stop - (due + 1)) = omega arith in
      ap (λ k. end_of (entries_from w f due k) bs at) m ∙ entries_split w f due (stop - (due + 1)) bs at

  pub next-entry : (e : ℕ) → end_of (sealed_from w f due) bs at ≡ Ok e → end_of (entries_from w f due (stop - due)) bs at ≡ end_of (entries_from w f (due + 1) (stop - (due + 1))) bs e
  next-entry e q = entry_turn ∙ then_ok (end_of (sealed_from w f due) bs at) (λ e. end_of (entries_from w f (due + 1) (stop - (due + 1))) bs e) e q

  pub bad_entry : (d : Fault) → end_of (sealed_from w f due) bs at ≡ Err d → end_of (entries_from w f due (stop - due)) bs at ≡ Err d
  bad_entry d q = entry_turn ∙ then_err (end_of (sealed_from w f due) bs at) (λ e. end_of (entries_from w f (due + 1) (stop - (due + 1))) bs e) d q

pub no_entry : (w f due stop : ℕ) (bs : List ℕ) (at : ℕ) → stop ≤ due → end_of (entries_from w f due (stop - due)) bs at ≡ Ok at
no_entry w f due stop bs at h = let m : stop - due ≡ 0 = omega arith in ap (λ k. end_of (entries_from w f due k) bs at) m
