-- The check's answers: what they say of the conditions, and so of the commits.
use Rattle.std.proofs.Common.{◌≡◌, ℕ, List, length, Ok, Err, Result, sym, refl, ap, ◌∙◌, subst}
use Rattle.std.specs.List.{AllByRecursion as All}
use Rattle.std.proofs.ByRecursion.{all-has}
use Rattle.fault.specs.declared.Fault.{Fault}
use Rattle.entry.specs.Bodies.{SealedBody}
use Rattle.octets.specs.Numbers.{Bytes}
use Rattle.proof.specs.Bodies.{ProofBody}
use Rattle.entry.specs.Bodies.{sealed_bytes}
use Rattle.proof.specs.Rules.{entries_at, proof_of}
use Rattle.reading.specs.Bodies.{ReadingItemBody, reading_of}
use Rattle.history.specs.Commits.{Left}
use Rattle.history.specs.Events.{width}
use Rattle.history.specs.Tables.{Case, Read, Succeeds, Under}
use Rattle.reader.specs.Checks.{CheckAnswers, Matched, NothingNewer, Tagged, along, check_table, highest, item_rows, items_at, read_item_bytes, sealed_rows}
use Rattle.reader.specs.Accepted.{AcceptedMeansHeld, Commits, Holds, HonestProofDecides, Passed}
use Rattle.reader.proofs.Clear.{Clear, all_stable, all_unrefuted, along_clear, bytes_stable, clear_along, clear_answer, clear_append, clear_parts, eq_stable, le_stable, ok_clear, ok_err}
use Rattle.reader.proofs.Lefts.{left-same}
use Rattle.reader.proofs.Members.{all_from-has}
use Rattle.reader.proofs.Holding.{accepted-holds, holds_passed, own_genuine, passed_holds}
use Rattle.reader.proofs.Proving.{read-proven}
use Rattle.reader.proofs.Rows.{item_clear, sealed_clear, sealed_unrefuted}

holds_stable : (cs : Commits) (ps : List ReadingItemBody) → ((Holds cs ps → ⊥) → ⊥) → Holds cs ps
holds_stable cs ps h = (
  le_stable (highest ps) (length cs) (λ n. h (λ k. n k.0)),
  all_stable _ (λ p q. left-same _ _ (eq_stable _ _ (λ n. q (λ e. n (ap (λ (l : Left). l.version) e)))) (bytes_stable _ _ (λ n. q (λ e. n (ap (λ (l : Left). l.value) e))))) ps (λ n. h (λ k. n k.1)),
)

module _ (digest : List ℕ → List ℕ) (passes : ℕ → List ℕ → List ℕ → Type 0) where
  module _ (low high : ℕ) (es : List SealedBody) (ps : List ReadingItemBody) where
    abbrev tags : List Case
    tags = along (sealed_bytes width) (sealed_rows passes) (entries_at width) es

    abbrev items : List Case
    items = along read_item_bytes (item_rows digest es) items_at ps

    table_unrefuted : Clear (check_table digest passes low high es ps) → (Passed digest passes low high es ps → ⊥) → ⊥
    table_unrefuted (r, c) n =
        let k = clear_parts tags items c in
        let t = clear_along (sealed_bytes width) (sealed_rows passes) (λ (s : SealedBody). (All (Tagged passes s.entry) s.pairs → ⊥) → ⊥) (sealed_unrefuted passes) (entries_at width) es k.0 in
        let m = clear_along read_item_bytes (item_rows digest es) (λ p. (Matched digest es p → ⊥) → ⊥) (λ at p c. c.0) items_at ps k.1 in
        let f = clear_along read_item_bytes (item_rows digest es) (λ p. (NothingNewer es p → ⊥) → ⊥) (λ at p c. c.1.0) items_at ps k.1 in
        r (λ range. all_unrefuted _ es t (λ tags. all_unrefuted _ ps m (λ matched. all_unrefuted _ ps f (λ fresh.
        n (record { range = range; tags = tags; matched = matched; fresh = fresh })))))

    pub table_clear : Passed digest passes low high es ps → Clear (check_table digest passes low high es ps)
    table_clear passed = (
      λ n. n passed.range,
      clear_append tags items
          (along_clear (sealed_bytes width) (sealed_rows passes) _ (sealed_clear passes) (entries_at width) es passed.tags)
          (along_clear read_item_bytes (item_rows digest es) (λ p. Matched digest es p × NothingNewer es p) (item_clear digest es) items_at ps (all_from-has _ ps (λ p m. (all-has _ ps p passed.matched m, all-has _ ps p passed.fresh m)))),
    )

    -- an accepted reading holds wherever what passes holds
    pub table_holds : (m : ℕ) (cs : Commits) → (Passed digest passes low high es ps → Holds cs ps) → Clear (check_table digest passes low high es ps) → Holds cs ps
    table_holds m cs h c = holds_stable cs ps (λ n. table_unrefuted c (λ p. n (h p)))

    pub table_passed : (r : Result ℕ Fault) → Passed digest passes low high es ps → Under (check_table digest passes low high es ps) (λ m. m ≡ highest ps) r → r ≡ Ok (highest ps)
    table_passed r p u = success r (clear_answer (λ m. m ≡ highest ps) (check_table digest passes low high es ps) r (table_clear p) u)
      where
        success : (r : Result ℕ Fault) → Succeeds (λ m. m ≡ highest ps) r → r ≡ Ok (highest ps)
        success (Ok m) e = ap Ok e
        success (Err e) n = absurd n

-- what comes first was read
read_ok : {A B : Type 0} (s : Result B Fault) (next : B → Result A Fault → Type 0) (r : Result A Fault) (a : A) → Read s next r → r ≡ Ok a → (b : B) × ((s ≡ Ok b) × next b r)
read_ok (Ok b) next r a u e = (b, (refl, u))
read_ok (Err f) next r a u e = absurd (ok_err a f (sym e ∙ u))

read_next : {A B : Type 0} (s : Result B Fault) (next : B → Result A Fault → Type 0) (r : Result A Fault) (b : B) → s ≡ Ok b → Read s next r → next b r
read_next {A} {B} s next r b e u = subst (λ (t : Result B Fault). Read t next r) e u

module _ (digest : List ℕ → List ℕ) (passes : ℕ → List ℕ → List ℕ → Type 0) (f : ℕ) (reading proof : List ℕ) (r : Result ℕ Fault) (bytes : Bytes proof) (answers : CheckAnswers digest passes f reading proof r) where
  abbrev table : ProofBody → List ReadingItemBody → List Case
  table b ps = check_table digest passes b.low b.high b.entries ps

  pub accepted_means_held : AcceptedMeansHeld digest passes f reading proof r
  accepted_means_held m e =
      let first = read_ok (reading_of width reading) _ r m answers e in
      let ps = first.0.items in
      let second = read_ok (proof_of width f proof) _ r m first.1.1 e in
      let b = second.0 in
      let clear = ok_clear (λ k. k ≡ highest ps) (table b ps) m (subst (λ (s : Result ℕ Fault). Under (table b ps) (λ k. k ≡ highest ps) s) e second.1.1) in
      record {
        read_item = first.0;
        body = b;
        read = first.1.0;
        proven = second.1.0;
        answer = clear.1;
        holds = λ faulty cs of runs forgery clash.
            table_holds digest passes b.low b.high b.entries ps m cs
            (λ passed. accepted-holds digest passes f b.low b.high b.entries ps (read-proven f proof b bytes second.1.0) passed faulty cs of runs forgery clash)
            clear.0;
      }

  pub honest-proof_decides : HonestProofDecides digest passes f reading proof r
  honest-proof_decides q b cs own read p first honest clash =
      let ps = q.items in
      let proven = read-proven f proof b bytes p in
      let under = read_next (proof_of width f proof) _ r b p (read_next (reading_of width reading) _ r q read answers) in (
        λ e.
            let clear = ok_clear (λ k. k ≡ highest ps) (table b ps) (highest ps) (subst (λ (s : Result ℕ Fault). Under (table b ps) (λ k. k ≡ highest ps) s) e under) in
            table_holds digest passes b.low b.high b.entries ps (highest ps) cs
            (passed_holds digest passes f b.low b.high b.entries ps proven cs (own_genuine digest passes f b ps proven cs own first honest) clash)
            clear.0,
        λ holds. table_passed digest passes b.low b.high b.entries ps r (holds_passed digest passes f b ps proven cs own first honest holds) under,
      )
