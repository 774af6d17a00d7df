-- A log that is filled with every item in turn, and then with the first again.
use Rattle.std.proofs.Common.{◌≡◌, ℕ, ◌+◌, ◌%◌, ◌<◌, ◌≤◌, Bool, true, false, cond, eqb, List, [], ◌∷◌, ◌++◌, length, refl, ap, ◌∙◌, arith, length-append}
use Rattle.std.proofs.lemmas.Bool.{eqb-false, eq-eqb, ne_eqb}
use Rattle.log_store.specs.Records.{item_of, latest_only, counted, installed}
use Rattle.log_store.specs.Laws.{count_of, EveryItemAndFirstTwice}
use Rattle.log_store.specs.declared.records.LogRecord.{LogRecord}

-- the records after n installs
pub record Filling (rs : List LogRecord) (n : ℕ) : Type 0 where
  pub long : length rs ≡ n
  pub every : (x : ℕ) → x < 64 → x < n → 1 ≤ count_of x rs
  pub twice : 65 ≤ n → 2 ≤ count_of 0 rs

count_push : (x : ℕ) (rs : List LogRecord) (r : LogRecord) → count_of x (rs ++ r ∷ []) ≡ count_of x rs + counted (eqb (item_of r) x)
count_push x [] r = omega arith
count_push x (q ∷ rs) r = let ih = count_push x rs r in omega arith

pub filling-none : (rs : List LogRecord) → rs ≡ [] → Filling rs 0
filling-none rs e = record { long = ap length e; every = λ x lt none. absurd (omega arith); twice = λ le. absurd (omega arith) }

pub filling-more : (rs after : List LogRecord) (r : LogRecord) (n : ℕ) → n < 65 → item_of r ≡ n % 64 → after ≡ installed 65 rs r → Filling rs n → Filling after (n + 1)
filling-more rs after r n lt is e f =
    let long = f.long in
    let room : eqb (length rs) 65 ≡ false = ne_eqb (length rs) 65 (λ q. omega arith) in
    let pushed : after ≡ rs ++ r ∷ [] = e ∙ ap (λ (b : Bool). cond b (latest_only rs) rs ++ r ∷ []) room in
    let count : (x : ℕ) → count_of x after ≡ count_of x rs + counted (eqb (item_of r) x) = λ x. ap (λ (ls : List LogRecord). count_of x ls) pushed ∙ count_push x rs r in
    record {
      long = ap length pushed ∙ length-append rs (r ∷ []) ∙ ap (λ k. k + 1) long;
      every = λ x low xn. here x low xn (eqb (item_of r) x) refl (count x);
      twice = λ le.
          let one : counted (eqb (item_of r) 0) ≡ 1 = ap counted (eq-eqb (item_of r) 0 (omega arith)) in
          let before = f.every 0 (omega arith) (omega arith) in
          let now' = count 0 in
          omega arith;
    }
  where
    here : (x : ℕ) → x < 64 → x < n + 1 → (b : Bool) → eqb (item_of r) x ≡ b → count_of x after ≡ count_of x rs + counted b → 1 ≤ count_of x after
    here x low xn true q c = omega arith
    here x low xn false q c =
        let ne : item_of r ≡ x → ⊥ = eqb-false _ _ q in
        let before = f.every x low (omega arith) in
        omega arith

pub filling_all : (rs : List LogRecord) (n : ℕ) → n ≡ 65 → Filling rs n → EveryItemAndFirstTwice rs
filling_all rs n e f =
    let long = f.long in
    record { fits = omega arith; every = λ x lt. f.every x lt (omega arith); twice = f.twice (omega arith) }
