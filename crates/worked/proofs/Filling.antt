-- A log that got every item in turn, and then item 0 again.
use Rattle.std.proofs.Common.{ℕ, zero, suc, ◌%◌, ◌<◌, ◌≤◌, List, [], replicate, refl, subst, add-one, arith}
use Rattle.log_store.specs.Laws.{EveryItemAndFirstTwice}
use Rattle.log_store.specs.Records.{installed}
use Rattle.log_store.specs.declared.records.LogRecord.{LogRecord}
use Rattle.log_store.proofs.Filling.{Filling, filling_all, filling-more, filling-none}

of-item : (n : ℕ) → n < 64 → LogRecord
of-item n lt = record {
  item = record { number = n; below = lt };
  row = record { version = 0; value = record { bytes = record { places = replicate 32 0; len = 0; within = omega arith; whole = refl } }; digest = replicate 32 0; whole = refl };
}

filled : (n : ℕ) → n ≤ 65 → (rs : List LogRecord) × Filling rs n
unfolding of-item
filled zero le = ([], filling-none [] refl)
filled (suc n) le =
    let before = filled n (omega arith) in
    let r = of-item (n % 64) (omega arith) in
    let after = installed 65 before.0 r in
    (after, subst (Filling after) (add-one n) (filling-more before.0 after r n (omega arith) refl refl before.1))

pub logs_occur : (rs : List LogRecord) × EveryItemAndFirstTwice rs
logs_occur = let all = filled 65 (omega arith) in (all.0, filling_all all.0 65 refl all.1)
