-- What comes of the bytes of an input that a bank is fed: the bank stays as it is.
use Rattle.std.specs.Prelude.{◌≡◌, ℕ, List, Option}
use Rattle.lines.specs.Serves.{Finishes, Takes, finished_same, taken_same}

-- Where each answer tells its own and leaves the answerer as it was, so does a byte.
pub bank_taken : {A R : Type 0} (old new : A) (Told : List ℕ → R → Type 0) (before : List ℕ) (byte : ℕ) (after : List ℕ) (step : Option R)
    → Takes (λ line answer. (new ≡ old) × Told line answer) (new ≡ old) before byte after step → new ≡ old
bank_taken old new Told before byte after step takes =
    taken_same (λ line answer. (new ≡ old) × Told line answer) (new ≡ old) before byte after step (λ line answer told. told.0) takes

-- So does the end of the input.
pub bank_finished : {A R : Type 0} (old new : A) (Told : List ℕ → R → Type 0) (before : List ℕ) (step : Option R)
    → Finishes (λ line answer. (new ≡ old) × Told line answer) (new ≡ old) before step → new ≡ old
bank_finished old new Told before step finishes =
    finished_same (λ line answer. (new ≡ old) × Told line answer) (new ≡ old) before step (λ line answer told. told.0) finishes
