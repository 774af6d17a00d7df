-- Rules 2 and 4 in plain words: the tables say which record is the first that breaks them.
use Rattle.std.specs.Prelude.{◌≡◌, ℕ, suc, ◌<◌, ◌≤◌, List, length, Ok, Err, Result, slice_index, slice_index_or}
use Rattle.fault.specs.declared.Fault.{Fault}
use Rattle.fault.specs.declared.Layer.{Layer}
use Rattle.fault.specs.declared.Cause.TheVariants.{NotRising, Unread}
use Rattle.record.specs.Rules.{Spot}

-- record i of a list
abbrev pub spot_at : List Spot → ℕ → Spot
spot_at ss i = slice_index_or ss i (record { number = 0; place = 0 })

-- each number is above the one before
abbrev pub Rises : List Spot → Type 0
Rises ss = (i : ℕ) → suc i < length ss → (spot_at ss i).number < (spot_at ss (suc i)).number

-- p is the place of the first record whose number is not above the one before
pub record FirstFall (ss : List Spot) (p : ℕ) : Type 0 where
  pub before : ℕ
  pub inside : suc before < length ss
  pub place : p ≡ (spot_at ss (suc before)).place
  pub falls : (spot_at ss (suc before)).number ≤ (spot_at ss before).number
  pub first : (i : ℕ) → i < before → (spot_at ss i).number < (spot_at ss (suc i)).number

-- what rule 2 says of a list of records
abbrev pub RisingSays : Layer → List Spot → Result (Unit {0}) Fault → Type 0
RisingSays l ss (Ok u) = Rises ss
RisingSays l ss (Err e) = (e.cause ≡ NotRising) × (e.layer ≡ l) × FirstFall ss e.place

-- a number is one of those that were read
abbrev pub Known : List ℕ → ℕ → Type 0
Known known n = (i : ℕ) × (i < length known) × (slice_index known i ≡ n)

-- each record's number is one of those that were read
abbrev pub Covers : List ℕ → List Spot → Type 0
Covers known ss = (i : ℕ) → i < length ss → Known known (spot_at ss i).number

-- p is the place of the first record whose number was not read
pub record FirstUnread (known : List ℕ) (ss : List Spot) (p : ℕ) : Type 0 where
  pub index : ℕ
  pub inside : index < length ss
  pub place : p ≡ (spot_at ss index).place
  pub unread : Known known (spot_at ss index).number → ⊥
  pub first : (i : ℕ) → i < index → Known known (spot_at ss i).number

-- what rule 4 says of a list of records
abbrev pub CoveredSays : Layer → List ℕ → List Spot → Result (Unit {0}) Fault → Type 0
CoveredSays l known ss (Ok u) = Covers known ss
CoveredSays l known ss (Err e) = (e.cause ≡ Unread) × (e.layer ≡ l) × FirstUnread known ss e.place
