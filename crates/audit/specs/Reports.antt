-- Reports of marks, what it tells whether one is right, and where a board departed.
use Rattle.std.specs.Prelude.{◌≡◌, ℕ, ◌-◌, ◌<◌, ◌≤◌, ◌⊎◌, List, length, Some, None, Option}
use Rattle.std.specs.List.{slice_get}
use Rattle.request.specs.Bodies.{WriteBody}
use Rattle.history.specs.Events.{Event, effects}
use Rattle.history.specs.Commits.{commits}
use Rattle.history.specs.Entries.{chain_after}
use Rattle.history.specs.Marks.{Clash, digested}
use Rattle.audit.specs.declared.answers.Judgement.{Judgement}
use Rattle.audit.specs.declared.answers.Judgement.TheVariants.{Right, Wrong}
use Rattle.audit.specs.declared.answers.Departure.{Departure}

-- a report: the board that gave it, its mark, and the commits that the replay had made by then
pub record Report : Type 0 where
  pub board : ℕ
  pub count : ℕ
  pub chain : List ℕ
  pub replayed : List (List WriteBody)

-- report n of a list, counted from 1
abbrev pub Numbered : List Report → ℕ → Report → Type 0
Numbered reports n r = (1 ≤ n) × (slice_get reports (n - 1) ≡ Some r)

-- report n is board b's, and such
abbrev pub OfBoard : (Report → Type 0) → List Report → ℕ → ℕ → Type 0
OfBoard P reports b n = (r : Report) × (Numbered reports n r × (r.board ≡ b) × P r)

module _ (digest : List ℕ → List ℕ) where
  -- count and chain are the mark of commits
  abbrev pub MarkOf : ℕ → List ℕ → List (List WriteBody) → Type 0
  MarkOf count chain cs = (count ≡ length cs) × (chain ≡ chain_after digest cs)

  -- a report is right: its mark is that of the replay's commits
  abbrev pub RightMark : Report → Type 0
  RightMark r = MarkOf r.count r.chain r.replayed

  -- a report is wrong: its mark is another
  abbrev pub WrongMark : Report → Type 0
  WrongMark r = RightMark r → ⊥

  -- the judgement on a report
  abbrev pub Judges : Judgement → Report → Type 0
  Judges Right r = RightMark r
  Judges Wrong r = WrongMark r

  -- What a judgement tells, where the replay has commits cs and the reported mark is that of commits ds.
  -- Right: they are the same, or a string that the one's commits digested and another that the other's digested have the same digest. Wrong: they differ.
  abbrev pub Tells : Judgement → List (List WriteBody) → List (List WriteBody) → Type 0
  Tells Right cs ds = (ds ≡ cs) ⊎ Clash digest (digested digest ds) (digested digest cs)
  Tells Wrong cs ds = ds ≡ cs → ⊥

  -- it tells that of every history whose mark was reported, whatever the seal, the number and the store of the board that has it
  abbrev pub TellsAll : Judgement → Report → Type 0
  TellsAll j r = (k : List Event) → MarkOf r.count r.chain (commits (effects k)) → Tells j r.replayed (commits (effects k))

  -- board b's first wrong report
  abbrev pub FirstWrong : List Report → ℕ → ℕ → Type 0
  FirstWrong reports b n = OfBoard WrongMark reports b n × ((k : ℕ) → k < n → OfBoard WrongMark reports b k → ⊥)

  -- board b's last right report before report number `end`; none where it has none
  abbrev pub LastRight : List Report → ℕ → ℕ → Option ℕ → Type 0
  LastRight reports b end (Some n) = (n < end) × OfBoard RightMark reports b n × ((k : ℕ) → n < k → k < end → OfBoard RightMark reports b k → ⊥)
  LastRight reports b end None = (k : ℕ) → k < end → OfBoard RightMark reports b k → ⊥

  -- Where board b departed: never, if it gave no wrong report; else between its last right report before the first wrong one, and that one.
  abbrev pub Departs : List Report → ℕ → Option Departure → Type 0
  Departs reports b None = (k : ℕ) → OfBoard WrongMark reports b k → ⊥
  Departs reports b (Some d) = FirstWrong reports b d.wrong × LastRight reports b d.wrong d.right

  -- What a departure tells of the commits that the board had: at the one report the replay's, at the other not.
  abbrev pub Parts : List Report → Option Departure → Type 0
  Parts reports None = Unit {0}
  Parts reports (Some d) =
      ((n : ℕ) (r : Report) → d.right ≡ Some n → Numbered reports n r → TellsAll Right r) × ((r : Report) → Numbered reports d.wrong r → TellsAll Wrong r)
