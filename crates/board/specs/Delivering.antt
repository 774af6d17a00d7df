-- What the parts of a delivery do, over what a store holds.
use Rattle.std.specs.Prelude.{◌≡◌, ℕ, ◌+◌, ◌<◌, ◌≤◌, cond, List, [], ◌∷◌, length, take, Ok, Err, Result, ◌==◌}
use Rattle.std.specs.List.{slice_get, AllByRecursion}
use Rattle.octets.specs.Numbers.{limit}
use Rattle.fault.specs.declared.Fault.{Fault}
use Rattle.fault.specs.Codes.{fault}
use Rattle.fault.specs.declared.Cause.TheVariants.{BankFull, NotOpen, WrongTag}
use Rattle.fault.specs.declared.Layer.TheVariants as layer
use Rattle.label.specs.declared.Label.TheVariants.{Request}
use Rattle.label.specs.Labels.{labelled}
use Rattle.seal.specs.Seals.{client_signer, passes}
use Rattle.numbers.specs.Sequence.{Open}
use Rattle.store.specs.Slot.{Slot}
use Rattle.entry.specs.declared.parts.Entry.{Entry}
use Rattle.entry.specs.Bodies.{entry_body}
use Rattle.window.specs.Windows.{Kept}
use Rattle.request.specs.declared.Read.{Read}
use Rattle.request.specs.declared.Request as requests
use Rattle.request.specs.Bodies.{ReadBody, RequestBody, WriteBody, WriteIn}
use Rattle.request.specs.Requests.{held, read_of, read_views, write_of, write_views}
use Rattle.history.specs.Events.{width}
use Rattle.history.specs.Commits.{Left, kept, leave, written}
use Rattle.history.specs.Entries.{chain_string, entry_of}
use Rattle.history.specs.Answers.{tag_at}
use Rattle.history.specs.Tables.{Case, when}
use Rattle.board.specs.declared.state.Board.{Board}

-- what a read of a frame says
abbrev pub read_said : Read → ReadBody
read_said r = record { item = r.item; version = r.version; digest = r.digest.now }

-- A refusal leaves all as it was.
abbrev pub KeptOnRefusal : {A B : Type 0} → A → A → Result B Fault → Type 0
KeptOnRefusal before after (Ok x) = Unit {0}
KeptOnRefusal before after (Err e) = after ≡ before

-- a row of a store
abbrev pub row_of : ℕ → List ℕ → List ℕ → Slot
row_of version value digest = record { version = version; value = value; digest = digest }

-- A request as its frame's reader leaves it: few and short records, each found at its place, and the tag behind them.
pub record Shaped (q : requests.Request) : Type 0 where
  pub client : q.plan.top.client ≤ 15
  pub tag_there : q.plan.tag_at ≡ tag_at (held q)
  pub short : q.plan.tag_at ≤ 838
  pub end : length q.frame.now ≡ q.plan.tag_at + 16
  pub each_read : (i : ℕ) → read_of q i ≡ slice_get (read_views q) i
  pub each_write : (i : ℕ) → write_of q i ≡ slice_get (write_views q) i
  pub writes : AllByRecursion WriteIn (held q).writes
  pub few : length (held q).writes ≤ 8

-- What is refused before a request is judged: the client's tag, its number, the count of commits, in this order.
abbrev pub checks : (ℕ → List ℕ → List ℕ) → List ℕ → ℕ → List ℕ → RequestBody → List Case
checks tag used count frame b =
    when (passes tag (client_signer b.client) (labelled Request (take (tag_at b) frame)) b.tag → ⊥) (fault WrongTag layer.Seal (tag_at b))
    ∷ when (Open width used b.sequence → ⊥) (fault NotOpen layer.Board 2)
    ∷ when (limit width ≤ count) (fault BankFull layer.Board 0)
    ∷ []

module _ (digest : List ℕ → List ℕ) where
  -- A read agrees with what is held: the version, and the digest, at version 0 the empty value's.
  abbrev pub Agrees : (ℕ → Slot) → ReadBody → Type 0
  Agrees inside r =
      (r.item < 64) × (r.version ≡ (inside r.item).version)
      × (r.digest ≡ cond ((inside r.item).version == 0) (digest []) (inside r.item).digest)

  -- Commit k was installed: where what was held is what commits left, what is held now is what this one leaves.
  abbrev pub Installed : ℕ → List WriteBody → (ℕ → Slot) → (ℕ → Slot) → Type 0
  Installed k ws before after = (x : ℕ) (l : Left) → before x ≡ kept digest l → after x ≡ kept digest (leave k (written ws x) l)

  -- A commit was made: one more is counted, chained, kept in the window and installed, and nothing else changed.
  pub record Committed {S D L : Type 0} (holds : S → ℕ → Slot) (b c : Board S D L) (ws : List WriteBody) : Type 0 where
    pub place : c.place ≡ b.place
    pub seal : c.seal ≡ b.seal
    pub clients : c.clients ≡ b.clients
    pub count : c.count ≡ b.count + 1
    pub chain : c.chain ≡ digest (chain_string digest b.chain (entry_of digest (b.count + 1) ws))
    pub items : Installed (b.count + 1) ws (holds b.store) (holds c.store)
    pub entry : Entry
    pub window : Kept b.window c.window entry
    pub body : entry_body entry ≡ entry_of digest (b.count + 1) ws
