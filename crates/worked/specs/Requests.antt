-- Requests that a board takes, and the commits that they make: which of them occur.
use Rattle.std.specs.Prelude.{◌≡◌, ℕ, ◌≤◌, List, [], map, length, take, Ok}
use Rattle.std.specs.List.{AllByRecursion, ContainsAt as Has}
use Rattle.std.specs.List.Sorted.{IsStrictlyIncreasing}
use Rattle.octets.specs.Numbers.{Bytes, limit}
use Rattle.label.specs.declared.Label.TheVariants.{Request}
use Rattle.label.specs.Labels.{labelled}
use Rattle.seal.specs.Seals.{client_signer, passes}
use Rattle.request.specs.Bodies.{ReadBody, ReadIn, RequestBody, WriteBody, WriteIn, read_item, read_request, write_item}
use Rattle.history.specs.Events.{Event, effects, width}
use Rattle.history.specs.Commits.{commits}
use Rattle.history.specs.Answers.{Lawful, tag_at}
use Rattle.history.specs.Backs.{AllReadBack}

-- a digest of 32 bytes
pub record DigestOf32 (digest : List ℕ → List ℕ) : Type 0 where
  pub long : (m : List ℕ) → length (digest m) ≡ 32
  pub bytes : (m : List ℕ) → Bytes (digest m)

-- a seal whose tags have 16 bytes
pub record TagOf16 (tag : ℕ → List ℕ → List ℕ) : Type 0 where
  pub long : (s : ℕ) (m : List ℕ) → length (tag s m) ≡ 16
  pub bytes : (s : ℕ) (m : List ℕ) → Bytes (tag s m)

-- a write set that a request can carry: 1 to 8 writes in range, whose items rise
pub record Carried (ws : List WriteBody) : Type 0 where
  pub some : 1 ≤ length ws
  pub few : length ws ≤ 8
  pub each : AllByRecursion WriteIn ws
  pub rise : IsStrictlyIncreasing (map write_item ws)

-- a frame with a request of client c under its number s: these reads, these writes, and the client's tag
pub record Requested (tag : ℕ → List ℕ → List ℕ) (frame : List ℕ) (c s : ℕ) (rs : List ReadBody) (ws : List WriteBody) : Type 0 where
  pub body : RequestBody
  pub held : read_request width frame ≡ Ok body
  pub client : body.client ≡ c
  pub number : body.sequence ≡ s
  pub reads : body.reads ≡ rs
  pub writes : body.writes ≡ ws
  pub tagged : passes tag (client_signer c) (labelled Request (take (tag_at body) frame)) body.tag

-- there is such a frame for every client and number, for up to 16 reads in range whose items rise, and for every write set of which each item is read
abbrev pub RequestsOccur : (ℕ → List ℕ → List ℕ) → Type 0
RequestsOccur tag =
    (c s : ℕ) (rs : List ReadBody) (ws : List WriteBody) → c ≤ 15 → s ≤ limit width
    → length rs ≤ 16 → AllByRecursion (ReadIn width) rs → IsStrictlyIncreasing (map read_item rs) → Carried ws → AllByRecursion (Has (map read_item rs)) (map write_item ws)
    → (frame : List ℕ) × Requested tag frame c s rs ws

-- every list of such write sets, up to the largest version, is the list of the commits of some board
abbrev pub CommitsOccur : (List ℕ → List ℕ) → (ℕ → List ℕ → List ℕ) → ℕ → ℕ → Type 0
CommitsOccur digest tag f own =
    (cs : List (List WriteBody)) → AllByRecursion Carried cs → length cs ≤ limit width
    → (h : List Event) × (Lawful digest tag f own [] h × AllReadBack digest tag f own [] h × (commits (effects h) ≡ cs))
