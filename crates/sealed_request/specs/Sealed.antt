-- Requests under the tag of their client.
use Rattle.std.specs.Prelude.{◌≡◌, ℕ, ◌+◌, List, [], map, length, take, Ok}
use Rattle.std.specs.List.{flat_map}
use Rattle.label.specs.declared.Label.TheVariants.{Request}
use Rattle.label.specs.Labels.{labelled}
use Rattle.seal.specs.Seals.{client_signer, passes}
use Rattle.record.specs.Formats.{written}
use Rattle.request.specs.Bodies.{RequestBody, read_request, write_fields, writes_at}
use Rattle.request.specs.Drafts.{read_drafted, write_drafted}
use Rattle.request.specs.Sizes.{covered_part}
use Rattle.sealed_request.specs.declared.Unsealed.{Unsealed}

-- the request under a tag
abbrev pub under : Unsealed → List ℕ → RequestBody
under u t = record {
  client = u.client;
  sequence = u.sequence;
  reads = map read_drafted u.reads.now;
  writes = map write_drafted u.writes.now;
  tag = t;
}

-- the client's tag covers the label of requests and the frame before the tag
abbrev pub client_tag : (ℕ → List ℕ → List ℕ) → Unsealed → List ℕ
client_tag tag u = tag (client_signer u.client) (labelled Request (covered_part 2 (under u [])))

-- the request under its client's tag
abbrev pub sealed_body : (ℕ → List ℕ → List ℕ) → Unsealed → RequestBody
sealed_body tag u = under u (client_tag tag u)

-- where a request's tag stands: behind its writes
abbrev pub tag_place : RequestBody → ℕ
tag_place b = writes_at 2 b + length (written (flat_map write_fields b.writes))

-- the tag in the frame of n bytes at the front of a buffer passes: for the client that the frame names, over what stands before the tag
abbrev pub TagPasses : (ℕ → List ℕ → List ℕ) → List ℕ → ℕ → Type 0
TagPasses tag out n =
    (b : RequestBody) → read_request 2 (take n out) ≡ Ok b → passes tag (client_signer b.client) (labelled Request (take (tag_place b) (take n out))) b.tag
