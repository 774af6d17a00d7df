-- What the program starts with.
use Rattle.std.specs.Prelude.{◌≡◌, ℕ, ◌<◌, List, [], replicate, slice_index_or}
use Rattle.digest.specs.declared.Fnv.{Fnv}
use Rattle.digest.specs.Fnv.{fnv_words}
use Rattle.digest.specs.Meaning.{written}
use Rattle.seal.specs.declared.keyed.KeyedSeal.{KeyedSeal}
use Rattle.seal.specs.declared.sip.Sip.{Sip}
use Rattle.seal.specs.Sip.{sip_tag}
use Rattle.store.specs.declared.table.Table.{Table}
use Rattle.store.specs.Rows.{rows}
use Rattle.board.specs.Standing.{Represents}
use Rattle.lines.specs.declared.serve.Serving.{Serving}
use Rattle.lines.specs.Gathers.{gathered}
use Rattle.board_line.specs.declared.serve.Answerer.{Answerer}

-- A new board 0 for f = 1, with no line begun: a table, FNV-1a, and SipHash under keys of 32 bytes s for signer s.
pub record Starts (s : Serving (Answerer Table Fnv (KeyedSeal Sip))) : Type 0 where
  pub keys : List (List ℕ)
  pub alike : (signer : ℕ) → signer < 32 → slice_index_or keys signer [] ≡ replicate 32 signer
  pub board : Represents rows (λ m. written (fnv_words m)) (λ seal i m. sip_tag (slice_index_or seal.keys i []) m) (λ i m. sip_tag (slice_index_or keys i []) m) 1 0 s.answerer.board []
  pub line : gathered s.gather ≡ []
