-- The entries of the commits, the chain over them, and the shares that joined them.
use Rattle.std.specs.Prelude.{ℕ, ◌+◌, ◌-◌, ◌≤◌, cond, List, [], ◌∷◌, ◌++◌, map, replicate, Some, None, Option, ◌==◌, slice_index_or}
use Rattle.std.specs.List.{range_with_len}
use Rattle.entry.specs.Bodies.{EntryBody, ItemBody, PairBody, SealedBody, entry_bytes}
use Rattle.window.specs.Shares.{pairs_of}
use Rattle.label.specs.declared.Label.TheVariants.{Chain, Entry}
use Rattle.label.specs.Labels.{labelled}
use Rattle.request.specs.Bodies.{WriteBody}
use Rattle.history.specs.Events.{Effect, commit, abort, share, nothing, width}

module _ (digest : List ℕ → List ℕ) where
  -- a write as its entry records it
  abbrev pub recorded : WriteBody → ItemBody
  recorded w = record { item = w.item; digest = digest w.value }

  -- the entry of commit k
  abbrev pub entry_of : ℕ → List WriteBody → EntryBody
  entry_of k ws = record { version = k; items = map recorded ws }

  abbrev pub entry_at : List (List WriteBody) → ℕ → EntryBody
  entry_at cs k = entry_of k (slice_index_or cs (k - 1) [])

  -- the string that is sealed for entry k
  abbrev pub sealed_string : List (List WriteBody) → ℕ → List ℕ
  sealed_string cs k = labelled Entry (entry_bytes width (entry_at cs k))

  -- the string that is chained: the old chain and the entry
  abbrev pub chain_string : List ℕ → EntryBody → List ℕ
  chain_string chain e = labelled Chain (chain ++ entry_bytes width e)

  -- each commit makes the chain the digest of that string
  unfoldable pub chain_from : ℕ → List ℕ → List (List WriteBody) → List ℕ
  chain_from k chain [] = chain
  chain_from k chain (ws ∷ cs) = chain_from (k + 1) (digest (chain_string chain (entry_of (k + 1) ws))) cs

  -- the chain starts as 32 zero bytes
  abbrev pub chain_after : List (List WriteBody) → List ℕ
  chain_after cs = chain_from 0 (replicate 32 0) cs

-- a version is kept while it is among the last 32 commits
abbrev pub Evicted : ℕ → ℕ → Type 0
Evicted count v = v + 32 ≤ count

-- the shares that joined entry v, in the order in which they came
abbrev pub share_of : ℕ → Effect → List PairBody
share_of v (commit client number writes) = []
share_of v (abort client number) = []
share_of v (share version pair) = cond (version == v) (pair ∷ []) []
share_of v nothing = []

unfoldable pub shares_of : ℕ → List Effect → List PairBody
shares_of v [] = []
shares_of v (e ∷ es) = share_of v e ++ shares_of v es

-- who signed them
abbrev pub signer_of : PairBody → ℕ
signer_of p = p.signer

abbrev pub signers_of : ℕ → List Effect → List ℕ
signers_of v es = map signer_of (shares_of v es)

-- the tag of a signer among shares
unfoldable pub tag_by : List PairBody → ℕ → Option (List ℕ)
tag_by [] s = None
tag_by (p ∷ ps) s = cond (p.signer == s) (Some p.tag) (tag_by ps s)

-- shares in order of signer
abbrev pub by_signer : List PairBody → List PairBody
by_signer ps = pairs_of (tag_by ps)

-- entry v as a proof carries it
abbrev pub sealed_at : (List ℕ → List ℕ) → List (List WriteBody) → List Effect → ℕ → SealedBody
sealed_at digest cs es v = record { entry = entry_at digest cs v; pairs = by_signer (shares_of v es) }

-- the versions from low to high
abbrev pub versions : ℕ → ℕ → List ℕ
versions low high = range_with_len low (high + 1 - low)
