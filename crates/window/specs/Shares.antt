-- Shares by signer. `tag` gives for each signer the tag that came in, if one did; there are sixteen signers.
use Rattle.std.specs.Prelude.{ℕ, zero, suc, ◌+◌, ◌<◌, cond, List, [], ◌∷◌, ◌++◌, length, is_some, Some, None, Option, slice_index_or}
use Rattle.entry.specs.Bodies.{PairBody}

-- how many of the signers below n sent a share
unfoldable pub shares_below : (ℕ → Option (List ℕ)) → ℕ → ℕ
shares_below tag zero = 0
shares_below tag (suc n) = shares_below tag n + cond (is_some (tag n)) 1 0

-- a signer with its tag, where it sent one
abbrev pub pair_of : ℕ → Option (List ℕ) → List PairBody
pair_of s (Some t) = record { signer = s; tag = t } ∷ []
pair_of s None = []

-- the signers below n with their tags, in order of signer
unfoldable pub pairs_below : (ℕ → Option (List ℕ)) → ℕ → List PairBody
pairs_below tag zero = []
pairs_below tag (suc n) = pairs_below tag n ++ pair_of n (tag n)

-- over all signers
abbrev pub shares_of : (ℕ → Option (List ℕ)) → ℕ
shares_of tag = shares_below tag 16

abbrev pub pairs_of : (ℕ → Option (List ℕ)) → List PairBody
pairs_of tag = pairs_below tag 16

-- Each signer is above the one before.
abbrev pub Rise : List PairBody → Type 0
Rise ps = (i : ℕ) (d : PairBody) → i + 1 < length ps → (slice_index_or ps i d).signer < (slice_index_or ps (i + 1) d).signer
