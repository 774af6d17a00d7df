-- One turn of a loop over the rounds.
use Rattle.std.proofs.Common.{◌≡◌, ℕ, ◌+◌, ◌<◌, ◌≢◌, List, length, get_or, set, add-one, arith, get_or-set_other, get_or-set_same, below_more}
use Rattle.sha256.specs.Block.{rounds, round}
use Rattle.sha256.specs.Constants.{K}

-- a round more
pub rounded : (ws h : List ℕ) (t : ℕ) (s r : List ℕ) (x k : ℕ) → s ≡ rounds ws h t → x ≡ get_or ws t 0 → k ≡ K t → r ≡ round k x s
    → r ≡ rounds ws h (t + 1)
unfolding rounds
rounded ws h t s r x k es ex ek er = rw add-one (cc)

-- a word more
pub stored : (w ws : List ℕ) (t x : ℕ) → t < length w → ((k : ℕ) → k < t → get_or w k 0 ≡ get_or ws k 0) → x ≡ get_or ws t 0
    → (k : ℕ) → k < t + 1 → get_or (set w t x) k 0 ≡ get_or ws k 0
stored w ws t x lt f e =
    below_more _ _ (λ k h. let ne : k ≢ t = omega arith in rw get_or-set_other (f k h)) (rw get_or-set_same e)
