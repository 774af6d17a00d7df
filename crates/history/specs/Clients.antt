-- The sequence numbers that a client has used.
use Rattle.std.specs.Prelude.{ℕ, cond, List, [], ◌∷◌, ◌++◌, ◌==◌}
use Rattle.history.specs.Events.{Effect, commit, abort, share, nothing}

-- the number that an effect uses up for a client
abbrev pub use_of : ℕ → Effect → List ℕ
use_of c (commit client number writes) = cond (client == c) (number ∷ []) []
use_of c (abort client number) = cond (client == c) (number ∷ []) []
use_of c (share version pair) = []
use_of c nothing = []

-- the numbers of a client that got a verdict, in order
unfoldable pub used : ℕ → List Effect → List ℕ
used c [] = []
used c (e ∷ es) = use_of c e ++ used c es
