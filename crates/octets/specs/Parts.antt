-- Parts of a byte string, and bytes that are put into a buffer.
use Rattle.std.specs.Prelude.{ℕ, List, ◌++◌, length, take, drop}

-- the n bytes at a place
abbrev pub part_at : List ℕ → ℕ → ℕ → List ℕ
part_at bs at n = take n (drop at bs)

-- a buffer with new bytes in front and its old bytes behind
abbrev pub over : List ℕ → List ℕ → List ℕ
over bs old = bs ++ drop (length bs) old
