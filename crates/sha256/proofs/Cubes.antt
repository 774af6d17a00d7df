-- The rule of the round constants, proved over the whole table by one computed test.
use Rattle.std.proofs.Common.{◌≡◌, ℕ, zero, suc, ◌+◌, ◌*◌, ◌^◌, ◌<◌, Bool, cond, T, ltb, leb, length, get_or, sym, refl, subst, ltb→lt, leb→le}
use Rattle.sha256.specs.Constants.{constants, primes, CubeRoot}
use Rattle.sha256.proofs.Table.{at, both, both_left, both_right}

-- the whole part of the cube root, looked for from n down
abbrev whole : ℕ → ℕ → ℕ
whole zero p = zero
whole (suc n) p = cond (leb (suc n ^ 3) p) (suc n) (whole n p)

abbrev right : ℕ → ℕ → ℕ → Bool
right a p k =
    both (leb (a ^ 3) p) (both (ltb p ((a + 1) ^ 3)) (both (leb ((a * 2 ^ 32 + k) ^ 3) (p * 2 ^ 96)) (ltb (p * 2 ^ 96) ((a * 2 ^ 32 + k + 1) ^ 3))))

rooted : (a p k : ℕ) → T (right a p k) → CubeRoot p k
rooted a p k t =
    let one = both_right (leb (a ^ 3) p) _ t in
    let two = both_right (ltb p ((a + 1) ^ 3)) _ one in
    record {
      a = a;
      whole-low = leb→le (a ^ 3) p (both_left (leb (a ^ 3) p) _ t);
      whole-high = ltb→lt p ((a + 1) ^ 3) (both_left (ltb p ((a + 1) ^ 3)) _ one);
      low = leb→le ((a * 2 ^ 32 + k) ^ 3) (p * 2 ^ 96) (both_left (leb ((a * 2 ^ 32 + k) ^ 3) (p * 2 ^ 96)) _ two);
      high = ltb→lt (p * 2 ^ 96) ((a * 2 ^ 32 + k + 1) ^ 3) (both_right (leb ((a * 2 ^ 32 + k) ^ 3) (p * 2 ^ 96)) _ two);
    }

-- the test at one entry of the table and its place
test : ℕ → ℕ → Bool
test i k = right (whole 6 (get_or primes i 0)) (get_or primes i 0) k

size : length constants ≡ 64
size = refl

pub cube_rule : (i : ℕ) → i < 64 → CubeRoot (get_or primes i 0) (get_or constants i 0)
unfolding primes test
cube_rule i h = rooted (whole 6 (get_or primes i 0)) (get_or primes i 0) (get_or constants i 0) (at test constants tt i (subst (λ (n : ℕ). i < n) (sym size) h))
