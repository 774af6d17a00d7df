-- Numbers as bytes, and words laid one behind the other.
use Rattle.std.proofs.Common.{◌≡◌, ℕ, zero, suc, ◌*◌, ◌<◌, List, [], ◌∷◌, length, get_or, map, sym, refl, ap, ◌∙◌, arith, length-append}
use Rattle.std.proofs.lemmas.List.{ext_get_or, get_or-map, length-map}
use Rattle.std.proofs.lemmas.List.Folds.{flat_map-map}
use Rattle.std.specs.List.{flat_map}
use Rattle.sha256.specs.Padding.{big_endian, bytes_of}

pub length-big_endian : (n x : ℕ) → length (big_endian n x) ≡ n
length-big_endian zero x = refl
length-big_endian (suc n) x = ap suc (length-big_endian n x)

-- what f gives of each word, one behind the other
pub laid : (f : ℕ → List ℕ) (ws : List ℕ) (rs : List (List ℕ)) → length rs ≡ length ws → ((i : ℕ) → i < length ws → get_or rs i [] ≡ f (get_or ws i 0))
    → flat_map (λ x. x) rs ≡ flat_map f ws
laid f ws rs long each =
    let all : length rs ≡ length (map f ws) = omega (arith, long, length-map ws f) in
    ap (flat_map (λ x. x)) (ext_get_or [] rs (map f ws) all (λ i h. (let k : i < length ws = omega arith in each i k ∙ sym (get_or-map f ws i 0 [] k))))
    ∙ flat_map-map (λ x. x) f ws

pub length-bytes_of : (ws : List ℕ) → length (bytes_of ws) ≡ 4 * length ws
length-bytes_of [] = refl
length-bytes_of (w ∷ ws) = let l = length-bytes_of ws in omega (arith, length-append (big_endian 4 w) (bytes_of ws), length-big_endian 4 w)
