-- A message in two parts, and one whose first block stands apart.
use Rattle.std.proofs.Common.{◌≡◌, ℕ, ◌+◌, ◌*◌, ◌/◌, ◌≤◌, List, ◌++◌, length, take, drop, Some, sym, refl, ap, ◌∙◌, append_assoc, arith, length-append}
use Rattle.std.proofs.lemmas.List.{take-append-drop, length-take-le, take_at, take_all}
use Rattle.std.proofs.lemmas.Slice.{take-put_mid}
use borrow.Rule.Slice.PartMut.{put_mid}
use Rattle.sha256.specs.Constants.{initial}
use Rattle.sha256.specs.Block.{compressed}
use Rattle.sha256.specs.Padding.{padding, padded}
use Rattle.sha256.specs.Hash.{after, after_all, SHA256, Hashed, HashedBehind}
use Rattle.sha256.proofs.Blocks.{cut_front, first_block, length-after}

-- two strings laid one behind the other
pub joined-laid : (bytes head rest a b : List ℕ) (k : ℕ) → length head + length rest ≤ length bytes → a ≡ head → b ≡ rest
    → take (length head + length rest) (put_mid (length head) k (a ++ drop (length head) bytes) b) ≡ head ++ rest
joined-laid bytes head rest a b k room ea eb =
    let xs : List ℕ = a ++ drop (length head) bytes in
    let la = length-append a (drop (length head) bytes) in
    let lh = ap length ea in
    let lr = ap length eb in
    take-put_mid (length head) k xs b (length head + length rest) (omega arith) (omega arith)
    ∙ ap (λ (ys : List ℕ). ys ++ b) (take_at a (drop (length head) bytes) (length head) lh ∙ ea)
    ∙ ap (λ (ys : List ℕ). head ++ ys) eb

-- the full blocks of head, then what is left of it with rest and the padding
pub head_first : (h head rest : List ℕ) (n : ℕ)
    → after_all h ((head ++ rest) ++ padding n)
    ≡ after_all (after h head (length head / 64)) ((drop (64 * (length head / 64)) head ++ rest) ++ padding n)
head_first h head rest n =
    let i : ℕ = length head / 64 in
    let l : 64 * i ≤ length head = omega arith in
    ap (after_all h) (append_assoc head rest (padding n))
    ∙ cut_front h head (rest ++ padding n) i l
    ∙ ap (after_all (after h head i)) (sym (append_assoc (drop (64 * i) head) rest (padding n)))

-- a block filled from tail and rest, then what is left of rest
pub block_joins : (h tail rest b : List ℕ) (n r : ℕ) → length tail + r ≡ 64 → r ≤ length rest → b ≡ tail ++ take r rest
    → after_all h ((tail ++ rest) ++ padding n) ≡ after_all (compressed h b) (drop r rest ++ padding n)
block_joins h tail rest b n r e room eb =
    let lt = length-take-le r rest room in
    let la = length-append tail (take r rest) in
    let lb : length b ≡ 64 = ap length eb ∙ omega arith in
    let p : (tail ++ rest) ++ padding n ≡ b ++ (drop r rest ++ padding n) =
    ap (λ (x : List ℕ). (tail ++ x) ++ padding n) (sym (take-append-drop r rest))
    ∙ ap (λ (x : List ℕ). x ++ padding n) (sym (append_assoc tail (take r rest) (drop r rest)))
    ∙ append_assoc (tail ++ take r rest) (drop r rest) (padding n)
    ∙ ap (λ (x : List ℕ). x ++ (drop r rest ++ padding n)) (sym eb) in
    ap (after_all h) p ∙ first_block h b (drop r rest ++ padding n) lb

pub hash_is : (m : List ℕ) (n : ℕ) → n ≡ length m → after_all initial (m ++ padding n) ≡ SHA256 m
unfolding SHA256 padded
hash_is m n e = ap (λ (k : ℕ). after_all initial (m ++ padding k)) e

-- a message whose first block stands apart
block_apart : (b m : List ℕ) (n : ℕ) → length b ≡ 64 → n ≡ 64 + length m
    → after_all (compressed initial b) (m ++ padding n) ≡ SHA256 (b ++ m)
block_apart b m n e en =
    let l = length-append b m in
    let k : n ≡ length (b ++ m) = omega arith in
    sym (first_block initial b (m ++ padding n) e)
    ∙ ap (after_all initial) (sym (append_assoc b m (padding n)))
    ∙ hash_is (b ++ m) n k

-- tail and rest fit into one block
pub joined-short : (h tail rest bytes : List ℕ) (n k : ℕ) → k ≡ length tail + length rest
    → take (length tail + length rest) bytes ≡ tail ++ rest
    → after_all h (take k bytes ++ padding n) ≡ after_all h ((tail ++ rest) ++ padding n)
joined-short h tail rest bytes n k ek e =
    ap (λ (j : ℕ). after_all h (take j bytes ++ padding n)) ek ∙ ap (λ (x : List ℕ). after_all h (x ++ padding n)) e

-- the joining block is filled from tail and rest, and more of rest follows
pub joined-long : (h tail rest bytes s x : List ℕ) (n r q : ℕ) → length tail + r ≡ 64 → r ≤ length rest → length bytes ≡ 64 → q ≡ r
    → take (length tail + length (take q rest)) bytes ≡ tail ++ take q rest
    → s ≡ compressed h bytes
    → x ≡ drop r rest
    → after_all s (x ++ padding n) ≡ after_all h ((tail ++ rest) ++ padding n)
joined-long h tail rest bytes s x n r q er room lb eq e es ex =
    let et : take q rest ≡ take r rest = ap (λ (j : ℕ). take j rest) eq in
    let lr = length-take-le r rest room in
    let lq : length (take q rest) ≡ r = ap length et ∙ lr in
    let ea = take_all (length tail + length (take q rest)) bytes (omega arith) in
    let eb : bytes ≡ tail ++ take r rest = sym ea ∙ e ∙ ap (λ (y : List ℕ). tail ++ y) et in
    ap (λ (y : List ℕ). after_all s (y ++ padding n)) ex
    ∙ ap (λ (y : List ℕ). after_all y (drop r rest ++ padding n)) es
    ∙ sym (block_joins h tail rest bytes n r er room eb)

-- the value over both parts and the padding, begun from the initial hash value, is the digest
pub digest-is : (start d h r : List ℕ) → length h + length r ≤ 65535 → start ≡ initial
    → d ≡ after_all start ((h ++ r) ++ padding (0 + length h + length r))
    → Hashed (h ++ r) (Some d)
digest-is start d h r short es ed =
    let l = length-append h r in
    let n : 0 + length h + length r ≡ length (h ++ r) = omega arith in (
      omega arith,
      ed ∙ ap (λ (s : List ℕ). after_all s ((h ++ r) ++ padding (0 + length h + length r))) es
          ∙ hash_is (h ++ r) (0 + length h + length r) n,
    )

pub behind-is : (s b h d head rest : List ℕ) → length b ≡ 64 → length head + length rest ≤ 65535 → s ≡ initial → h ≡ compressed s b
    → d ≡ after_all h ((head ++ rest) ++ padding (64 + length head + length rest))
    → HashedBehind b (head ++ rest) (Some d)
behind-is s b h d head rest lb short es eh ed =
    let l = length-append head rest in
    let n : 64 + length head + length rest ≡ 64 + length (head ++ rest) = omega arith in (
      omega arith,
      ed
          ∙ ap (λ (y : List ℕ). after_all y ((head ++ rest) ++ padding (64 + length head + length rest)))
          (eh ∙ ap (λ (y : List ℕ). compressed y b) es)
          ∙ block_apart b (head ++ rest) (64 + length head + length rest) lb n,
    )

pub length-SHA256 : (m : List ℕ) → length (SHA256 m) ≡ 8
unfolding SHA256 after_all
length-SHA256 m = length-after initial (padded m) (length (padded m) / 64) refl
