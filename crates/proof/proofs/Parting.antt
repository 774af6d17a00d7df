-- An iterator over an entry's writes, or over its pairs, that is begun at one of them.
use Rattle.std.proofs.Common.{◌≡◌, ℕ, ◌+◌, ◌*◌, ◌≤◌, [], ◌∷◌, ◌++◌, length, drop, sym, refl, ap, ◌∙◌, arith}
use Rattle.std.specs.List.{flat_map}
use Rattle.std.proofs.lemmas.List.{length-append, drop-drop, drop_at}
use Rattle.octets.specs.Numbers.{be}
use Rattle.octets.proofs.NumberLaws.{length-be}
use Rattle.entry.specs.Bodies.{SealedBody, head_bytes, item_bytes}
use Rattle.proof.specs.Bodies.{ItemIn, PairIn}
use Rattle.proof.specs.Parts.{PartHolds}
use Rattle.proof.specs.Rules.{item_number, pair_number}
use Rattle.proof.specs.Turns.{BeforeItem, BeforePair, pairs_place}
use Rattle.proof.specs.declared.part.Items.{Items}
use Rattle.proof.specs.declared.part.Pairs.{Pairs}
use Rattle.proof.specs.declared.part.SealedPart.{SealedPart}
use Rattle.proof.proofs.Frames.{digest_of, tag_of}
use Rattle.proof.proofs.Laid.{body_size, pairs_size}
use Rattle.proof.proofs.Strides.{behind}

module _ (f at : ℕ) (x : SealedPart) (s : SealedBody) (k : ℕ) (h : PartHolds f at x s) where
  pub before_item : (it : Items) → 3 + 33 * k ≤ length x.body.now → it.left.now ≡ drop (3 + 33 * k) x.body.now → BeforeItem s.entry.items k it
  before_item it room left =
      let is = s.entry.items in
      let head = head_bytes 2 s.entry.version (length is) in
      let three : length head ≡ 3 = omega (arith, length-append (be 2 s.entry.version) (length is ∷ []), length-be 2 s.entry.version) in
      let sum : 3 + 33 * k ≡ length head + 33 * k = omega (arith, three) in
      let inside : k ≤ length is = omega (arith, room, ap length h.body, body_size 2 s h.in_range.items) in
      record {
        left = left
            ∙ ap (drop (3 + 33 * k)) h.body
            ∙ ap (λ n. drop n (head ++ flat_map item_bytes is)) sum
            ∙ sym (drop-drop (33 * k) (length head) (head ++ flat_map item_bytes is))
            ∙ ap (drop (33 * k)) (drop_at head (flat_map item_bytes is) (length head) refl)
            ∙ behind item_number digest_of 32 ItemIn (λ x q. q.digest) is k h.in_range.items inside;
        inside = inside;
        in_range = h.in_range.items;
      }

  pub before_pair : (it : Pairs) → 17 * k ≤ length x.pairs.now → it.left.now ≡ drop (17 * k) x.pairs.now → it.place ≡ x.place + (length x.body.now + 17 * k)
      → BeforePair (pairs_place 2 at s) s.pairs k it
  before_pair it room left place =
      let inside : k ≤ length s.pairs = omega (arith, room, ap length h.pairs, pairs_size s.pairs h.in_range.pairs) in
      record {
        left = left ∙ ap (drop (17 * k)) h.pairs ∙ behind pair_number tag_of 16 PairIn (λ x q. q.tag) s.pairs k h.in_range.pairs inside;
        place = omega (arith, place, h.place, ap length h.body);
        near = omega (arith, h.near, body_size 2 s h.in_range.items, h.in_range.few);
        inside = inside;
        in_range = h.in_range.pairs;
      }
