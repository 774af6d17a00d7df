-- The sealed entries of a history, as the window holds them and as a proof carries them.
use Rattle.std.proofs.Common.{◌≡◌, ℕ, zero, suc, ◌+◌, ◌-◌, ◌<◌, ◌≤◌, true, List, [], ◌∷◌, map, length, get_or, take, is_some, Some, None, Option, sym, refl, ap, ◌∙◌, subst, arith}
use Rattle.std.specs.List.{AllByRecursion as All}
use Rattle.std.proofs.ByRecursion.{All-append, All-get_or, all-has, All-map, All-weaker}
use Rattle.std.proofs.lemmas.Simd.{map-map}
use Rattle.std.proofs.lemmas.List.{length-map, take_all}
use Rattle.std.proofs.lemmas.Bool.{lt-ltb}
use Rattle.record.specs.Rules.{boards}
use Rattle.entry.specs.Bodies.{ItemBody, PairBody}
use Rattle.proof.specs.Rules.{item_number, pair_number}
use Rattle.window.specs.declared.ring.Window.{Window}
use Rattle.window.specs.Shares.{Rise, pair_of, pairs_below}
use Rattle.window.specs.Windows.{pairs_in, tag_in}
use Rattle.window.proofs.ShareLaws.{length_pairs, pairs-rise, pairs-same, shares-same}
use Rattle.history.specs.Commits.{commits}
use Rattle.history.specs.Entries.{by_signer, recorded, sealed_at, shares_of, signer_of, tag_by}
use Rattle.history.specs.Events.{Effect}
use Rattle.board.specs.Proofs.{sealed_in}
use Rattle.board.specs.Standing.{Holds}
use Rattle.board.specs.WriteSets.{Rises, WriteSet}
use Rattle.board.proofs.Joining.{tag_decides}
use Rattle.board.proofs.Weighs.{Sealed}

-- each pair is of a signer that sent a share
pair_sent : (tag : ℕ → Option (List ℕ)) (n : ℕ) (o : Option (List ℕ)) → tag n ≡ o → All (λ p. is_some (tag p.signer) ≡ true) (pair_of n o)
pair_sent tag n (Some t) e = (ap is_some e, tt)
pair_sent tag n None e = tt

pairs-sent : (tag : ℕ → Option (List ℕ)) (n : ℕ) → All (λ p. is_some (tag p.signer) ≡ true) (pairs_below tag n)
unfolding pairs_below
pairs-sent tag zero = tt
pairs-sent tag (suc n) =
    All-append (λ (p : PairBody). is_some (tag p.signer) ≡ true) (pairs_below tag n) (pair_of n (tag n)) (pairs-sent tag n) (pair_sent tag n (tag n) refl)

-- pairs that rise, one by one
rise_tail : (p : PairBody) (ps : List PairBody) → Rise (p ∷ ps) → Rise ps
rise_tail p ps up i d lt =
    let on : suc i + 1 ≡ suc (i + 1) = omega arith in
    subst (λ n. (get_or ps i d).signer < (get_or (p ∷ ps) n d).signer) on (up (suc i) d (omega arith))

rises-above : (p : PairBody) (ps : List PairBody) → Rise (p ∷ ps) → Rises (Some p.signer) (map pair_number ps)
rises-above p [] up = tt
rises-above p (q ∷ ps) up = (lt-ltb p.signer q.signer (up 0 p (omega arith)), rises-above q ps (rise_tail p (q ∷ ps) up))

pairs-rises : (ps : List PairBody) → Rise ps → Rises None (map pair_number ps)
pairs-rises [] up = tt
pairs-rises (p ∷ ps) up = (refl, rises-above p ps up)

module _ (digest : List ℕ → List ℕ) (f : ℕ) (w : Window) (es : List Effect) (v : ℕ) (few : f ≤ 5)
    (held : Holds digest f w (commits es) (shares_of v es) v) where
  -- what the window holds is what a proof carries
  pub sealed-same : sealed_in w v ≡ sealed_at digest (commits es) es v
  sealed-same =
      let long : length (pairs_in w v) ≤ 6 = omega (arith, length_pairs (tag_in w v) 16, held.count, held.few) in
      let pairs : take 6 (pairs_in w v) ≡ by_signer (shares_of v es) = take_all 6 (pairs_in w v) long ∙ pairs-same (tag_by (shares_of v es)) (tag_in w v) 16 held.tags in
      λ t. record { entry = held.entry t; pairs = pairs t }

  -- with f + 1 shares it is an entry that a reader takes
  pub sealed-whole : 1 ≤ v → v ≤ length (commits es) → All WriteSet (commits es) → f + 1 ≤ length (shares_of v es) → Sealed f v (sealed_at digest (commits es) es v)
  sealed-whole low high sets full =
      let ps = shares_of v es in
      let ws = get_or (commits es) (v - 1) [] in
      let set : WriteSet ws = All-get_or WriteSet (commits es) (v - 1) [] (omega arith) sets in
      let size : length (map (recorded digest) ws) ≡ length ws = length-map ws (recorded digest) in
      let some : 1 ≤ length ws = set.some in
      let most : length ws ≤ 8 = set.few in
      let quorum : length ps ≡ f + 1 = omega (arith, held.few, full) in
      record {
        dated = refl;
        some = omega (arith, size, some);
        few = omega (arith, size, most);
        items = All-map (λ (i : ItemBody). i.item ≤ 63) (recorded digest) ws set.items;
        rise = subst (Rises None) (sym (map-map item_number (recorded digest) ws)) set.rise;
        quorum = length_pairs (tag_by ps) 16 ∙ sym (shares-same (tag_by ps) (tag_in w v) 16 held.tags) ∙ held.count ∙ quorum;
        members = All-weaker (λ (p : PairBody). is_some (tag_by ps p.signer) ≡ true) (λ (p : PairBody). p.signer < boards f)
            (λ p sent. all-has (λ s. s < boards f) (map signer_of ps) p.signer (All-map (λ s. s < boards f) signer_of ps held.signers) ((tag_decides ps p.signer).0 sent))
            (by_signer ps) (pairs-sent (tag_by ps) 16);
        signers = pairs-rises (by_signer ps) (pairs-rise (tag_by ps) 16);
      }
