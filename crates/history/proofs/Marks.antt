-- Equal marks mean equal commits, or a clash.
use Rattle.std.proofs.Common.{◌≡◌, ℕ, ◌+◌, ◌⊎◌, List, [], ◌∷◌, ◌++◌, map, length, take, drop, replicate, sym, refl, ap, ◌∙◌, inl, inr, arith}
use Rattle.std.specs.List.{ContainsAt as Has, flat_map}
use Rattle.std.proofs.ByRecursion.{has_append_left, has_append_right}
use Rattle.std.proofs.lemmas.List.{append_cancel_left, drop_at, length-map, take_at}
use Rattle.label.specs.declared.Label.TheVariants.{Chain}
use Rattle.label.specs.Labels.{label_bytes}
use Rattle.octets.specs.Numbers.{be}
use Rattle.entry.specs.Bodies.{entry_bytes, item_bytes}
use Rattle.request.specs.Bodies.{WriteBody}
use Rattle.history.specs.Events.{width}
use Rattle.history.specs.Entries.{chain_after, chain_from, chain_string, entry_of, recorded}
use Rattle.history.specs.Marks.{Clash, EqualCommits, EqualMarks, Sized, digested_from, write_value}
use Rattle.history.proofs.Deciding.{either_same, has_head}

-- two lists joined the same, with first parts of one length
pub same_parts : {A : Type 0} (a b c d : List A) → length a ≡ length b → a ++ c ≡ b ++ d → (a ≡ b) × (c ≡ d)
same_parts a b c d n e = (
  sym (take_at a c (length a) refl) ∙ ap (take (length a)) e ∙ take_at b d (length a) (sym n),
  sym (drop_at a c (length a) refl) ∙ ap (drop (length a)) e ∙ drop_at b d (length a) (sym n),
)

same_cons : {A : Type 0} (a b : A) (c d : List A) → a ∷ c ≡ b ∷ d → (a ≡ b) × (c ≡ d)
same_cons a b c d e = (cc, cc)

module _ (digest : List ℕ → List ℕ) where
  -- a clash stays one in longer lists
  pub clash_within : (ss ts us vs : List (List ℕ)) → ((s : List ℕ) → Has ss s → Has us s) → ((t : List ℕ) → Has ts t → Has vs t) → Clash digest ss ts → Clash digest us vs
  clash_within ss ts us vs in_one in_two (s, (t, (p, q, apart, e))) = (s, (t, (in_one s p, in_two t q, apart, e)))

  module _ (sized : Sized digest) where
    same_digests : (s t c d : List ℕ) → digest s ++ c ≡ digest t ++ d → (digest s ≡ digest t) × (c ≡ d)
    same_digests s t c d e = same_parts (digest s) (digest t) c d (sized s ∙ sym (sized t)) e

    -- entries that list the same items and digests are of the same writes, or values clash
    same_writes : (ws vs : List WriteBody) → length ws ≡ length vs
        → flat_map item_bytes (map (recorded digest) ws) ≡ flat_map item_bytes (map (recorded digest) vs)
        → (ws ≡ vs) ⊎ Clash digest (map write_value ws) (map write_value vs)
    same_writes [] [] n e = inl refl
    same_writes [] (v ∷ vs) n e = absurd (omega arith)
    same_writes (w ∷ ws) [] n e = absurd (omega arith)
    same_writes (w ∷ ws) (v ∷ vs) n e =
        let rest = flat_map item_bytes (map (recorded digest) ws) in
        let rest' = flat_map item_bytes (map (recorded digest) vs) in
        let heads = same_cons w.item v.item (digest w.value ++ rest) (digest v.value ++ rest') e in
        let tails = same_digests w.value v.value rest rest' heads.1 in
        let m : length ws ≡ length vs = omega arith in
        elim (same_writes ws vs m tails.1) [
          | inr clash ↦ inr (clash_within (map write_value ws) (map write_value vs) (map write_value (w ∷ ws)) (map write_value (v ∷ vs))
              (λ s. has_append_right (w.value ∷ []) (map write_value ws) s) (λ t. has_append_right (v.value ∷ []) (map write_value vs) t) clash)
          | inl same ↦ elim (either_same w.value v.value) [
            | inl value ↦ let one : w ≡ v = (λ i. record { item = heads.0 i; value = value i }) in inl (λ i. one i ∷ same i)
            | inr apart ↦ inr (w.value, (v.value, (has_head w.value (map write_value ws), has_head v.value (map write_value vs), apart, tails.0)))
          ]
        ]

    -- the fixed layout: a chained string shows the old chain and the entry
    same_chained : (k : ℕ) (c d : List ℕ) (ws vs : List WriteBody) → length c ≡ length d
        → chain_string digest c (entry_of digest k ws) ≡ chain_string digest d (entry_of digest k vs)
        → (c ≡ d) × ((ws ≡ vs) ⊎ Clash digest (map write_value ws) (map write_value vs))
    same_chained k c d ws vs n e =
        let one = entry_bytes width (entry_of digest k ws) in
        let two = entry_bytes width (entry_of digest k vs) in
        let parts = same_parts c d one two n (append_cancel_left (label_bytes Chain) (c ++ one) (d ++ two) e) in
        let listed = append_cancel_left (be width k)
        (length (map (recorded digest) ws) ∷ flat_map item_bytes (map (recorded digest) ws))
        (length (map (recorded digest) vs) ∷ flat_map item_bytes (map (recorded digest) vs)) parts.1 in
        let counted = same_cons (length (map (recorded digest) ws)) (length (map (recorded digest) vs))
        (flat_map item_bytes (map (recorded digest) ws)) (flat_map item_bytes (map (recorded digest) vs)) listed in
        (parts.0, same_writes ws vs (sym (length-map ws (recorded digest)) ∙ counted.0 ∙ length-map vs (recorded digest)) counted.1)

    equal-from : (k : ℕ) (c d : List ℕ) (cs ds : List (List WriteBody)) → length c ≡ length d → length cs ≡ length ds
        → chain_from digest k c cs ≡ chain_from digest k d ds
        → ((c ≡ d) × (cs ≡ ds)) ⊎ Clash digest (digested_from digest k c cs) (digested_from digest k d ds)
    unfolding chain_from digested_from
    equal-from k c d [] [] n m e = inl (e, refl)
    equal-from k c d [] (vs ∷ ds) n m e = absurd (omega arith)
    equal-from k c d (ws ∷ cs) [] n m e = absurd (omega arith)
    equal-from k c d (ws ∷ cs) (vs ∷ ds) n m e =
        let s = chain_string digest c (entry_of digest (k + 1) ws) in
        let t = chain_string digest d (entry_of digest (k + 1) vs) in
        let one = map write_value ws in
        let two = map write_value vs in
        let later = digested_from digest (k + 1) (digest s) cs in
        let later' = digested_from digest (k + 1) (digest t) ds in
        let fewer : length cs ≡ length ds = omega arith in
        elim (equal-from (k + 1) (digest s) (digest t) cs ds (sized s ∙ sym (sized t)) fewer e) [
          | inr clash ↦ inr (clash_within later later' (one ++ (s ∷ later)) (two ++ (t ∷ later'))
              (λ u h. has_append_right one (s ∷ later) u (has_append_right (s ∷ []) later u h))
              (λ u h. has_append_right two (t ∷ later') u (has_append_right (t ∷ []) later' u h)) clash)
          | inl (chains, rest) ↦ elim (either_same s t) [
            | inr apart ↦ inr (s, (t, (has_append_right one (s ∷ later) s (has_head s later), has_append_right two (t ∷ later') t (has_head t later'), apart, chains)))
            | inl same ↦
                let parts = same_chained (k + 1) c d ws vs n same in
                elim parts.1 [
                  | inl writes ↦ inl (parts.0, λ i. writes i ∷ rest i)
                  | inr clash ↦ inr (clash_within one two (one ++ (s ∷ later)) (two ++ (t ∷ later'))
                      (λ u. has_append_left one (s ∷ later) u) (λ u. has_append_left two (t ∷ later') u) clash)
                ]
          ]
        ]

    pub equal-marks : EqualMarks digest
    equal-marks cs ds (n, e) = elim (equal-from 0 (replicate 32 0) (replicate 32 0) cs ds refl n e) [ inl (_, same) ↦ inl same | inr clash ↦ inr clash ]

  pub equal-commits : EqualCommits digest
  equal-commits cs ds e = (ap length e, ap (chain_after digest) e)
