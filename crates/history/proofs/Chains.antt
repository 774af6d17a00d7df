-- One more commit on the chain, and entries in a longer list of commits.
use Rattle.std.proofs.Common.{◌≡◌, ℕ, ◌+◌, ◌-◌, ◌<◌, ◌≤◌, List, [], ◌∷◌, ◌++◌, length, get_or, take, replicate, refl, ap, ◌∙◌, arith}
use Rattle.std.proofs.lemmas.List.{get_or_append_left, get_or_push, length-take-le, take_more}
use Rattle.label.specs.declared.Label.TheVariants.{Entry}
use Rattle.label.specs.Labels.{labelled}
use Rattle.entry.specs.Bodies.{entry_bytes}
use Rattle.request.specs.Bodies.{WriteBody}
use Rattle.history.specs.Events.{width}
use Rattle.history.specs.Entries.{chain_after, chain_from, chain_string, entry_at, entry_of, sealed_string}
use Rattle.history.specs.Marks.{Sized}

module _ (digest : List ℕ → List ℕ) where
  chain-from_push : (k : ℕ) (chain : List ℕ) (cs : List (List WriteBody)) (ws : List WriteBody)
      → chain_from digest k chain (cs ++ ws ∷ []) ≡ digest (chain_string digest (chain_from digest k chain cs) (entry_of digest (k + length cs + 1) ws))
  unfolding chain_from
  chain-from_push k chain [] ws = ap (λ n. digest (chain_string digest chain (entry_of digest n ws))) (omega arith)
  chain-from_push k chain (vs ∷ cs) ws =
      let next = digest (chain_string digest chain (entry_of digest (k + 1) vs)) in
      chain-from_push (k + 1) next cs ws
      ∙ ap (λ n. digest (chain_string digest (chain_from digest (k + 1) next cs) (entry_of digest n ws))) (omega arith)

  pub chain-none : chain_after digest [] ≡ replicate 32 0
  unfolding chain_from
  chain-none = refl

  pub chain_push : (cs : List (List WriteBody)) (ws : List WriteBody)
      → chain_after digest (cs ++ ws ∷ []) ≡ digest (chain_string digest (chain_after digest cs) (entry_of digest (length cs + 1) ws))
  chain_push cs ws =
      chain-from_push 0 (replicate 32 0) cs ws
      ∙ ap (λ n. digest (chain_string digest (chain_after digest cs) (entry_of digest n ws))) (omega arith)

  pub chain_more : (k : ℕ) (cs : List (List WriteBody)) → k < length cs
      → chain_after digest (take (k + 1) cs) ≡ digest (chain_string digest (chain_after digest (take k cs)) (entry_at digest cs (k + 1)))
  chain_more k cs lt =
      let le : k ≤ length cs = omega arith in
      let at : k ≡ k + 1 - 1 = omega arith in
      ap (chain_after digest) (take_more cs k [] lt)
      ∙ chain_push (take k cs) (get_or cs k [])
      ∙ ap (λ n. digest (chain_string digest (chain_after digest (take k cs)) (entry_of digest (n + 1) (get_or cs k [])))) (length-take-le k cs le)
      ∙ ap (λ n. digest (chain_string digest (chain_after digest (take k cs)) (entry_of digest (k + 1) (get_or cs n [])))) at

  chain-from-length : Sized digest → (k : ℕ) (chain : List ℕ) (cs : List (List WriteBody)) → length chain ≡ 32 → length (chain_from digest k chain cs) ≡ 32
  unfolding chain_from
  chain-from-length sized k chain [] e = e
  chain-from-length sized k chain (ws ∷ cs) e =
      let s = chain_string digest chain (entry_of digest (k + 1) ws) in
      chain-from-length sized (k + 1) (digest s) cs (sized s)

  pub chain_length : Sized digest → (cs : List (List WriteBody)) → length (chain_after digest cs) ≡ 32
  chain_length sized cs = chain-from-length sized 0 (replicate 32 0) cs refl

  -- an entry stays as it is, and the newest is the last commit's
  pub entry-append : (cs more : List (List WriteBody)) (k : ℕ) → 1 ≤ k → k ≤ length cs → entry_at digest (cs ++ more) k ≡ entry_at digest cs k
  entry-append cs more k low high =
      let lt : k - 1 < length cs = omega arith in
      ap (entry_of digest k) (get_or_append_left cs more [] (k - 1) lt)

  pub entry_push : (cs : List (List WriteBody)) (ws : List WriteBody) → entry_at digest (cs ++ ws ∷ []) (length cs + 1) ≡ entry_of digest (length cs + 1) ws
  entry_push cs ws =
      let at : length cs ≡ length cs + 1 - 1 = omega arith in
      ap (entry_of digest (length cs + 1)) (get_or_push cs ws [] (length cs + 1 - 1) at)

  pub sealed-append : (cs more : List (List WriteBody)) (k : ℕ) → 1 ≤ k → k ≤ length cs → sealed_string digest (cs ++ more) k ≡ sealed_string digest cs k
  sealed-append cs more k low high = ap (λ e. labelled Entry (entry_bytes width e)) (entry-append cs more k low high)

  pub sealed_push : (cs : List (List WriteBody)) (ws : List WriteBody) → sealed_string digest (cs ++ ws ∷ []) (length cs + 1) ≡ labelled Entry (entry_bytes width (entry_of digest (length cs + 1) ws))
  sealed_push cs ws = ap (λ e. labelled Entry (entry_bytes width e)) (entry_push cs ws)
