-- What one more effect adds to the commits, to the numbers that a client used and to the shares of an entry.
use Rattle.std.proofs.Common.{◌≡◌, ℕ, ◌+◌, cond, List, [], ◌∷◌, ◌++◌, map, length, sym, refl, ap, ◌∙◌}
use Rattle.std.proofs.lemmas.List.{append-nil, append_assoc, map-append, map_push, length_push}
use Rattle.std.proofs.lemmas.Bool.{eq-eqb, ne_eqb}
use Rattle.entry.specs.Bodies.{PairBody}
use Rattle.request.specs.Bodies.{WriteBody}
use Rattle.history.specs.Events.{Effect, Event, commit, abort, share, nothing, effect, effects}
use Rattle.history.specs.Commits.{commits, write_set}
use Rattle.history.specs.Clients.{used, use_of}
use Rattle.history.specs.Entries.{shares_of, share_of, signer_of, signers_of}

pub effects_push : (h : List Event) (e : Event) → effects (h ++ e ∷ []) ≡ effects h ++ effect e ∷ []
effects_push h e = map_push effect h e

-- over any effects

pub commits-append : (es fs : List Effect) → commits (es ++ fs) ≡ commits es ++ commits fs
unfolding commits
commits-append [] fs = refl
commits-append (e ∷ es) fs = ap (λ cs. write_set e ++ cs) (commits-append es fs) ∙ sym (append_assoc (write_set e) (commits es) (commits fs))

pub used-append : (c : ℕ) (es fs : List Effect) → used c (es ++ fs) ≡ used c es ++ used c fs
unfolding used
used-append c [] fs = refl
used-append c (e ∷ es) fs = ap (λ us. use_of c e ++ us) (used-append c es fs) ∙ sym (append_assoc (use_of c e) (used c es) (used c fs))

pub shares-append : (v : ℕ) (es fs : List Effect) → shares_of v (es ++ fs) ≡ shares_of v es ++ shares_of v fs
unfolding shares_of
shares-append v [] fs = refl
shares-append v (e ∷ es) fs = ap (λ ps. share_of v e ++ ps) (shares-append v es fs) ∙ sym (append_assoc (share_of v e) (shares_of v es) (shares_of v fs))

pub signers-append : (v : ℕ) (es fs : List Effect) → signers_of v (es ++ fs) ≡ signers_of v es ++ signers_of v fs
signers-append v es fs = ap (map signer_of) (shares-append v es fs) ∙ map-append signer_of (shares_of v es) (shares_of v fs)

-- before any effect

pub commits-none : commits [] ≡ []
unfolding commits
commits-none = refl

pub used-none : (c : ℕ) → used c [] ≡ []
unfolding used
used-none c = refl

pub shares-none : (v : ℕ) → shares_of v [] ≡ []
unfolding shares_of
shares-none v = refl

-- one effect more

module _ (es : List Effect) (e : Effect) where
  pub commits_push : commits (es ++ e ∷ []) ≡ commits es ++ write_set e
  unfolding commits
  commits_push = commits-append es (e ∷ []) ∙ ap (λ cs. commits es ++ cs) (append-nil (write_set e))

  pub used_push : (c : ℕ) → used c (es ++ e ∷ []) ≡ used c es ++ use_of c e
  unfolding used
  used_push c = used-append c es (e ∷ []) ∙ ap (λ us. used c es ++ us) (append-nil (use_of c e))

  pub shares_push : (v : ℕ) → shares_of v (es ++ e ∷ []) ≡ shares_of v es ++ share_of v e
  unfolding shares_of
  shares_push v = shares-append v es (e ∷ []) ∙ ap (λ ps. shares_of v es ++ ps) (append-nil (share_of v e))

  -- one that adds nothing to them
  pub commits_quiet : write_set e ≡ [] → commits (es ++ e ∷ []) ≡ commits es
  commits_quiet no' = commits_push ∙ ap (λ cs. commits es ++ cs) no' ∙ append-nil (commits es)

  pub used_quiet : (c : ℕ) → use_of c e ≡ [] → used c (es ++ e ∷ []) ≡ used c es
  used_quiet c no' = used_push c ∙ ap (λ us. used c es ++ us) no' ∙ append-nil (used c es)

  pub shares_quiet : (v : ℕ) → share_of v e ≡ [] → shares_of v (es ++ e ∷ []) ≡ shares_of v es
  shares_quiet v no' = shares_push v ∙ ap (λ ps. shares_of v es ++ ps) no' ∙ append-nil (shares_of v es)

  pub signers_quiet : (v : ℕ) → share_of v e ≡ [] → signers_of v (es ++ e ∷ []) ≡ signers_of v es
  signers_quiet v no' = ap (map signer_of) (shares_quiet v no')

-- each kind of effect

module _ (es : List Effect) (client number : ℕ) (ws : List WriteBody) where
  pub commits-commit : commits (es ++ commit client number ws ∷ []) ≡ commits es ++ ws ∷ []
  commits-commit = commits_push es (commit client number ws)

  pub length-commit : length (commits (es ++ commit client number ws ∷ [])) ≡ length (commits es) + 1
  length-commit = ap length commits-commit ∙ length_push (commits es) ws

  pub used-commit : used client (es ++ commit client number ws ∷ []) ≡ used client es ++ number ∷ []
  used-commit =
      used_push es (commit client number ws) client
      ∙ ap (λ b. used client es ++ cond b (number ∷ []) []) (eq-eqb client client refl)

  pub used-commit-other : (c : ℕ) → (client ≡ c → ⊥) → used c (es ++ commit client number ws ∷ []) ≡ used c es
  used-commit-other c ne = used_quiet es (commit client number ws) c (ap (λ b. cond b (number ∷ []) []) (ne_eqb client c ne))

  pub shares-commit : (v : ℕ) → shares_of v (es ++ commit client number ws ∷ []) ≡ shares_of v es
  shares-commit v = shares_quiet es (commit client number ws) v refl

  pub signers-commit : (v : ℕ) → signers_of v (es ++ commit client number ws ∷ []) ≡ signers_of v es
  signers-commit v = signers_quiet es (commit client number ws) v refl

module _ (es : List Effect) (client number : ℕ) where
  pub commits-abort : commits (es ++ abort client number ∷ []) ≡ commits es
  commits-abort = commits_quiet es (abort client number) refl

  pub used-abort : used client (es ++ abort client number ∷ []) ≡ used client es ++ number ∷ []
  used-abort =
      used_push es (abort client number) client
      ∙ ap (λ b. used client es ++ cond b (number ∷ []) []) (eq-eqb client client refl)

  pub used-abort-other : (c : ℕ) → (client ≡ c → ⊥) → used c (es ++ abort client number ∷ []) ≡ used c es
  used-abort-other c ne = used_quiet es (abort client number) c (ap (λ b. cond b (number ∷ []) []) (ne_eqb client c ne))

  pub shares-abort : (v : ℕ) → shares_of v (es ++ abort client number ∷ []) ≡ shares_of v es
  shares-abort v = shares_quiet es (abort client number) v refl

  pub signers-abort : (v : ℕ) → signers_of v (es ++ abort client number ∷ []) ≡ signers_of v es
  signers-abort v = signers_quiet es (abort client number) v refl

module _ (es : List Effect) (version : ℕ) (p : PairBody) where
  pub commits-share : commits (es ++ share version p ∷ []) ≡ commits es
  commits-share = commits_quiet es (share version p) refl

  pub used-share : (c : ℕ) → used c (es ++ share version p ∷ []) ≡ used c es
  used-share c = used_quiet es (share version p) c refl

  pub shares-share : shares_of version (es ++ share version p ∷ []) ≡ shares_of version es ++ p ∷ []
  shares-share =
      shares_push es (share version p) version
      ∙ ap (λ b. shares_of version es ++ cond b (p ∷ []) []) (eq-eqb version version refl)

  pub shares-share-other : (v : ℕ) → (version ≡ v → ⊥) → shares_of v (es ++ share version p ∷ []) ≡ shares_of v es
  shares-share-other v ne = shares_quiet es (share version p) v (ap (λ b. cond b (p ∷ []) []) (ne_eqb version v ne))

  pub signers-share : signers_of version (es ++ share version p ∷ []) ≡ signers_of version es ++ p.signer ∷ []
  signers-share = ap (map signer_of) shares-share ∙ map_push signer_of (shares_of version es) p

  pub signers-share-other : (v : ℕ) → (version ≡ v → ⊥) → signers_of v (es ++ share version p ∷ []) ≡ signers_of v es
  signers-share-other v ne = ap (map signer_of) (shares-share-other v ne)

module _ (es : List Effect) where
  pub commits-nothing : commits (es ++ nothing ∷ []) ≡ commits es
  commits-nothing = commits_quiet es nothing refl

  pub used-nothing : (c : ℕ) → used c (es ++ nothing ∷ []) ≡ used c es
  used-nothing c = used_quiet es nothing c refl

  pub shares-nothing : (v : ℕ) → shares_of v (es ++ nothing ∷ []) ≡ shares_of v es
  shares-nothing v = shares_quiet es nothing v refl

  pub signers-nothing : (v : ℕ) → signers_of v (es ++ nothing ∷ []) ≡ signers_of v es
  signers-nothing v = signers_quiet es nothing v refl
