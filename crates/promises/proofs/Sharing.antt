-- Shares that came in are tagged: by their signers, over the entries of the commits.
use Rattle.std.proofs.Common.{◌≡◌, ℕ, zero, suc, ◌+◌, ◌≤◌, Bool, true, false, cond, eqb, List, [], ◌∷◌, ◌++◌, length, Some, None, Ok, Err, Option, Result, sym, refl, ap, ◌∙◌, subst, inl, inr, arith}
use Rattle.std.specs.List.{AllByRecursion as All}
use Rattle.std.proofs.ByRecursion.{All-append, All-weaker}
use Rattle.std.proofs.lemmas.List.{append_assoc, append-nil, length-append}
use Rattle.std.proofs.lemmas.Bool.{cases_eq, cases_lt, eq-eqb, eqb-true, ne_eqb}
use Rattle.fault.specs.declared.Fault.{Fault}
use Rattle.fault.specs.declared.Layer.TheVariants.{Frame}
use Rattle.fault.specs.declared.Verdict.{Verdict}
use Rattle.fault.specs.declared.Verdict.TheVariants.{Abort, Commit}
use Rattle.decision.specs.Decisions.{verdict_of}
use Rattle.record.specs.Formats.{formed}
use Rattle.entry.specs.Bodies.{PairBody}
use Rattle.window.specs.Shares.{pair_of, pairs_below}
use Rattle.seal.specs.Seals.{passes}
use Rattle.share.specs.Shares.{ShareBody, read_share, share_format}
use Rattle.request.specs.Bodies.{RequestBody, WriteBody}
use Rattle.history.specs.Events.{Effect, Event, asked, delivered, effect, effects, marked, nothing, proved, share_effect, shared_in, shared_out, verdict_effect, width}
use Rattle.history.specs.Commits.{commits, write_set}
use Rattle.history.specs.Entries.{by_signer, sealed_string, share_of, shares_of, tag_by}
use Rattle.history.specs.Tables.{Read, Under}
use Rattle.history.specs.Answers.{Answered, Lawful, ShareInAnswers, share_table}
use Rattle.history.proofs.Appends.{commits_push, shares_push}
use Rattle.history.proofs.Chains.{sealed-append}
use Rattle.board.proofs.ShareInHistory.{read-formed}
use Rattle.reader.proofs.Clear.{bytes_stable, ok_clear, ok_err}

-- what holds of all shares holds of them in order of signer
module _ (P : PairBody → Type 0) (ps : List PairBody) where
  tagged : (qs : List PairBody) (s : ℕ) (t : List ℕ) → All P qs → tag_by qs s ≡ Some t → P (record { signer = s; tag = t })
  unfolding tag_by
  tagged [] s t all e = absurd (let z : ◌≡◌ {A = ℕ} 0 1 = cc in omega arith)
  tagged (q ∷ qs) s t (one, all) e = elim (cases_eq q.signer s) [
    | inl same ↦
        let is : q.tag ≡ t = some (sym (ap (λ b. cond b (Some q.tag) (tag_by qs s)) (eq-eqb q.signer s same)) ∙ e) in
        subst P (λ i. record { signer = same i; tag = is i }) one
    | inr apart ↦ tagged qs s t all (sym (ap (λ b. cond b (Some q.tag) (tag_by qs s)) (ne_eqb q.signer s apart)) ∙ e)
  ]
    where
      some : {a b : List ℕ} → Some a ≡ Some b → a ≡ b
      some e = cc

  below : (n : ℕ) → All P ps → All P (pairs_below (tag_by ps) n)
  unfolding pairs_below
  below zero all = tt
  below (suc n) all = All-append P (pairs_below (tag_by ps) n) (pair_of n (tag_by ps n)) (below n all) (last (tag_by ps n) refl)
    where
      last : (o : Option (List ℕ)) → tag_by ps n ≡ o → All P (pair_of n o)
      last (Some t) e = (tagged ps n t all e, tt)
      last None e = tt

  pub all_by_signer : All P ps → All P (by_signer ps)
  all_by_signer all = below 16 all

module _ (digest : List ℕ → List ℕ) (tag : ℕ → List ℕ → List ℕ) where
  -- a share of version v: it is among the commits, and the tag is the signer's over its entry
  abbrev pub Stamped : List (List WriteBody) → ℕ → PairBody → Type 0
  Stamped cs v p = (v ≤ length cs) × passes tag p.signer (sealed_string digest cs v) p.tag

  abbrev pub AllStamped : List Effect → Type 0
  AllStamped es = (v : ℕ) → 1 ≤ v → All (Stamped (commits es) v) (shares_of v es)

  -- more commits leave it so
  stamped_more : (cs more : List (List WriteBody)) (v : ℕ) (p : PairBody) → 1 ≤ v → Stamped cs v p → Stamped (cs ++ more) v p
  stamped_more cs more v p one (most, pass) =
      (omega (arith, length-append cs more), pass ∙ ap (tag p.signer) (sym (sealed-append digest cs more v one most)))

  stamped_push : (es : List Effect) (e : Effect) → AllStamped es → ((v : ℕ) → 1 ≤ v → All (Stamped (commits es) v) (share_of v e)) → AllStamped (es ++ e ∷ [])
  stamped_push es e old new v one =
      rw (shares_push es e v, commits_push es e)
      (All-weaker (Stamped (commits es) v) (Stamped (commits es ++ write_set e) v) (λ p. stamped_more (commits es) (write_set e) v p one) (shares_of v es ++ share_of v e)
      (All-append (Stamped (commits es) v) (shares_of v es) (share_of v e) (old v one) (new v one)))

  -- a verdict adds no share
  verdict_none : (es : List Effect) (q : Result RequestBody Fault) (d : Verdict) (v : ℕ) → All (Stamped (commits es) v) (share_of v (verdict_effect q d))
  verdict_none es (Ok b) Commit v = tt
  verdict_none es (Ok b) Abort v = tt
  verdict_none es (Err e) d v = tt

module _ (digest : List ℕ → List ℕ) (tag : ℕ → List ℕ → List ℕ) (f own : ℕ) where
  -- a share that was taken passed
  taken : (es : List Effect) (frame : List ℕ) (n : ℕ) → ShareInAnswers digest tag f own es frame (Ok n)
      → (v : ℕ) → All (Stamped digest tag (commits es) v) (share_of v (share_effect (formed Frame (share_format width) frame)))
  taken es frame n a v = go (read_share width f frame) refl a
    where
      one : (s : ShareBody) → Under (share_table digest tag f own es s) (λ k. k ≡ length (shares_of s.version es) + 1) (Ok n) → Stamped digest tag (commits es) s.version (record { signer = s.signer; tag = s.tag })
      one s u =
          let clear = (ok_clear (λ k. k ≡ length (shares_of s.version es) + 1) (share_table digest tag f own es s) n u).0 in (
            elim (cases_lt (length (commits es)) s.version) [ inl far ↦ absurd (clear.0 far) | inr near ↦ near ],
            bytes_stable s.tag (tag s.signer (sealed_string digest (commits es) s.version)) clear.1.1.1.0,
          )

      at : (s : ShareBody) (b : Bool) → eqb s.version v ≡ b → Stamped digest tag (commits es) s.version (record { signer = s.signer; tag = s.tag })
          → All (Stamped digest tag (commits es) v) (cond b (record { signer = s.signer; tag = s.tag } ∷ []) [])
      at s true e p = (subst (λ (k : ℕ). Stamped digest tag (commits es) k (record { signer = s.signer; tag = s.tag })) (eqb-true s.version v e) p, tt)
      at s false e p = tt

      go : (q : Result ShareBody Fault) → read_share width f frame ≡ q → Read q (λ s. Under (share_table digest tag f own es s) (λ k. k ≡ length (shares_of s.version es) + 1)) (Ok n)
          → All (Stamped digest tag (commits es) v) (share_of v (share_effect (formed Frame (share_format width) frame)))
      go (Ok s) e u = subst (λ (r : Result ShareBody Fault). All (Stamped digest tag (commits es) v) (share_of v (share_effect r))) (sym (read-formed f frame s e)) (at s (eqb s.version v) refl (one s u))
      go (Err x) e u = absurd (ok_err n x u)

  stamped_event : (es : List Effect) (e : Event) → AllStamped digest tag es → Answered digest tag f own es e → AllStamped digest tag (es ++ effect e ∷ [])
  stamped_event es (delivered frame (Ok d)) old a = stamped_push digest tag es _ old (λ v one. verdict_none digest tag es _ (verdict_of d.decision) v)
  stamped_event es (delivered frame (Err x)) old a = stamped_push digest tag es nothing old (λ v one. tt)
  stamped_event es (asked item r) old a = stamped_push digest tag es nothing old (λ v one. tt)
  stamped_event es (marked n c) old a = stamped_push digest tag es nothing old (λ v one. tt)
  stamped_event es (shared_out v x y r) old a = stamped_push digest tag es nothing old (λ v one. tt)
  stamped_event es (shared_in frame (Ok n)) old a = stamped_push digest tag es _ old (λ v one. taken es frame n a v)
  stamped_event es (shared_in frame (Err x)) old a = stamped_push digest tag es nothing old (λ v one. tt)
  stamped_event es (proved low high x y r) old a = stamped_push digest tag es nothing old (λ v one. tt)

  stamped_from : (es : List Effect) (h : List Event) → AllStamped digest tag es → Lawful digest tag f own es h → AllStamped digest tag (es ++ effects h)
  unfolding Lawful
  stamped_from es [] old l = subst (AllStamped digest tag) (sym (append-nil es)) old
  stamped_from es (e ∷ h) old (a, l) =
      subst (AllStamped digest tag) (append_assoc es (effect e ∷ []) (effects h)) (stamped_from (es ++ effect e ∷ []) h (stamped_event es e old a) l)

  -- in a lawful history every share is stamped
  pub stamped : (h : List Event) → Lawful digest tag f own [] h → AllStamped digest tag (effects h)
  unfolding shares_of
  stamped h l = stamped_from [] h (λ v one. tt) l
