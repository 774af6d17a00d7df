-- The delivered frames alone fix every delivery's answer, and so the commits.
use Rattle.std.proofs.Common.{◌≡◌, ℕ, ◌+◌, ◌≤◌, ◌⊎◌, List, [], ◌∷◌, ◌++◌, length, take, Ok, Err, Result, sym, refl, ap, ◌∙◌, subst, inl, inr, arith}
use Rattle.std.proofs.lemmas.List.{append-nil, append_assoc, length-append, nil_from_length}
use Rattle.std.specs.List.{AllByRecursion as All}
use Rattle.octets.specs.Numbers.{limit}
use Rattle.fault.specs.declared.Fault.{Fault}
use Rattle.decision.specs.declared.Decision.{Decision}
use Rattle.decision.specs.declared.Decision.TheVariants.{Abort, Commit}
use Rattle.label.specs.declared.Label.TheVariants.{Request}
use Rattle.label.specs.Labels.{labelled}
use Rattle.numbers.specs.Sequence.{Open, opens}
use Rattle.request.specs.Bodies.{RequestBody, read_request}
use Rattle.seal.specs.Seals.{client_signer}
use Rattle.share.specs.Shares.{ShareBody}
use Rattle.history.specs.declared.Delivery.{Delivery}
use Rattle.history.specs.Events.{Effect, Event, delivered, asked, marked, shared_out, shared_in, proved, nothing, effect, effects, share_effect, width}
use Rattle.history.specs.Commits.{Passes, commits, write_set}
use Rattle.history.specs.Clients.{used, use_of}
use Rattle.history.specs.Tables.{Read, Under}
use Rattle.history.specs.Answers.{DeliverAnswers, Delivers, Judged, Lawful, deliver_table, tag_at}
use Rattle.history.specs.Marks.{Extends, FirstPart, OneOrder, Same, frames}
use Rattle.history.proofs.Appends.{commits_push, commits_quiet, used_push, used_quiet}
use Rattle.history.proofs.Deciding.{either_le, either_not, either_open, either_same}
use Rattle.history.proofs.Tables.{Decided, under_alike, under-once}

module _ (digest : List ℕ → List ℕ) (tag : ℕ → List ℕ → List ℕ) (f own : ℕ) where
  judged-once : (es : List Effect) (b : RequestBody) (u v : Decision) → Judged digest tag f own es b u → Judged digest tag f own es b v → u ≡ v
  judged-once es b (Commit m) (Commit n) p q = ap (λ k. Commit k) (p.1 ∙ sym q.1)
  judged-once es b (Commit m) Abort p q = absurd (q p.0)
  judged-once es b Abort (Commit n) p q = absurd (p q.0)
  judged-once es b Abort Abort p q = refl

  delivers_once : (es : List Effect) (b : RequestBody) (d e : Delivery) → Delivers digest tag f own es b d → Delivers digest tag f own es b e → d ≡ e
  delivers_once es b d e (p, q) (p', q') =
      let same = judged-once es b d.decision e.decision p p' in
      let last = q ∙ sym q' in
      λ i. record { decision = same i; opened = last i }

  pub deliver-decided : (es : List Effect) (frame : List ℕ) (b : RequestBody) → Decided (deliver_table digest tag f own es frame b)
  deliver-decided es frame b = (
    either_not (either_same b.tag (tag (client_signer b.client) (labelled Request (take (tag_at b) frame)))),
    (
      either_not (either_open width (used b.client es) b.sequence),
      (
        either_le (limit width) (length (commits es)),
        tt,
      ),
    ),
  )

  -- a delivery has one answer
  pub deliver-once : (es : List Effect) (frame : List ℕ) (r s : Result Delivery Fault) → DeliverAnswers digest tag f own es frame r → DeliverAnswers digest tag f own es frame s → r ≡ s
  deliver-once es frame r s a b = go (read_request width frame) a b
    where
      go : (q : Result RequestBody Fault)
          → Read q (λ b. Under (deliver_table digest tag f own es frame b) (Delivers digest tag f own es b)) r
          → Read q (λ b. Under (deliver_table digest tag f own es frame b) (Delivers digest tag f own es b)) s → r ≡ s
      go (Ok b) u v = under-once (deliver_table digest tag f own es frame b) (Delivers digest tag f own es b) (deliver-decided es frame b) (delivers_once es b) r s u v
      go (Err e) u v = u ∙ sym v

  judged-same : (es fs : List Effect) (b : RequestBody) (d : Decision) → commits es ≡ commits fs → Judged digest tag f own es b d → Judged digest tag f own fs b d
  judged-same es fs b (Commit n) e p = subst (λ cs. All (Passes digest cs) b.reads × (n ≡ length cs + 1)) e p
  judged-same es fs b Abort e p = subst (λ cs. All (Passes digest cs) b.reads → ⊥) e p

  -- it follows from the commits and the used numbers
  pub deliver-same : (es fs : List Effect) (frame : List ℕ) (r : Result Delivery Fault) → Same es fs → DeliverAnswers digest tag f own es frame r → DeliverAnswers digest tag f own fs frame r
  deliver-same es fs frame r same a = go (read_request width frame) a
    where
      go : (q : Result RequestBody Fault)
          → Read q (λ b. Under (deliver_table digest tag f own es frame b) (Delivers digest tag f own es b)) r
          → Read q (λ b. Under (deliver_table digest tag f own fs frame b) (Delivers digest tag f own fs b)) r
      go (Ok b) u =
          let mine = same.used b.client in
          let count = ap length same.commits in
          under_alike (deliver_table digest tag f own es frame b) (deliver_table digest tag f own fs frame b) (Delivers digest tag f own es b) (Delivers digest tag f own fs b) (
            (λ x. x),
            (λ x. x),
            refl,
            (
              (λ shut held. shut (subst (λ us. Open width us b.sequence) (sym mine) held)),
              (λ shut held. shut (subst (λ us. Open width us b.sequence) mine held)),
              refl,
              ((λ le. omega arith), (λ le. omega arith), refl, tt),
            ),
          )
          (λ d p. (judged-same es fs b d.decision same.commits p.0, p.1 ∙ ap (opens width) mine)) r u
      go (Err e) u = u

-- two boards with the same commits and used numbers answer a frame the same, whatever f and their numbers are
pub deliver_determined : (digest : List ℕ → List ℕ) (tag : ℕ → List ℕ → List ℕ) (f f' own own' : ℕ) (es fs : List Effect) (frame : List ℕ) (r s : Result Delivery Fault) → Same es fs
    → DeliverAnswers digest tag f own es frame r → DeliverAnswers digest tag f' own' fs frame s → r ≡ s
deliver_determined digest tag f f' own own' es fs frame r s same a b = deliver-once digest tag f own fs frame r s (deliver-same digest tag f own es fs frame r same a) b

-- effects that add no commit and use no number
Quiet : Effect → Type 0
Quiet e = (write_set e ≡ []) × ((c : ℕ) → use_of c e ≡ [])

share_quiet : (q : Result ShareBody Fault) → Quiet (share_effect q)
unfolding Quiet
share_quiet (Ok s) = (refl, λ c. refl)
share_quiet (Err e) = (refl, λ c. refl)

same_quiet : (es fs : List Effect) (e : Effect) → Quiet e → Same es fs → Same (es ++ e ∷ []) fs
unfolding Quiet
same_quiet es fs e (no', none) same = record {
  commits = commits_quiet es e no' ∙ same.commits;
  used = λ c. used_quiet es e c (none c) ∙ same.used c;
}

same_push : (es fs : List Effect) (e : Effect) → Same es fs → Same (es ++ e ∷ []) (fs ++ e ∷ [])
same_push es fs e same = record {
  commits = commits_push es e ∙ ap (λ cs. cs ++ write_set e) same.commits ∙ sym (commits_push fs e);
  used = λ c. used_push es e c ∙ ap (λ us. us ++ use_of c e) (same.used c) ∙ sym (used_push fs e c);
}

-- first parts
module _ {A : Type 0} where
  pub first_refl : (xs : List A) → FirstPart xs xs
  first_refl xs = ([], sym (append-nil xs))

  pub first_trans : (xs ys zs : List A) → FirstPart xs ys → FirstPart ys zs → FirstPart xs zs
  first_trans xs ys zs (m, p) (n, q) = (m ++ n, q ∙ ap (λ l. l ++ n) p ∙ append_assoc xs m n)

  first_at : (xs ys us vs : List A) → xs ≡ us → ys ≡ vs → FirstPart xs ys → FirstPart us vs
  first_at xs ys us vs p q (m, e) = (m, sym q ∙ e ∙ ap (λ l. l ++ m) p)

  pub first_cons : (x : A) (xs ys : List A) → FirstPart xs ys → FirstPart (x ∷ xs) (x ∷ ys)
  first_cons x xs ys (m, e) = (m, ap (λ l. x ∷ l) e)

  pub first-length : (xs ys : List A) → FirstPart xs ys → length xs ≤ length ys
  first-length xs ys (m, e) = omega (arith, ap length e, length-append xs m)

  same_cons : (a b : A) (c d : List A) → a ∷ c ≡ b ∷ d → (a ≡ b) × (c ≡ d)
  same_cons a b c d e = (cc, cc)

  -- of two first parts of one list, one is the other's
  pub first_either : (xs ys zs : List A) → FirstPart xs zs → FirstPart ys zs → FirstPart xs ys ⊎ FirstPart ys xs
  first_either [] ys zs p q = inl (ys, refl)
  first_either (x ∷ xs) [] zs p q = inr (x ∷ xs, refl)
  first_either (x ∷ xs) (y ∷ ys) zs (m, p) (n, q) =
      let same = same_cons x y (xs ++ m) (ys ++ n) (sym p ∙ q) in
      elim (first_either xs ys (xs ++ m) (m, refl) (n, same.1)) [
        | inl u ↦ inl (subst (λ z. FirstPart (x ∷ xs) (z ∷ ys)) same.0 (first_cons x xs ys u))
        | inr u ↦ inr (subst (λ z. FirstPart (z ∷ ys) (x ∷ xs)) same.0 (first_cons x ys xs u))
      ]

  -- of two lists of which one is the other's first part, the shorter is
  pub first_shorter : (xs ys : List A) → FirstPart xs ys ⊎ FirstPart ys xs → length xs ≤ length ys → FirstPart xs ys
  first_shorter xs ys (inl p) le = p
  first_shorter xs ys (inr (m, e)) le =
      let n : length m ≡ 0 = omega (arith, ap length e, length-append ys m) in
      ([], sym (append-nil xs ∙ e ∙ ap (λ l. ys ++ l) (nil_from_length m n) ∙ append-nil ys))

extends_push : (es : List Effect) (e : Effect) → Extends es (es ++ e ∷ [])
extends_push es e = record { commits = (write_set e, commits_push es e); used = λ c. (use_of c e, used_push es e c) }

extends_trans : (es fs gs : List Effect) → Extends es fs → Extends fs gs → Extends es gs
extends_trans es fs gs p q = record {
  commits = first_trans (commits es) (commits fs) (commits gs) p.commits q.commits;
  used = λ c. first_trans (used c es) (used c fs) (used c gs) (p.used c) (q.used c);
}

extends_same : (es fs gs hs : List Effect) → Same es gs → Same fs hs → Extends es fs → Extends gs hs
extends_same es fs gs hs p q x = record {
  commits = first_at (commits es) (commits fs) (commits gs) (commits hs) p.commits q.commits x.commits;
  used = λ c. first_at (used c es) (used c fs) (used c gs) (used c hs) (p.used c) (q.used c) (x.used c);
}

module _ (digest : List ℕ → List ℕ) (tag : ℕ → List ℕ → List ℕ) where
  -- after some effects the frames, delivered one by one, lead to effects like these; a delivery's answer hangs on no board's number, nor on f
  unfoldable Follows : List Effect → List (List ℕ) → List Effect → Type 0
  Follows es [] out = Same es out
  Follows es (frame ∷ rest) out = (r : Result Delivery Fault) × (DeliverAnswers digest tag 0 0 es frame r × Follows (es ++ effect (delivered frame r) ∷ []) rest out)

  follows_extends : (es : List Effect) (fs : List (List ℕ)) (out : List Effect) → Follows es fs out → Extends es out
  unfolding Follows
  follows_extends es [] out same =
      extends_same es es es out (record { commits = refl; used = λ c. refl }) same (record { commits = first_refl (commits es); used = λ c. first_refl (used c es) })
  follows_extends es (frame ∷ rest) out (r, (a, next)) =
      extends_trans es (es ++ effect (delivered frame r) ∷ []) out (extends_push es (effect (delivered frame r))) (follows_extends (es ++ effect (delivered frame r) ∷ []) rest out next)

  follows-first : (es ds : List Effect) (fs more : List (List ℕ)) (out far : List Effect) → Same es ds → Follows es fs out → Follows ds (fs ++ more) far → Extends out far
  unfolding Follows
  follows-first es ds [] more out far same p q =
      extends_same ds far out far (record { commits = sym same.commits ∙ p.commits; used = λ c. sym (same.used c) ∙ p.used c }) (record { commits = refl; used = λ c. refl })
      (follows_extends ds more far q)
  follows-first es ds (frame ∷ fs) more out far same (r, (a, next)) (s, (b, next')) =
      let e = deliver_determined digest tag 0 0 0 0 es ds frame r s same a b in
      follows-first (es ++ effect (delivered frame r) ∷ []) (ds ++ effect (delivered frame r) ∷ []) fs more out far (same_push es ds (effect (delivered frame r)) same) next
      (subst (λ t. Follows (ds ++ effect (delivered frame t) ∷ []) (fs ++ more) far) (sym e) next')

  follows_same : (es ds : List Effect) (fs : List (List ℕ)) (out far : List Effect) → Same es ds → Follows es fs out → Follows ds fs far → Same out far
  unfolding Follows
  follows_same es ds [] out far same p q = record {
    commits = sym p.commits ∙ same.commits ∙ q.commits;
    used = λ c. sym (p.used c) ∙ same.used c ∙ q.used c;
  }
  follows_same es ds (frame ∷ fs) out far same (r, (a, next)) (s, (b, next')) =
      let e = deliver_determined digest tag 0 0 0 0 es ds frame r s same a b in
      follows_same (es ++ effect (delivered frame r) ∷ []) (ds ++ effect (delivered frame r) ∷ []) fs out far (same_push es ds (effect (delivered frame r)) same) next
      (subst (λ t. Follows (ds ++ effect (delivered frame t) ∷ []) fs far) (sym e) next')

  module _ (f own : ℕ) where
    follows : (es ds : List Effect) (h : List Event) → Same es ds → Lawful digest tag f own es h → Follows ds (frames h) (es ++ effects h)
    unfolding Follows Lawful frames Quiet
    follows es ds [] same l = record {
      commits = sym same.commits ∙ ap commits (sym (append-nil es));
      used = λ c. sym (same.used c) ∙ ap (used c) (sym (append-nil es));
    }
    follows es ds (delivered frame r ∷ h) same (a, l) =
        let e = effect (delivered frame r) in (
          r,
          (
            deliver-same digest tag 0 0 es ds frame r same a,
            subst (Follows (ds ++ e ∷ []) (frames h)) (append_assoc es (e ∷ []) (effects h)) (follows (es ++ e ∷ []) (ds ++ e ∷ []) h (same_push es ds e same) l),
          ),
        )
    follows es ds (asked x r ∷ h) same (a, l) =
        subst (Follows ds (frames h)) (append_assoc es (nothing ∷ []) (effects h)) (follows (es ++ nothing ∷ []) ds h (same_quiet es ds nothing (refl, λ c. refl) same) l)
    follows es ds (marked n k ∷ h) same (a, l) =
        subst (Follows ds (frames h)) (append_assoc es (nothing ∷ []) (effects h)) (follows (es ++ nothing ∷ []) ds h (same_quiet es ds nothing (refl, λ c. refl) same) l)
    follows es ds (shared_out v x y r ∷ h) same (a, l) =
        subst (Follows ds (frames h)) (append_assoc es (nothing ∷ []) (effects h)) (follows (es ++ nothing ∷ []) ds h (same_quiet es ds nothing (refl, λ c. refl) same) l)
    follows es ds (shared_in frame r ∷ h) same (a, l) =
        let e = effect (shared_in frame r) in
        subst (Follows ds (frames h)) (append_assoc es (e ∷ []) (effects h)) (follows (es ++ e ∷ []) ds h (same_quiet es ds e (shared_quiet frame r) same) l)
      where
        shared_quiet : (frame : List ℕ) (r : Result ℕ Fault) → Quiet (effect (shared_in frame r))
        shared_quiet frame (Ok n) = share_quiet _
        shared_quiet frame (Err e) = (refl, λ c. refl)
    follows es ds (proved low high x y r ∷ h) same (a, l) =
        subst (Follows ds (frames h)) (append_assoc es (nothing ∷ []) (effects h)) (follows (es ++ nothing ∷ []) ds h (same_quiet es ds nothing (refl, λ c. refl) same) l)

  none-same : Same [] []
  none-same = record { commits = refl; used = λ c. refl }

  -- a board that took the other's deliveries and more
  pub frames-first : OneOrder digest tag
  frames-first f f' own own' h k one two (more, e) =
      follows-first [] [] (frames h) more (effects h) (effects k) none-same (follows f own [] [] h none-same one)
      (subst (λ fs. Follows [] fs (effects k)) e (follows f' own' [] [] k none-same two))

  -- boards that took the same
  pub frames-same : (f f' own own' : ℕ) (h k : List Event) → Lawful digest tag f own [] h → Lawful digest tag f' own' [] k
      → frames h ≡ frames k → Same (effects h) (effects k)
  frames-same f f' own own' h k one two e =
      follows_same [] [] (frames k) (effects h) (effects k) none-same
      (subst (λ fs. Follows [] fs (effects h)) e (follows f own [] [] h none-same one)) (follows f' own' [] [] k none-same two)

  -- boards that took their deliveries from one list
  pub frames_either : (f f' own own' : ℕ) (h k : List Event) (order : List (List ℕ)) → Lawful digest tag f own [] h → Lawful digest tag f' own' [] k
      → FirstPart (frames h) order → FirstPart (frames k) order → Extends (effects h) (effects k) ⊎ Extends (effects k) (effects h)
  frames_either f f' own own' h k order one two p q = elim (first_either (frames h) (frames k) order p q) [
    | inl u ↦ inl (frames-first f f' own own' h k one two u)
    | inr u ↦ inr (frames-first f' f own' own k h two one u)
  ]
