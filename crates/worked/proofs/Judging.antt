-- Verdicts and sequence numbers in the worked cases.
use Rattle.std.proofs.Common.{◌≡◌, ℕ, ◌+◌, ◌<◌, ◌≤◌, List, [], ◌∷◌, ◌++◌, length, take, Some, None, Ok, Err, Option, Result, sym, refl, ap, ◌∙◌, subst, inl, inr, arith, lit<}
use Rattle.std.specs.List.{AllByRecursion as All}
use Rattle.fault.specs.declared.Fault.{Fault}
use Rattle.decision.specs.declared.Decision.{Decision}
use Rattle.decision.specs.declared.Decision.TheVariants.{Abort, Commit}
use Rattle.fault.specs.declared.Cause.TheVariants.{BankFull, NotOpen}
use Rattle.fault.specs.declared.Layer.TheVariants.{Board}
use Rattle.fault.specs.Codes.{fault}
use Rattle.octets.specs.Numbers.{limit}
use Rattle.label.specs.declared.Label.TheVariants.{Request}
use Rattle.label.specs.Labels.{labelled}
use Rattle.seal.specs.Seals.{client_signer, passes}
use Rattle.numbers.specs.Sequence.{Open}
use Rattle.numbers.proofs.Opening.{after-second, second_open}
use Rattle.request.specs.Bodies.{ReadBody, RequestBody, WriteBody}
use Rattle.history.specs.declared.Delivery.{Delivery}
use Rattle.history.specs.Events.{Effect, effects, width}
use Rattle.history.specs.Commits.{Passes, Wrote, commits, written}
use Rattle.history.specs.Clients.{used}
use Rattle.history.specs.Tables.{Read, Succeeds, Under, when}
use Rattle.history.specs.Answers.{DeliverAnswers, Delivers, Judged, deliver_table, tag_at}
use Rattle.history.proofs.Appends.{commits-none, used-commit, used-none}
use Rattle.history.proofs.Backs.{back_none, back_push}
use Rattle.history.proofs.Lawfuls.{lawful-none, lawful_push}
use Rattle.worked.specs.Requests.{DigestOf32, TagOf16, Requested}
use Rattle.worked.specs.Boards.{ClientNumbers, FiveThenSix, Gets, OneThreeFourFive, ReadGets, ReadsOfFive, read_of_five}
use Rattle.worked.proofs.Delivering.{delivered-one}
use Rattle.worked.proofs.Occurring.{commits_in_turn, next-commit, next_open}
use Rattle.worked.proofs.Carrying.{carried_one, one}

module _ (digest : List ℕ → List ℕ) (tag : ℕ → List ℕ → List ℕ) (f own : ℕ) where
  module _ (es : List Effect) (frame : List ℕ) (c s : ℕ) (rs : List ReadBody) (ws : List WriteBody) (r : Result Delivery Fault) (q : Requested tag frame c s rs ws)
      (a : DeliverAnswers digest tag f own es frame r) where
    -- the rows behind a tag that passes
    behind-tag : Under (when (Open width (used q.body.client es) q.body.sequence → ⊥) (fault NotOpen Board 2) ∷ when (limit width ≤ length (commits es)) (fault BankFull Board 0) ∷ []) (Delivers digest tag f own es q.body) r
    behind-tag =
        let b = q.body in
        let tagged : passes tag (client_signer b.client) (labelled Request (take (tag_at b) frame)) b.tag =
        subst (λ k. passes tag (client_signer k) (labelled Request (take (tag_at b) frame)) b.tag) (sym q.client) q.tagged in
        (subst (λ x. Read x (λ p. Under (deliver_table digest tag f own es frame p) (Delivers digest tag f own es p)) r) q.held a).1 (λ wrong. wrong tagged)

    -- under an open number, where there is room for a commit, there is a verdict
    verdict_given : Open width (used c es) s → length (commits es) < limit width → Succeeds (Delivers digest tag f own es q.body) r
    verdict_given is free =
        (behind-tag.1 (λ shut. shut (subst (λ k. Open width (used k es) q.body.sequence) (sym q.client) (subst (Open width (used c es)) (sym q.number) is)))
        ).1 (λ full. omega arith)

  judged-commit : (es : List Effect) (b : RequestBody) (d : Decision) → All (Passes digest (commits es)) b.reads → Judged digest tag f own es b d → d ≡ Commit (length (commits es) + 1)
  judged-commit es b (Commit n) pass j = ap (λ k. Commit k) j.1
  judged-commit es b Abort pass j = absurd (j pass)

  judged-abort : (es : List Effect) (b : RequestBody) (d : Decision) → (All (Passes digest (commits es)) b.reads → ⊥) → Judged digest tag f own es b d → d ≡ Abort
  judged-abort es b (Commit n) fails j = absurd (fails j.0)
  judged-abort es b Abort fails j = refl

  gets_commit : (es : List Effect) (b : RequestBody) (k : ℕ) (r : Result Delivery Fault) → length (commits es) + 1 ≡ k → All (Passes digest (commits es)) b.reads → Succeeds (Delivers digest tag f own es b) r → Gets (Commit k) r
  gets_commit es b k (Ok d) e pass given = judged-commit es b d.decision pass given.0 ∙ ap (λ n. Commit n) e
  gets_commit es b k (Err x) e pass given = given

  gets_abort : (es : List Effect) (b : RequestBody) (r : Result Delivery Fault) → (All (Passes digest (commits es)) b.reads → ⊥) → Succeeds (Delivers digest tag f own es b) r → Gets Abort r
  gets_abort es b (Ok d) fails given = judged-abort es b d.decision fails given.0
  gets_abort es b (Err x) fails given = given

  -- the reads of item 5, after commit 1 wrote it and commit 2 item 6
  module _ (cs : List (List WriteBody)) (v u : List ℕ) (shape : FiveThenSix cs v u) where
    passes_1 : Passes digest cs (read_of_five 1 (digest v))
    passes_1 = (
      λ j w lt wrote. let le = wrote.1 in let n = shape.two in let e : j ≡ 2 = omega arith in shape.other w (subst (λ k. Wrote cs k 5 w) e wrote),
      inl (v, (shape.first, refl)),
    )

    fails_2 : (d : List ℕ) → Passes digest cs (read_of_five 2 d) → ⊥
    fails_2 d (none, inl (w, (wrote, same))) = shape.other w wrote
    fails_2 d (none, inr (z, same)) = omega arith

    fails_0 : (d : List ℕ) → Passes digest cs (read_of_five 0 d) → ⊥
    fails_0 d (none, _) = none 1 v (omega arith) shape.first

    fails_9 : (d : List ℕ) → Passes digest cs (read_of_five 9 d) → ⊥
    fails_9 d (none, inl (w, (wrote, same))) = let le = wrote.1 in let n = shape.two in omega arith
    fails_9 d (none, inr (z, same)) = omega arith

  passing : (q : ReadBody) (v : List ℕ) → ((cs : List (List WriteBody)) (u : List ℕ) → FiveThenSix cs v u → Passes digest cs q) → ReadGets digest tag f own q v (Commit 3)
  passing q v pass es u frame c s ws r shape req is a =
      let n = shape.two in
      gets_commit es req.body 3 r (omega arith) (subst (All (Passes digest (commits es))) (sym req.reads) (pass (commits es) u shape, tt))
      (verdict_given es frame c s (q ∷ []) ws r req a is (omega arith))

  failing : (q : ReadBody) (v : List ℕ) → ((cs : List (List WriteBody)) (u : List ℕ) → FiveThenSix cs v u → Passes digest cs q → ⊥) → ReadGets digest tag f own q v Abort
  failing q v fails es u frame c s ws r shape req is a =
      let n = shape.two in
      gets_abort es req.body r (λ all. fails (commits es) u shape (subst (All (Passes digest (commits es))) req.reads all).0)
      (verdict_given es frame c s (q ∷ []) ws r req a is (omega arith))

  five-six : (v u : List ℕ) → FiveThenSix (one 5 v ∷ one 6 u ∷ []) v u
  unfolding written
  five-six v u = record {
    two = refl;
    first = (omega arith, omega arith, refl);
    second = (omega arith, omega arith, refl);
    other = λ w wrote. let e : ◌≡◌ {A = Option (List ℕ)} None (Some w) = wrote.2 in let z : ◌≡◌ {A = ℕ} 0 1 = cc in omega arith;
  }

  module _ (sized : DigestOf32 digest) (sealed : TagOf16 tag) where
    pub reads-of-five : ReadsOfFive digest tag f own
    reads-of-five = record {
      at_1 = λ v. passing (read_of_five 1 (digest v)) v (λ cs u shape. passes_1 cs v u shape);
      at_2 = λ v. failing (read_of_five 2 (digest v)) v (λ cs u shape. fails_2 cs v u shape (digest v));
      at_0 = λ v d. failing (read_of_five 0 d) v (λ cs u shape. fails_0 cs v u shape d);
      at_9 = λ v d. failing (read_of_five 9 d) v (λ cs u shape. fails_9 cs v u shape d);
      occurs = λ v u q short-v bytes-v short-u bytes-u read.
          let cs = one 5 v ∷ one 6 u ∷ [] in
          let made = commits_in_turn digest tag f own sized sealed cs (carried_one 5 v (omega arith) short-v bytes-v, (carried_one 6 u (omega arith) short-u bytes-u, tt)) (omega arith) in
          let n = ap length made.1.1 in
          let free : length (commits (effects made.0)) < limit width = omega arith in
          delivered-one digest tag f own sized sealed (λ es c s. FiveThenSix (commits es) v u × Open width (used c es) s) made.0 0 (length (commits (effects made.0)) + 1) q made.1.0.lawful made.1.0.back
          (subst (λ ds. FiveThenSix ds v u) (sym made.1.1) (five-six v u), next_open digest tag f own sized sealed made.0 made.1.0 free) (omega arith) (omega arith) read;
    }

    pub client-numbers : ClientNumbers digest tag f own
    client-numbers = record {
      fifth = λ es frame c rs ws r new q a.
          (behind-tag es frame c 5 rs ws r q a).0 (λ op. let e : used q.body.client es ≡ [] = ap (λ k. used k es) q.client ∙ new in let n = ap length e in let m = q.number in omega (arith, op.0.1));
      after-second = λ es c t e. subst (λ us. (Open width us t → OneThreeFourFive t) × (OneThreeFourFive t → Open width us t)) (sym e) (after-second t);
      fifth-occurs = λ k q few read.
          delivered-one digest tag f own sized sealed (λ es c s. (c ≡ k) × (s ≡ 5) × (used c es ≡ [])) [] k 5 q (lawful-none digest tag f own []) (back_none digest tag f own []) (refl, refl, used-none k) few (omega arith) read;
      second-occurs = λ c few.
          let next = next-commit digest tag f own sized sealed [] c 2 (one 0 []) few (subst (λ us. Open width us 2) (sym (used-none c)) second_open) (subst (λ n. n < limit width) (sym (ap length commits-none)) (lit< tt)) (carried_one 0 [] (omega arith) (omega arith) (λ i. lit< tt)) in
          let e = next.0 in
          (e ∷ [], (lawful_push digest tag f own [] [] e (lawful-none digest tag f own []) next.1.0, back_push digest tag f own [] [] e (back_none digest tag f own []) next.1.2, ap (λ x. used c (x ∷ [])) next.1.1 ∙ used-commit [] c 2 (one 0 []) ∙ ap (λ us. us ++ 2 ∷ []) (used-none c)));
    }
