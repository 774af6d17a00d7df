-- Every write set that a request can carry is the next commit of some board.
use Rattle.std.proofs.Common.{◌≡◌, ℕ, ◌+◌, ◌<◌, ◌≤◌, List, [], ◌∷◌, ◌++◌, map, length, take, Ok, sym, refl, ap, ◌∙◌, subst, inl, inr, not-suc-le-zero, arith}
use Rattle.std.specs.List.{AllByRecursion, ContainsAt as Has, AllByRecursion as All}
use Rattle.std.specs.List.Sorted.{IsStrictlyIncreasing}
use Rattle.std.proofs.ByRecursion.{all_has_itself, has_push_cases}
use Rattle.std.proofs.lemmas.List.{append_assoc, append-nil, length-map, length_push}
use Rattle.fault.specs.declared.Verdict.TheVariants as verdict
use Rattle.decision.specs.declared.Decision.TheVariants.{Commit}
use Rattle.octets.specs.Numbers.{limit}
use Rattle.label.specs.declared.Label.TheVariants.{Request}
use Rattle.label.specs.Labels.{labelled}
use Rattle.seal.specs.Seals.{client_signer, passes}
use Rattle.numbers.specs.Sequence.{Open, opens}
use Rattle.request.specs.Bodies.{ReadBody, ReadIn, RequestBody, WriteBody, WriteIn, read_item, write_item}
use Rattle.history.specs.declared.Delivery.{Delivery}
use Rattle.history.specs.Events.{Effect, Event, commit, delivered, effect, effects, verdict_effect, width}
use Rattle.history.specs.Commits.{HadRead, Passes, commits, left}
use Rattle.history.specs.Clients.{used}
use Rattle.history.specs.Tables.{Read, Under}
use Rattle.history.specs.Answers.{Answered, Delivers, Lawful, deliver_table, tag_at}
use Rattle.history.proofs.Appends.{commits-commit, commits-none, effects_push, used-commit}
use Rattle.history.specs.Backs.{AllReadBack, EventReadsBack}
use Rattle.history.proofs.Backs.{back_none, back_push}
use Rattle.history.proofs.Lawfuls.{lawful-none, lawful_push}
use Rattle.history.proofs.Lefts.{left-version}
use Rattle.history.proofs.ReadLaws.{all_had_passes}
use Rattle.worked.specs.Requests.{Carried, CommitsOccur, DigestOf32, TagOf16}
use Rattle.worked.proofs.Requesting.{requests_occur}

module _ (digest : List ℕ → List ℕ) (tag : ℕ → List ℕ → List ℕ) (f own : ℕ) where
  -- a request with a tag that passes and an open number, where there is room for a commit, gets its verdict
  under_given : (es : List Effect) (frame : List ℕ) (b : RequestBody) (d : Delivery)
      → passes tag (client_signer b.client) (labelled Request (take (tag_at b) frame)) b.tag → Open width (used b.client es) b.sequence
      → length (commits es) < limit width → Delivers digest tag f own es b d → Under (deliver_table digest tag f own es frame b) (Delivers digest tag f own es b) (Ok d)
  under_given es frame b d tagged opened free gives = (
    λ wrong. absurd (wrong tagged),
    λ _. (λ shut. absurd (shut opened), λ _. (λ full. absurd (omega arith), λ _. gives)),
  )

  -- a read of what the commits left
  read_of : List (List WriteBody) → WriteBody → ReadBody
  read_of cs w = record { item = w.item; version = (left cs w.item).version; digest = digest (left cs w.item).value }

  module _ (sized : DigestOf32 digest) (sealed : TagOf16 tag) where
    reads_in : (cs : List (List WriteBody)) (ws : List WriteBody) → length cs ≤ limit width → AllByRecursion WriteIn ws → AllByRecursion (ReadIn width) (map (read_of cs) ws)
    unfolding read_of
    reads_in cs [] le all = tt
    reads_in cs (w ∷ ws) le all =
        let v = left-version cs w.item in
        let x = (left cs w.item).value in
        (record { item = all.0.item; version = omega arith; digest = sized.long x; bytes = sized.bytes x }, reads_in cs ws le all.1)

    reads_had : (cs : List (List WriteBody)) (ws : List WriteBody) → All (HadRead digest cs) (map (read_of cs) ws)
    unfolding read_of
    reads_had cs [] = tt
    reads_had cs (w ∷ ws) = ((refl, refl), reads_had cs ws)

    same-items : (cs : List (List WriteBody)) (ws : List WriteBody) → map read_item (map (read_of cs) ws) ≡ map write_item ws
    unfolding read_of
    same-items cs [] = refl
    same-items cs (w ∷ ws) = ap (λ l. w.item ∷ l) (same-items cs ws)

    -- under an open number of a client the write set is the next commit
    pub next-commit : (es : List Effect) (c s : ℕ) (ws : List WriteBody) → c ≤ 15 → Open width (used c es) s → length (commits es) < limit width → Carried ws
        → (e : Event) × (Answered digest tag f own es e × (effect e ≡ commit c s ws) × EventReadsBack digest tag f own es e)
    next-commit es c s ws few is free carried =
        let cs = commits es in
        let rs = map (read_of cs) ws in
        let high = is.0.1 in
        let items = same-items cs ws in
        let few-reads = length-map ws (read_of cs) in
        let few-writes = carried.few in
        let made = requests_occur tag sealed c s rs ws few (omega arith) (omega arith) (reads_in cs ws (omega arith) carried.each)
        (subst IsStrictlyIncreasing (sym items) carried.rise) carried (subst (λ l. All (Has l) (map write_item ws)) (sym items) (all_has_itself (map write_item ws))) in
        let frame = made.0 in
        let q = made.1 in
        let b = q.body in
        let d : Delivery = record { decision = Commit (length cs + 1); opened = opens width (used b.client es) } in
        let pass : All (Passes digest cs) b.reads = subst (All (Passes digest cs)) (sym q.reads) (all_had_passes digest cs rs (reads_had cs ws)) in
        let tagged : passes tag (client_signer b.client) (labelled Request (take (tag_at b) frame)) b.tag =
        subst (λ k. passes tag (client_signer k) (labelled Request (take (tag_at b) frame)) b.tag) (sym q.client) q.tagged in
        let opened : Open width (used b.client es) b.sequence =
        subst (λ k. Open width (used k es) b.sequence) (sym q.client) (subst (λ k. Open width (used c es) k) (sym q.number) is) in (
          delivered frame (Ok d),
          (
            subst (λ x. Read x (λ p. Under (deliver_table digest tag f own es frame p) (Delivers digest tag f own es p)) (Ok d)) (sym q.held)
                (under_given es frame b d tagged opened free ((pass, refl), refl)),
            ap (λ x. verdict_effect x verdict.Commit) q.held
                ∙ (λ i. commit (q.client i) (q.number i) (q.writes i)),
            tt,
          ),
        )

    -- one client uses its numbers in turn, one for each commit
    pub record InTurn (h : List Event) : Type 0 where
      pub lawful : Lawful digest tag f own [] h
      pub back : AllReadBack digest tag f own [] h
      pub many : length (used 0 (effects h)) ≡ length (commits (effects h))
      pub below : (s : ℕ) → Has (used 0 (effects h)) s → s ≤ length (commits (effects h))

    in_turn_none : InTurn []
    unfolding commits used
    in_turn_none = record { lawful = lawful-none digest tag f own []; back = back_none digest tag f own []; many = refl; below = λ s h. absurd (not-suc-le-zero h.1) }

    -- so the next number is open
    pub next_open : (h : List Event) → InTurn h → length (commits (effects h)) < limit width → Open width (used 0 (effects h)) (length (commits (effects h)) + 1)
    next_open h t free =
        let many = t.many in
        ((omega arith, omega arith), λ has. let low = t.below (length (commits (effects h)) + 1) has in omega arith)

    in_turn_more : (h : List Event) (ws : List WriteBody) → InTurn h → length (commits (effects h)) < limit width → Carried ws
        → (k : List Event) × (InTurn k × (commits (effects k) ≡ commits (effects h) ++ ws ∷ []))
    in_turn_more h ws t free carried =
        let es = effects h in
        let n = length (commits es) in
        let many = t.many in
        let next = next-commit es 0 (n + 1) ws (omega arith) (next_open h t free) free carried in
        let e = next.0 in
        let k = h ++ e ∷ [] in
        let is : effects k ≡ es ++ commit 0 (n + 1) ws ∷ [] = effects_push h e ∙ ap (λ x. es ++ x ∷ []) next.1.1 in
        let cs : commits (effects k) ≡ commits es ++ ws ∷ [] = ap commits is ∙ commits-commit es 0 (n + 1) ws in
        let us : used 0 (effects k) ≡ used 0 es ++ (n + 1) ∷ [] = ap (used 0) is ∙ used-commit es 0 (n + 1) ws in
        let long : length (commits (effects k)) ≡ n + 1 = ap length cs ∙ length_push (commits es) ws in (
          k,
          (
            record {
              lawful = lawful_push digest tag f own [] h e t.lawful next.1.0;
              back = back_push digest tag f own [] h e t.back next.1.2;
              many = ap length us ∙ length_push (used 0 es) (n + 1) ∙ omega arith;
              below = λ s has. elim (has_push_cases (used 0 es) (n + 1) s (subst (λ l. Has l s) us has)) [
                | inl old ↦ let low = t.below s old in omega arith
                | inr new ↦ omega arith
              ];
            },
            cs,
          ),
        )

    in_turn_all : (h : List Event) (cs : List (List WriteBody)) → InTurn h → All Carried cs → length (commits (effects h)) + length cs ≤ limit width
        → (k : List Event) × (InTurn k × (commits (effects k) ≡ commits (effects h) ++ cs))
    in_turn_all h [] t all le = (h, (t, sym (append-nil (commits (effects h)))))
    in_turn_all h (ws ∷ cs) t all le =
        let one = in_turn_more h ws t (omega arith) all.0 in
        let n = ap length one.1.1 ∙ length_push (commits (effects h)) ws in
        let more = in_turn_all one.0 cs one.1.0 all.1 (omega arith) in
        (more.0, (more.1.0, more.1.1 ∙ ap (λ l. l ++ cs) one.1.1 ∙ append_assoc (commits (effects h)) (ws ∷ []) cs))

    pub commits_in_turn : (cs : List (List WriteBody)) → All Carried cs → length cs ≤ limit width → (h : List Event) × (InTurn h × (commits (effects h) ≡ cs))
    commits_in_turn cs all le =
        let n : length (commits []) ≡ 0 = ap length commits-none in
        let made = in_turn_all [] cs in_turn_none all (omega arith) in
        (made.0, (made.1.0, made.1.1 ∙ ap (λ l. l ++ cs) commits-none))

    pub commits_occur : CommitsOccur digest tag f own
    commits_occur cs all le = let made = commits_in_turn cs all le in (made.0, (made.1.0.lawful, made.1.0.back, made.1.1))
