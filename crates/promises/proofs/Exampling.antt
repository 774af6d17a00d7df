-- The instance, by computing it.
use Rattle.std.proofs.Common.{◌≡◌, ℕ, ◌+◌, ◌<◌, ◌≤◌, Bool, true, false, cond, eqb, List, [], ◌∷◌, ◌++◌, length, take, drop, Ok, Result, sym, refl, ap, ◌∙◌, subst, inl, inr, arith}
use Rattle.std.specs.List.{ContainsAt as Has}
use Rattle.std.proofs.lemmas.List.{append_assoc, append-nil, take_at}
use Rattle.std.proofs.lemmas.Bool.{cases_eq, ne_eqb}
use Rattle.fault.specs.declared.Fault.{Fault}
use Rattle.fault.specs.declared.Verdict.TheVariants.{Commit}
use Rattle.octets.specs.Numbers.{limit}
use Rattle.siphash.specs.SipHash.{ending, little, run, sip_hash, sip_round, sip_rounds}
use Rattle.digest.specs.Fnv.{fnv_words, hashed, step}
use Rattle.label.specs.declared.Label.TheVariants.{Request}
use Rattle.label.specs.Labels.{labelled}
use Rattle.seal.specs.Seals.{client_signer, passes}
use Rattle.numbers.specs.Sequence.{Open}
use Rattle.entry.specs.Bodies.{EntryBody, SealedBody}
use Rattle.window.specs.Shares.{pairs_below}
use Rattle.request.specs.Bodies.{RequestBody, read_request}
use Rattle.share.specs.Shares.{ShareBody, read_share}
use Rattle.proof.specs.Bodies.{proof_bytes}
use Rattle.proof.specs.Rules.{proof_of}
use Rattle.history.specs.declared.Delivery.{Delivery}
use Rattle.history.specs.Events.{Effect, Event, commit, delivered, effect, effects, nothing, share, share_effect, shared_in, verdict_effect, width}
use Rattle.history.specs.Commits.{commits, left_from, write_set, written}
use Rattle.history.specs.Clients.{used}
use Rattle.history.specs.Entries.{sealed_string, shares_of, signers_of, tag_by}
use Rattle.history.specs.Marks.{FirstPart, frames}
use Rattle.history.specs.Tables.{Read, Under}
use Rattle.history.specs.Answers.{Answered, Delivers, Lawful, deliver_table, proof_body, proof_frame, proof_table, share_table, tag_at}
use Rattle.history.proofs.Lawfuls.{lawful-none}
use Rattle.history.specs.Backs.{AllReadBack, EventReadsBack}
use Rattle.history.proofs.Backs.{back_cons, back_none}
use Rattle.history.proofs.ReadLaws.{all_had_passes}
use Rattle.board.proofs.ShareInHistory.{read-formed}
use Rattle.reader.specs.Example.{digest, faulty, first, proof, reading, second, signed, tag}
use Rattle.reader.specs.Example as reader
use Rattle.reader.specs.Accepted.{Commits, Holds, NoClash, NoForgery}
use Rattle.reader.proofs.Clear.{Clear, clear_ok}
use Rattle.reader.proofs.Exampling.{accepted_and_refused}
use Rattle.reader.proofs.Members.{has_cases, has-none}
use Rattle.promises.specs.Example.{AcceptedOverHistories, asked, buffer, bus, deliveries, frame, frame_of, one, share_of, shares, stray, two}
use Rattle.promises.specs.Example as example
use Rattle.promises.specs.Readings.{commits_of}

-- the frames hold what they were made of
reads-one : read_request width (frame_of one) ≡ Ok one
unfolding fnv_words hashed step sip_hash run sip_rounds sip_round little ending
reads-one = refl

reads_two : read_request width (frame_of two) ≡ Ok two
unfolding fnv_words hashed step sip_hash run sip_rounds sip_round little ending
reads_two = refl

-- so do the shares and the proof
abbrev body : ℕ → EntryBody → ShareBody
body s e = record { signer = s; version = e.version; tag = (signed s e).tag }

share_3_first : read_share width 1 (share_of 3 first) ≡ Ok (body 3 first)
unfolding fnv_words hashed step sip_hash run sip_rounds sip_round little ending
share_3_first = refl

share_0_first : read_share width 1 (share_of 0 first) ≡ Ok (body 0 first)
unfolding fnv_words hashed step sip_hash run sip_rounds sip_round little ending
share_0_first = refl

share_1_second : read_share width 1 (share_of 1 second) ≡ Ok (body 1 second)
unfolding fnv_words hashed step sip_hash run sip_rounds sip_round little ending
share_1_second = refl

share_3_second : read_share width 1 (share_of 3 second) ≡ Ok (body 3 second)
unfolding fnv_words hashed step sip_hash run sip_rounds sip_round little ending
share_3_second = refl

proves : proof_of width 1 frame ≡ Ok proof
unfolding fnv_words hashed step sip_hash run sip_rounds sip_round little ending
proves = refl

size : length frame ≡ 145
unfolding fnv_words
size = refl

-- the effects of the deliveries, and of a share that is taken
abbrev delivered-effects : List Effect
delivered-effects = commit 1 1 one.writes ∷ nothing ∷ commit 1 2 two.writes ∷ []

abbrev joins : ℕ → EntryBody → Effect
joins s e = share e.version (signed s e)

-- all effects before the proof call
abbrev before : List Effect
before = delivered-effects ++ joins 3 first ∷ joins 0 first ∷ joins 1 second ∷ joins 3 second ∷ []

module _ (own : ℕ) where
  lawful_cons : (es : List Effect) (e : Event) (h : List Event) (x : Effect) → effect e ≡ x → Answered digest tag 1 own es e → Lawful digest tag 1 own (es ++ x ∷ []) h
      → Lawful digest tag 1 own es (e ∷ h)
  unfolding Lawful
  lawful_cons es e h x is a l = (a, subst (λ (y : Effect). Lawful digest tag 1 own (es ++ y ∷ []) h) (sym is) l)

  -- a delivery that commits
  commits_at : (es : List Effect) (b : RequestBody) (d : Delivery) → read_request width (frame_of b) ≡ Ok b
      → passes tag (client_signer b.client) (labelled Request (take (tag_at b) (frame_of b))) b.tag → Open width (used b.client es) b.sequence
      → length (commits es) < limit width → Delivers digest tag 1 own es b d → Answered digest tag 1 own es (delivered (frame_of b) (Ok d))
  commits_at es b d read pass free few delivers =
      subst (λ (q : Result RequestBody Fault). Read q (λ b'. Under (deliver_table digest tag 1 own es (frame_of b) b') (Delivers digest tag 1 own es b')) (Ok d)) (sym read)
      (clear_ok (Delivers digest tag 1 own es b) (deliver_table digest tag 1 own es (frame_of b) b) d ((λ n. n pass), ((λ n. n free), ((λ le. omega arith), tt))) delivers)

  answer-one : Answered digest tag 1 own [] (delivered (frame_of one) (Ok (example.commit 1 5)))
  unfolding used commits left_from written fnv_words hashed step sip_hash run sip_rounds sip_round little ending
  answer-one =
      commits_at [] one (example.commit 1 5) reads-one refl ((omega arith, omega arith), has-none 1) (omega arith)
      ((all_had_passes digest [] one.reads ((refl, refl), tt), refl), refl)

  answer-two : Answered digest tag 1 own (commit 1 1 one.writes ∷ nothing ∷ []) (delivered (frame_of two) (Ok (example.commit 2 6)))
  unfolding used commits left_from written fnv_words hashed step sip_hash run sip_rounds sip_round little ending
  answer-two =
      commits_at (commit 1 1 one.writes ∷ nothing ∷ []) two (example.commit 2 6) reads_two refl
      ((omega arith, omega arith), λ h. elim (has_cases 1 2 [] h) [ inl e ↦ absurd (omega arith) | inr n ↦ has-none 2 n ]) (omega arith)
      ((all_had_passes digest (one.writes ∷ []) two.reads ((refl, refl), ((refl, refl), tt)), refl), refl)

  -- a share that is taken
  taken : (es : List Effect) (s : ℕ) (e : EntryBody) (n : ℕ) → read_share width 1 (share_of s e) ≡ Ok (body s e) → e.version ≤ length (commits es) → length (commits es) < e.version + 32
      → (Has (signers_of e.version es) s → ⊥) → length (shares_of e.version es) < 2 → (signed s e).tag ≡ tag s (sealed_string digest (commits es) e.version)
      → n ≡ length (shares_of e.version es) + 1 → Answered digest tag 1 own es (shared_in (share_of s e) (Ok n))
  taken es s e n read most young new few pass count =
      subst (λ (q : Result ShareBody Fault). Read q (λ b. Under (share_table digest tag 1 own es b) (λ k. k ≡ length (shares_of b.version es) + 1)) (Ok n)) (sym read)
      (clear_ok (λ k. k ≡ length (shares_of e.version es) + 1) (share_table digest tag 1 own es (body s e)) n
      ((λ lt. omega arith), ((λ le. omega arith), ((λ d. elim d [ inl h ↦ new h | inr le ↦ absurd (omega arith) ]), ((λ n. n pass), tt)))) count)

  share-one : Answered digest tag 1 own delivered-effects (shared_in (share_of 3 first) (Ok 1))
  unfolding commits shares_of
  share-one = taken delivered-effects 3 first 1 share_3_first (omega arith) (omega arith) (has-none 3) (omega arith) refl refl

  share-two : Answered digest tag 1 own (delivered-effects ++ joins 3 first ∷ []) (shared_in (share_of 0 first) (Ok 2))
  unfolding commits shares_of
  share-two =
      taken (delivered-effects ++ joins 3 first ∷ []) 0 first 2 share_0_first (omega arith) (omega arith)
      (λ h. elim (has_cases 3 0 [] h) [ inl e ↦ absurd (omega arith) | inr n ↦ has-none 0 n ]) (omega arith) refl refl

  share_three : Answered digest tag 1 own (delivered-effects ++ joins 3 first ∷ joins 0 first ∷ []) (shared_in (share_of 1 second) (Ok 1))
  unfolding commits shares_of
  share_three = taken (delivered-effects ++ joins 3 first ∷ joins 0 first ∷ []) 1 second 1 share_1_second (omega arith) (omega arith) (has-none 1) (omega arith) refl refl

  share-four : Answered digest tag 1 own (delivered-effects ++ joins 3 first ∷ joins 0 first ∷ joins 1 second ∷ []) (shared_in (share_of 3 second) (Ok 2))
  unfolding commits shares_of
  share-four =
      taken (delivered-effects ++ joins 3 first ∷ joins 0 first ∷ joins 1 second ∷ []) 3 second 2 share_3_second (omega arith) (omega arith)
      (λ h. elim (has_cases 1 3 [] h) [ inl e ↦ absurd (omega arith) | inr n ↦ has-none 3 n ]) (omega arith) refl refl

  -- the proof call
  proof-is : proof_body digest tag 1 own before 1 2 ≡ proof
  unfolding commits shares_of pairs_below tag_by
  proof-is = refl

  frame_is : proof_frame digest tag 1 own before 1 2 ≡ frame
  frame_is = ap (proof_bytes width) proof-is

  clear_proof : Clear (proof_table digest tag 1 own before 1 2 (length buffer))
  unfolding commits shares_of
  clear_proof = (
    (λ lt. omega arith),
    (
      (λ lt. omega arith),
      (
        (λ gone. let le = gone.1 in omega arith),
        (
          (λ lt. omega arith),
          (
            (λ lt. omega arith),
            ((λ lt. let n = ap length frame_is in let m = size in omega arith), tt),
          ),
        ),
      ),
    ),
  )

  reads-back : (n : ℕ) → ◌≡◌ {A = Result ℕ Fault} (Ok (length frame)) (Ok n) → proof_of width 1 (take n (frame ++ drop (length frame) buffer)) ≡ Ok (proof_body digest tag 1 own before 1 2)
  reads-back n e =
      let same : length frame ≡ n = cc in
      ap (proof_of width 1) (take_at frame (drop (length frame) buffer) n same) ∙ proves ∙ ap Ok (sym proof-is)

  answer-proof : Answered digest tag 1 own before asked
  answer-proof = (
    clear_ok (λ n. n ≡ length (proof_frame digest tag 1 own before 1 2)) (proof_table digest tag 1 own before 1 2 (length buffer)) (length frame) clear_proof (ap length (sym frame_is)),
    ap (λ bs. bs ++ drop (length frame) buffer) (sym frame_is),
  )

  -- effects of events that were read
  share-effect : (s : ℕ) (e : EntryBody) (n : ℕ) → read_share width 1 (share_of s e) ≡ Ok (body s e) → effect (shared_in (share_of s e) (Ok n)) ≡ joins s e
  share-effect s e n read = ap share_effect (read-formed 1 (share_of s e) (body s e) read)

  delivery_effect : (b : RequestBody) (k n : ℕ) → read_request width (frame_of b) ≡ Ok b → effect (delivered (frame_of b) (Ok (example.commit k n))) ≡ commit b.client b.sequence b.writes
  delivery_effect b k n read = ap (λ q. verdict_effect q Commit) read

  -- the histories are lawful
  behind : Lawful digest tag 1 own [] (take 1 deliveries)
  behind =
      lawful_cons [] _ [] (commit 1 1 one.writes) (delivery_effect one 1 5 reads-one) answer-one (lawful-none digest tag 1 own (commit 1 1 one.writes ∷ []))

  whole : (h : List Event) → Lawful digest tag 1 own delivered-effects h → Lawful digest tag 1 own [] (deliveries ++ h)
  whole h l =
      lawful_cons [] _ _ (commit 1 1 one.writes) (delivery_effect one 1 5 reads-one) answer-one
      (lawful_cons (commit 1 1 one.writes ∷ []) _ _ nothing refl refl
      (lawful_cons (commit 1 1 one.writes ∷ nothing ∷ []) _ _ (commit 1 2 two.writes) (delivery_effect two 2 6 reads_two) answer-two l))

  proving : Lawful digest tag 1 own delivered-effects (shares ++ asked ∷ [])
  proving =
      lawful_cons delivered-effects _ _ (joins 3 first) (share-effect 3 first 1 share_3_first) share-one
      (lawful_cons (delivered-effects ++ joins 3 first ∷ []) _ _ (joins 0 first) (share-effect 0 first 2 share_0_first) share-two
      (lawful_cons (delivered-effects ++ joins 3 first ∷ joins 0 first ∷ []) _ _ (joins 1 second) (share-effect 1 second 1 share_1_second) share_three
      (lawful_cons (delivered-effects ++ joins 3 first ∷ joins 0 first ∷ joins 1 second ∷ []) _ _ (joins 3 second) (share-effect 3 second 2 share_3_second) share-four
      (lawful_cons before asked [] nothing refl answer-proof (lawful-none digest tag 1 own (before ++ nothing ∷ []))))))

  lawful : (b c : Bool) → Lawful digest tag 1 own [] (cond b (deliveries ++ shares ++ asked ∷ []) (cond c (take 1 deliveries) deliveries))
  lawful true c = subst (Lawful digest tag 1 own []) (sym (append_assoc deliveries shares (asked ∷ []))) (whole (shares ++ asked ∷ []) proving)
  lawful false true = behind
  lawful false false = subst (Lawful digest tag 1 own []) (append-nil deliveries) (whole [] (lawful-none digest tag 1 own delivered-effects))

  -- in them every proof reads back
  back_cons_as : (es : List Effect) (e : Event) (h : List Event) (x : Effect) → effect e ≡ x → EventReadsBack digest tag 1 own es e
      → AllReadBack digest tag 1 own (es ++ x ∷ []) h → AllReadBack digest tag 1 own es (e ∷ h)
  back_cons_as es e h x is b l = back_cons digest tag 1 own es e h b (subst (λ (y : Effect). AllReadBack digest tag 1 own (es ++ y ∷ []) h) (sym is) l)

  back_behind : AllReadBack digest tag 1 own [] (take 1 deliveries)
  back_behind =
      back_cons_as [] _ [] (commit 1 1 one.writes) (delivery_effect one 1 5 reads-one) tt (back_none digest tag 1 own (commit 1 1 one.writes ∷ []))

  back_whole : (h : List Event) → AllReadBack digest tag 1 own delivered-effects h → AllReadBack digest tag 1 own [] (deliveries ++ h)
  back_whole h l =
      back_cons_as [] _ _ (commit 1 1 one.writes) (delivery_effect one 1 5 reads-one) tt
      (back_cons_as (commit 1 1 one.writes ∷ []) _ _ nothing refl tt
      (back_cons_as (commit 1 1 one.writes ∷ nothing ∷ []) _ _ (commit 1 2 two.writes) (delivery_effect two 2 6 reads_two) tt l))

  back_proving : AllReadBack digest tag 1 own delivered-effects (shares ++ asked ∷ [])
  back_proving =
      back_cons_as delivered-effects _ _ (joins 3 first) (share-effect 3 first 1 share_3_first) tt
      (back_cons_as (delivered-effects ++ joins 3 first ∷ []) _ _ (joins 0 first) (share-effect 0 first 2 share_0_first) tt
      (back_cons_as (delivered-effects ++ joins 3 first ∷ joins 0 first ∷ []) _ _ (joins 1 second) (share-effect 1 second 1 share_1_second) tt
      (back_cons_as (delivered-effects ++ joins 3 first ∷ joins 0 first ∷ joins 1 second ∷ []) _ _ (joins 3 second) (share-effect 3 second 2 share_3_second) tt
      (back_cons_as before asked [] nothing refl reads-back (back_none digest tag 1 own (before ++ nothing ∷ []))))))

  all_back : (b c : Bool) → AllReadBack digest tag 1 own [] (cond b (deliveries ++ shares ++ asked ∷ []) (cond c (take 1 deliveries) deliveries))
  all_back true c = subst (AllReadBack digest tag 1 own []) (sym (append_assoc deliveries shares (asked ∷ []))) (back_whole (shares ++ asked ∷ []) back_proving)
  all_back false true = back_behind
  all_back false false = subst (AllReadBack digest tag 1 own []) (append-nil deliveries) (back_whole [] (back_none digest tag 1 own delivered-effects))

-- the frames come from the bus
on_bus : (b c : Bool) → FirstPart (frames (cond b (deliveries ++ shares ++ asked ∷ []) (cond c (take 1 deliveries) deliveries))) bus
unfolding frames
on_bus true c = ([], refl)
on_bus false true = (stray ∷ frame_of two ∷ [], refl)
on_bus false false = ([], refl)

most : (b c : Bool) → length (frames (cond b (deliveries ++ shares ++ asked ∷ []) (cond c (take 1 deliveries) deliveries))) ≤ length (frames (example.of 0))
unfolding frames
most true c = omega arith
most false true = omega arith
most false false = omega arith

-- the commits are those of the reader's instance
made_one : write_set (effect (delivered (frame_of one) (Ok (example.commit 1 5)))) ≡ one.writes ∷ []
made_one = ap write_set (delivery_effect 0 one 1 5 reads-one)

made-two : write_set (effect (delivered (frame_of two) (Ok (example.commit 2 6)))) ≡ two.writes ∷ []
made-two = ap write_set (delivery_effect 0 two 2 6 reads_two)

share-none : (s : ℕ) (e : EntryBody) (n : ℕ) → read_share width 1 (share_of s e) ≡ Ok (body s e) → write_set (effect (shared_in (share_of s e) (Ok n))) ≡ []
share-none s e n read = ap write_set (share-effect 0 s e n read)

commits-whole : commits (effects deliveries) ≡ reader.commits
unfolding commits
commits-whole = λ i. made_one i ++ ([] ++ (made-two i ++ []))

commits-behind : commits (effects (take 1 deliveries)) ≡ take 1 reader.commits
unfolding commits
commits-behind = λ i. made_one i ++ []

commits-shares : commits (effects (deliveries ++ shares ++ asked ∷ [])) ≡ reader.commits
unfolding commits
commits-shares = λ i.
    made_one i ++ ([] ++ (made-two i ++ (share-none 3 first 1 share_3_first i ++ (share-none 0 first 2 share_0_first i ++ (share-none 1 second 1 share_1_second i ++ (share-none 3 second 2 share_3_second i ++ ([] ++ [])))))))

at_0 : commits_of example.of 0 ≡ reader.commits
at_0 = commits-shares

each : (a : ℕ) → commits_of example.of a ≡ reader.of a
each a = elim (cases_eq a 0) [
  | inl e ↦ subst (λ (n : ℕ). commits_of example.of n ≡ reader.of n) (sym e) at_0
  | inr ne ↦ ap (λ b. commits (effects (cond b (deliveries ++ shares ++ asked ∷ []) (cond (eqb a 2) (take 1 deliveries) deliveries)))) (ne_eqb a 0 ne) ∙ later (eqb a 2)
]
  where
    later : (b : Bool) → commits (effects (cond b (take 1 deliveries) deliveries)) ≡ cond b (take 1 reader.commits) reader.commits
    later true = commits-behind
    later false = commits-whole

unforged : (es : List SealedBody) → NoForgery digest (passes tag) faulty reader.of es → NoForgery digest (passes tag) faulty (commits_of example.of) es
unforged es no' = subst (λ (of : ℕ → Commits). NoForgery digest (passes tag) faulty of es) (λ i a. sym (each a) i) no'

pub accepted-over_histories : AcceptedOverHistories
accepted-over_histories = record {
  few = omega arith;
  among = record {
    lawful = λ a fair. lawful a (eqb a 0) (eqb a 2);
    back = λ a fair. all_back a (eqb a 0) (eqb a 2);
    order = λ a fair. on_bus (eqb a 0) (eqb a 2);
  };
  furthest = record {
    honest = (omega arith, λ h. elim (has_cases 3 0 [] h) [ inl e ↦ absurd (omega arith) | inr n ↦ has-none 0 n ]);
    most = λ b fair. most (eqb b 0) (eqb b 2);
  };
  earlier = deliveries ++ shares;
  wrote = refl;
  left = sym (take_at frame (drop (length frame) buffer) (length frame) refl);
  unforged = unforged proof.entries accepted_and_refused.unforged;
  distinct = subst (λ (cs : Commits). NoClash digest cs reading) (sym at_0) accepted_and_refused.distinct;
  accepted = accepted_and_refused.accepted;
  holds = subst (λ (cs : Commits). Holds cs reading) (sym at_0) accepted_and_refused.holds;
  unforged_too = unforged (reader.wrong_proof).entries accepted_and_refused.unforged_too;
  distinct_too = subst (λ (cs : Commits). NoClash digest cs reader.wrong_reading) (sym at_0) accepted_and_refused.distinct_too;
  refused = accepted_and_refused.refused;
  wrong = λ h. accepted_and_refused.wrong (subst (λ (cs : Commits). Holds cs reader.wrong_reading) at_0 h);
}
