-- Runs, call by call.
use Rattle.std.proofs.Common.{◌≡◌, ℕ, ◌+◌, ◌<◌, min, ltb, List, [], ◌∷◌, ◌++◌, length, get_or, take, drop, set, Ok, Err, sym, ap, ◌∙◌, subst, arith}
use Rattle.std.proofs.lemmas.List.{append_assoc, append-nil, drop-drop, drop-set-lt, take_more, take_more_set}
use Rattle.std.proofs.lemmas.Bool.{cond-false, le-ltb}
use Rattle.fault.specs.declared.Cause.TheVariants.{Malformed}
use Rattle.fault.specs.declared.Layer.TheVariants.{Frame}
use Rattle.fault.specs.Codes.{fault}
use Rattle.store.specs.Slot.{Slot}
use Rattle.history.specs.Events.{Event, effects}
use Rattle.history.specs.Commits.{commits}
use Rattle.history.specs.Answers.{Lawful}
use Rattle.history.proofs.Lawfuls.{lawful_push}
use Rattle.history.proofs.ReadLaws.{shown-kept}
use Rattle.board.specs.declared.state.Board.{Board}
use Rattle.answer.specs.Answers.{shown_slot}
use Rattle.board.specs.Standing.{Represents}
use Rattle.board.specs.WriteSets.{WriteSets}
use Rattle.promises.specs.declared.calls.Call.{Call}
use Rattle.promises.specs.declared.calls.Answer.{Answer}
use Rattle.promises.specs.Events.{Of, Ran, none, more}
use Rattle.history.specs.Backs.{AllReadBack}
use Rattle.history.proofs.Backs.{back_push}
use Rattle.promises.specs.Runs.{Called, Follows, Run, Runs}
use Rattle.promises.proofs.Verdicts.{right_verdicts}

-- one call more
ran_push : {room mid : List ℕ} {cs : List Call} {as' : List Answer} {es : List Event} (out : List ℕ) (c : Call) (a : Answer) (e : Event)
    → Ran room cs as' es mid → Of mid out c a e → Ran room (cs ++ c ∷ []) (as' ++ a ∷ []) (es ++ e ∷ []) out
ran_push out c a e none last = more last none
ran_push out c a e (more first rest) last = more first (ran_push out c a e rest last)

module _ {S D L : Type 0} (holds : S → ℕ → Slot) (digest : List ℕ → List ℕ) (tag_of : L → ℕ → List ℕ → List ℕ) (tag : ℕ → List ℕ → List ℕ) (f own : ℕ) where
  pub follows : (b : Board S D L) (h : List Event) → Represents holds digest tag_of tag f own b h → Lawful digest tag f own [] h → Follows holds digest tag_of b h
  follows b h st lawful = record {
    items = st.items;
    asked = λ x lt.
        cond-false (ltb 63 x) (Err (fault Malformed Frame 1)) (Ok (shown_slot digest (holds b.store x))) (le-ltb 63 x (omega arith))
        ∙ ap Ok (shown-kept digest (commits (effects h)) x (holds b.store x) (st.items x lt));
    verdicts = right_verdicts digest tag f own h lawful;
  }

  run-made : (h : List Event) (cs : List Call) (as' : List Answer) (room out : List ℕ) (b : Board S D L) (es : List Event) → Ran room cs as' es out
      → Lawful digest tag f own [] (h ++ es) → AllReadBack digest tag f own [] (h ++ es) → WriteSets (h ++ es) → Represents holds digest tag_of tag f own b (h ++ es)
      → Run holds digest tag_of tag f own h cs as' room out b
  run-made h cs as' room out b es ran lawful back sets st = record { events = es; ran = ran; lawful = lawful; back = back; sets = sets; represents = st; follows = follows b (h ++ es) st lawful }

  pub run_none : (h : List Event) (room : List ℕ) (b : Board S D L) → Represents holds digest tag_of tag f own b h → WriteSets h → Lawful digest tag f own [] h
      → AllReadBack digest tag f own [] h → Run holds digest tag_of tag f own h [] [] room room b
  run_none h room b st sets lawful back =
      run-made h [] [] room room b [] none (rw append-nil lawful) (rw append-nil back) (subst WriteSets (sym (append-nil h)) sets) (rw append-nil st)

  run_push : (h : List Event) (cs : List Call) (as' : List Answer) (room mid out : List ℕ) (b d : Board S D L) (c : Call) (a : Answer)
      → (run : Run holds digest tag_of tag f own h cs as' room mid b) → Called holds digest tag_of tag f own (h ++ run.events) c a mid out d
      → Run holds digest tag_of tag f own h (cs ++ c ∷ []) (as' ++ a ∷ []) room out d
  run_push h cs as' room mid out b d c a run call =
      let longer = append_assoc h run.events (call.event ∷ []) in
      run-made h (cs ++ c ∷ []) (as' ++ a ∷ []) room out d (run.events ++ call.event ∷ []) (ran_push out c a call.event run.ran call.of)
      (subst (Lawful digest tag f own []) longer (lawful_push digest tag f own [] (h ++ run.events) call.event run.lawful call.answered))
      (subst (AllReadBack digest tag f own []) longer (back_push digest tag f own [] (h ++ run.events) call.event run.back call.back))
      (subst WriteSets longer call.sets)
      (subst (Represents holds digest tag_of tag f own d) longer call.represents)

  -- the answer to the call at place i is put at place i
  pub run_more : (h : List Event) (cs : List Call) (as' : List Answer) (i : ℕ) (k : Call) (room mid out : List ℕ) (b d : Board S D L) (a : Answer)
      → i < length cs → i < length as' → (run : Run holds digest tag_of tag f own h (take i cs) (take i as') room mid b)
      → Called holds digest tag_of tag f own (h ++ run.events) (get_or cs i k) a mid out d
      → Run holds digest tag_of tag f own h (take (i + 1) cs) (take (i + 1) (set as' i a)) room out d
  run_more h cs as' i k room mid out b d a lt lt' run call =
      rw (take_more cs i k lt, take_more_set as' i a lt') (run_push h (take i cs) (take i as') room mid out b d (get_or cs i k) a run call)

  -- all calls for whose answers there is room
  pub runs : (h : List Event) (cs : List Call) (before after : List Answer) (room out : List ℕ) (b : Board S D L) (i n : ℕ) → i ≡ n
      → n ≡ min (length cs) (length before) → Run holds digest tag_of tag f own h (take i cs) (take i after) room out b → drop i after ≡ drop i before
      → Runs holds digest tag_of tag f own h cs before after room out b n
  runs h cs before after room out b i n at count run behind = record {
    count = count;
    run = subst (λ (k : ℕ). Run holds digest tag_of tag f own h (take k cs) (take k after) room out b) at run;
    behind = subst (λ (k : ℕ). drop k after ≡ drop k before) at behind;
  }

-- what stands behind an answer stays
pub behind_more : (as' before : List Answer) (i : ℕ) (a : Answer) → drop i as' ≡ drop i before → drop (i + 1) (set as' i a) ≡ drop (i + 1) before
behind_more as' before i a same =
    drop-set-lt (i + 1) as' i a (omega arith) ∙ sym (drop-drop 1 i as') ∙ ap (drop 1) same ∙ drop-drop 1 i before
