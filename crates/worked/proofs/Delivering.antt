-- Every delivery has an answer, so every request occurs at the end of every history.
use Rattle.std.proofs.Common.{ℕ, ◌+◌, ◌≤◌, List, [], ◌∷◌, length, Ok, Err, Result, refl, inl, inr, arith}
use Rattle.std.proofs.ByRecursion.{all_has_itself}
use Rattle.fault.specs.declared.Fault.{Fault}
use Rattle.decision.specs.declared.Decision.TheVariants.{Abort, Commit}
use Rattle.octets.specs.Numbers.{limit}
use Rattle.numbers.specs.Sequence.{opens}
use Rattle.request.specs.Bodies.{ReadBody, ReadIn, RequestBody, read_request}
use Rattle.history.specs.declared.Delivery.{Delivery}
use Rattle.history.specs.Events.{Effect, Event, delivered, effects, width}
use Rattle.history.specs.Commits.{commits}
use Rattle.history.specs.Clients.{used}
use Rattle.history.specs.Tables.{Case, Read, Under}
use Rattle.history.specs.Answers.{DeliverAnswers, Delivers, Lawful, deliver_table}
use Rattle.history.proofs.Determined.{deliver-decided}
use Rattle.history.specs.Backs.{AllReadBack}
use Rattle.history.proofs.Backs.{back_push}
use Rattle.history.proofs.Lawfuls.{lawful_push}
use Rattle.history.proofs.ReadLaws.{either_all_pass}
use Rattle.history.proofs.Tables.{Decided}
use Rattle.worked.specs.Requests.{DigestOf32, TagOf16}
use Rattle.worked.specs.Boards.{Delivered}
use Rattle.worked.proofs.Carrying.{carried_one, one, one_climbs}
use Rattle.worked.proofs.Requesting.{requests_occur}

-- a table whose conditions are decided has an answer
under_some : {A : Type 0} (t : List Case) (P : A → Type 0) (a : A) → Decided t → P a → (r : Result A Fault) × Under t P r
under_some [] P a tell p = (Ok a, p)
under_some (c ∷ cs) P a tell p = elim tell.0 [
  | inl holds ↦ (Err c.refusal, (λ _. refl, λ fails. absurd (fails holds)))
  | inr fails ↦ let rest = under_some cs P a tell.1 p in (rest.0, (λ holds. absurd (fails holds), λ _. rest.1))
]

module _ (digest : List ℕ → List ℕ) (tag : ℕ → List ℕ → List ℕ) (f own : ℕ) where
  verdict_some : (es : List Effect) (b : RequestBody) → (d : Delivery) × Delivers digest tag f own es b d
  verdict_some es b = elim (either_all_pass digest (commits es) b.reads) [
    | inl pass ↦ (record { decision = Commit (length (commits es) + 1); opened = opens width (used b.client es) }, ((pass, refl), refl))
    | inr fails ↦ (record { decision = Abort; opened = opens width (used b.client es) }, (fails, refl))
  ]

  delivery_some : (es : List Effect) (frame : List ℕ) → (r : Result Delivery Fault) × DeliverAnswers digest tag f own es frame r
  delivery_some es frame = go (read_request width frame)
    where
      go : (q : Result RequestBody Fault) → (r : Result Delivery Fault) × Read q (λ b. Under (deliver_table digest tag f own es frame b) (Delivers digest tag f own es b)) r
      go (Ok b) =
          let d = verdict_some es b in
          under_some (deliver_table digest tag f own es frame b) (Delivers digest tag f own es b) d.0 (deliver-decided digest tag f own es frame b) d.1
      go (Err e) = (Err e, refl)

  -- a request that reads one item, and writes it
  pub delivered-one : DigestOf32 digest → TagOf16 tag → (P : List Effect → ℕ → ℕ → Type 0) (h : List Event) (c s : ℕ) (q : ReadBody) → Lawful digest tag f own [] h → AllReadBack digest tag f own [] h
      → P (effects h) c s → c ≤ 15 → s ≤ limit width → ReadIn width q → Delivered digest tag f own P (q ∷ [])
  delivered-one sized sealed P h c s q lawful back such few small read =
      let ws = one q.item [] in
      let made = requests_occur tag sealed c s (q ∷ []) ws few small (omega arith) (read, tt) (one_climbs q.item)
      (carried_one q.item [] read.item (omega arith) (λ i. omega arith)) (all_has_itself (q.item ∷ [])) in
      let answer = delivery_some (effects h) made.0 in
      record {
        before = h;
        frame = made.0;
        client = c;
        number = s;
        writes = ws;
        answer = answer.0;
        such = such;
        requested = made.1;
        lawful = lawful_push digest tag f own [] h (delivered made.0 answer.0) lawful answer.1;
        back = back_push digest tag f own [] h (delivered made.0 answer.0) back tt;
      }
