-- Boards that agree, as a list of different boards.
use Rattle.std.proofs.Common.{◌≡◌, ℕ, zero, suc, ◌+◌, ◌<◌, ◌≤◌, Bool, true, false, cond, not, ◌&&◌, eqb, List, [], ◌∷◌, length, take, Some, refl, ap, zero-le, arith}
use Rattle.std.proofs.ByRecursion.{all-has, All-take, All-weaker}
use Rattle.std.proofs.lemmas.List.{length-take-le}
use Rattle.std.proofs.lemmas.Bool.{and_from, both_ways, cond_both, eq-eqb, le-leb, leb-true, ne_eqb, not_from_false}
use Rattle.std.specs.List.{ContainsAt as Has, AllByRecursion as All}
use Rattle.fault.specs.Codes.{verdict_byte}
use Rattle.fault.specs.declared.Verdict.{Verdict}
use Rattle.decision.specs.Decisions.{verdict_of}
use Rattle.decision.specs.declared.Decision.{Decision}
use Rattle.session.specs.Answers.{Agree, Different, Honest, reply}
use Rattle.session.specs.Replies.{agreed, agreeing, count_below, says, sent, stated}
use Rattle.cluster_size.specs.Sizes.{members}
use Rattle.session.specs.Standing.{Formed}
use Rattle.session.specs.declared.replies.Reply.{Reply}
use Rattle.session.proofs.Counting.{bit, count_witness, count_without}
use Rattle.session.proofs.Sending.{has-any, sent-has}

-- the numbers below n that pass a test
chosen : (ℕ → Bool) → ℕ → List ℕ
chosen p zero = []
chosen p (suc n) = cond (p n) (n ∷ chosen p n) (chosen p n)

module _ (p : ℕ → Bool) where
  chosen_length : (n : ℕ) → length (chosen p n) ≡ count_below p n
  unfolding chosen count_below
  chosen_length zero = refl
  chosen_length (suc n) = cond_both (p n) (n ∷ chosen p n) (chosen p n) (λ bs. length bs ≡ count_below p n + bit (p n))
      (λ e. omega (arith, chosen_length n, ap bit e)) (λ e. omega (arith, chosen_length n, ap bit e))

  chosen_all : (n : ℕ) → All (λ b. (b < n) × (p b ≡ true)) (chosen p n)
  unfolding chosen
  chosen_all zero = tt
  chosen_all (suc n) =
      let rest = All-weaker (λ b. (b < n) × (p b ≡ true)) (λ b. (b < suc n) × (p b ≡ true)) (λ b h. (omega (arith, h.0), h.1)) (chosen p n) (chosen_all n) in
      cond_both (p n) (n ∷ chosen p n) (chosen p n) (All (λ b. (b < suc n) × (p b ≡ true))) (λ e. ((omega arith, e), rest)) (λ e. rest)

  chosen_different : (n : ℕ) → Different (chosen p n)
  unfolding chosen
  chosen_different zero = tt
  chosen_different (suc n) =
      let apart = All-weaker (λ b. (b < n) × (p b ≡ true)) (λ b. (b ≡ n → ⊥)) (λ b h e. omega (arith, h.0, e)) (chosen p n) (chosen_all n) in
      cond_both (p n) (n ∷ chosen p n) (chosen p n) Different (λ e. (apart, chosen_different n)) (λ e. chosen_different n)

different-take : (m : ℕ) (bs : List ℕ) → Different bs → Different (take m bs)
different-take zero bs h = tt
different-take (suc m) [] h = tt
different-take (suc m) (b ∷ bs) (apart, rest) = (All-take (λ c. (c ≡ b → ⊥)) m bs apart, different-take m bs rest)

left_out : (p : ℕ → Bool) (n b : ℕ) (bs : List ℕ) → All (λ c. (c ≡ b → ⊥)) bs → All (λ c. (c < n) × (p c ≡ true)) bs
    → All (λ c. (c < n) × ((p c && not (eqb c b)) ≡ true)) bs
left_out p n b [] apart all = tt
left_out p n b (c ∷ bs) (ne, apart) ((lt, is), all) = ((lt, and_from (p c) (not (eqb c b)) is (not_from_false (eqb c b) (ne_eqb c b ne))), left_out p n b bs apart all)

-- different numbers that pass a test are not more than pass it
different-count : (p : ℕ → Bool) (n : ℕ) (bs : List ℕ) → Different bs → All (λ b. (b < n) × (p b ≡ true)) bs → length bs ≤ count_below p n
different-count p n [] different all = zero-le
different-count p n (b ∷ bs) (apart, different) ((lt, is), all) =
    omega (arith, count_without p b n lt is, different-count (λ c. p c && not (eqb c b)) n bs different (left_out p n b bs apart all))

module _ (f : ℕ) (rs : List Reply) (v : Verdict) (k : ℕ) where
  pub agree_from : agreed f rs v k ≡ true → Agree f rs v k
  agree_from e =
      let bs = chosen (sent rs v k) (members f) in
      let long : f + 1 ≤ length bs = omega (arith, leb-true (f + 1) (agreeing f rs v k) e, chosen_length (sent rs v k) (members f)) in
      let all = All-weaker (λ b. (b < members f) × (sent rs v k b ≡ true)) (λ b. Has rs (reply b v k)) (λ b h. sent-has rs v k b h.1) bs (chosen_all (sent rs v k) (members f)) in
      (take (f + 1) bs, (length-take-le (f + 1) bs long, different-take (f + 1) bs (chosen_different (sent rs v k) (members f)), All-take (λ b. Has rs (reply b v k)) (f + 1) bs all))

  pub agree_to : All (Formed f) rs → Agree f rs v k → agreed f rs v k ≡ true
  agree_to formed (bs, (long, different, all)) =
      let here : (b : ℕ) → Has rs (reply b v k) → (b < members f) × (sent rs v k b ≡ true) =
      λ b has. (
        (all-has (Formed f) rs (reply b v k) formed has).1,
        has-any (λ r. eqb r.board b && says v k r) rs (reply b v k) has
            (and_from (eqb b b) (says v k (reply b v k)) (eq-eqb b b refl)
            (and_from (eqb (verdict_byte v) (verdict_byte v)) (eqb k k) (eq-eqb (verdict_byte v) (verdict_byte v) refl) (eq-eqb k k refl))),
      ) in
      let enough = different-count (sent rs v k) (members f) bs different (All-weaker (λ b. Has rs (reply b v k)) (λ b. (b < members f) × (sent rs v k b ≡ true)) here bs all) in
      le-leb (f + 1) (agreeing f rs v k) (omega (arith, enough, long))

  pub agree_not : All (Formed f) rs → agreed f rs v k ≡ false → Agree f rs v k → ⊥
  agree_not formed no' agree = both_ways (agreed f rs v k) no' (agree_to formed agree)

pub honest : (f : ℕ) (rs : List Reply) (d : Decision) → agreed f rs (verdict_of d) (stated d) ≡ true → Honest f rs (Some d)
honest f rs d e faulty few =
    let v = verdict_of d in
    let k = stated d in
    let at = count_witness (sent rs v k) faulty (members f) (omega (arith, leb-true (f + 1) (agreeing f rs v k) e)) in
    (at.0, (at.1.0, at.1.2, sent-has rs v k at.0 at.1.1))
