-- What a list of replies says, and what one reply more adds.
use Rattle.std.proofs.Common.{◌≡◌, ℕ, ◌+◌, Bool, true, false, ◌&&◌, ◌||◌, eqb, List, [], ◌∷◌, ◌++◌, sym, refl, ap, ◌∙◌, subst, arith}
use Rattle.std.proofs.ByRecursion.{has_get_or}
use Rattle.std.proofs.lemmas.Bool.{and_parts, and_right, eq-eqb, eqb-true, leb-true, not-false, or_from}
use Rattle.std.proofs.lemmas.List.Folds.{Any-from_list_any, list_any-append, list_any_at}
use Rattle.std.proofs.Math.Bool.{or-false}
use Rattle.std.specs.List.{ContainsAt as Has, AllByRecursion as All, list_any}
use Rattle.fault.specs.Codes.{verdict_byte}
use Rattle.fault.specs.declared.Verdict.{Verdict}
use Rattle.fault.specs.declared.Verdict.TheVariants.{Abort, Commit}
use Rattle.decision.specs.Decisions.{verdict_of}
use Rattle.session.specs.Answers.{reply}
use Rattle.session.specs.Hearing.{same}
use Rattle.session.specs.Replies.{agreed, agreeing, decided, decision, malformed, says, sent, stated}
use Rattle.cluster_size.specs.Sizes.{members}
use Rattle.session.specs.declared.replies.Reply.{Reply}
use Rattle.session.proofs.Counting.{count-never, count_same, count_witness}

module _ (p : Reply → Bool) where
  pub any_push : (rs : List Reply) (r : Reply) → list_any p (rs ++ r ∷ []) ≡ (list_any p rs || p r)
  any_push rs r = list_any-append p rs (r ∷ []) ∙ ap (λ x. list_any p rs || x) (or-false (p r))

  pub any_push_no : (rs : List Reply) (r : Reply) → p r ≡ false → list_any p (rs ++ r ∷ []) ≡ list_any p rs
  any_push_no rs r no' = any_push rs r ∙ ap (λ x. list_any p rs || x) no' ∙ or-false (list_any p rs)

  pub any_push_first : (rs : List Reply) (r : Reply) → list_any p rs ≡ false → list_any p (rs ++ r ∷ []) ≡ p r
  any_push_first rs r none = any_push rs r ∙ ap (λ x. x || p r) none

  pub any_false : (rs : List Reply) → All (λ r. p r ≡ false) rs → list_any p rs ≡ false
  any_false [] all = refl
  any_false (r ∷ rs) (first, rest) = or_from (p r) (list_any p rs) first (any_false rs rest)

  pub any-has : (rs : List Reply) → list_any p rs ≡ true → (r : Reply) × (Has rs r × (p r ≡ true))
  any-has rs e = let at = Any-from_list_any p rs e in (at.1, (subst (Has rs) at.3 (has_get_or rs at.0 at.1 at.2), at.4))

  pub has-any : (rs : List Reply) (r : Reply) → Has rs r → p r ≡ true → list_any p rs ≡ true
  has-any rs r (k, lt, at) is = list_any_at p rs k r lt (ap p (at r) ∙ is)

byte-same : (u v : Verdict) → verdict_byte u ≡ verdict_byte v → u ≡ v
byte-same Abort Abort e = refl
byte-same Abort Commit e = absurd (omega arith)
byte-same Commit Abort e = absurd (omega arith)
byte-same Commit Commit e = refl

pub says_is : (v : Verdict) (k : ℕ) (r : Reply) → says v k r ≡ true → (r.verdict ≡ v) × (r.version ≡ k)
says_is v k r e =
    let parts = and_parts (eqb (verdict_byte r.verdict) (verdict_byte v)) (eqb r.version k) e in
    (byte-same r.verdict v (eqb-true (verdict_byte r.verdict) (verdict_byte v) parts.0), eqb-true r.version k parts.1)

-- what a well-formed reply says has its verdict and its version
pub as_said : (P : Verdict → ℕ → Type 0) (v : Verdict) (k : ℕ) → malformed v k ≡ false → P v k → P (verdict_of (decision v k)) (stated (decision v k))
as_said P Commit k ok h = h
as_said P Abort k ok h = subst (P Abort) (eqb-true k 0 (not-false (eqb k 0) ok)) h

-- well-formed replies say the same where they have the same verdict and the same version
pub told : (u v : Verdict) (j k : ℕ) → malformed u j ≡ false → malformed v k ≡ false → (eqb (verdict_byte u) (verdict_byte v) && eqb j k) ≡ same (decision u j) (decision v k)
told Commit Commit j k a b = refl
told Abort Abort j k a b = eq-eqb j k (eqb-true j 0 (not-false (eqb j 0) a) ∙ sym (eqb-true k 0 (not-false (eqb k 0) b)))
told Commit Abort j k a b = refl
told Abort Commit j k a b = refl

module _ (rs : List Reply) (v : Verdict) (k b : ℕ) where
  pub sent-has : sent rs v k b ≡ true → Has rs (reply b v k)
  sent-has e =
      let at = any-has (λ r. eqb r.board b && says v k r) rs e in
      let r = at.0 in
      let parts = and_parts (eqb r.board b) (says v k r) at.1.1 in
      let board = eqb-true r.board b parts.0 in
      let said = says_is v k r parts.1 in
      let same : r ≡ reply b v k = (λ i. record { board = board i; verdict = said.0 i; version = said.1 i }) in
      subst (Has rs) same at.1.0

-- where f + 1 boards agree the session is decided
pub agreed_decides : (f : ℕ) (rs : List Reply) (v : Verdict) (k : ℕ) → agreed f rs v k ≡ true → decided f rs ≡ true
agreed_decides f rs v k e =
    let many = leb-true (f + 1) (agreeing f rs v k) e in
    let at = count_witness (sent rs v k) (λ _. false) (members f) (omega (arith, many, count-never (members f))) in
    has-any (λ r. agreed f rs r.verdict r.version) rs (reply at.0 v k) (sent-has rs v k at.0 at.1.1) e

-- a reply that says something else adds no board
pub agreeing-other : (f : ℕ) (rs : List Reply) (r : Reply) (v : Verdict) (k : ℕ) → says v k r ≡ false → agreeing f (rs ++ r ∷ []) v k ≡ agreeing f rs v k
agreeing-other f rs r v k other = count_same (sent (rs ++ r ∷ []) v k) (sent rs v k) (members f)
    (λ b lt. any_push_no (λ s. eqb s.board b && says v k s) rs r (and_right (eqb r.board b) (says v k r) other))
