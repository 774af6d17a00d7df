-- Taking in a share: the tests as a table, and where the board stands then.
use Rattle.std.proofs.Common.{◌≡◌, ℕ, zero, suc, Bool, true, false, cond, eqb, ◌⊎◌, List, [], ◌∷◌, ◌++◌, map, is_some, Some, None, Ok, Err, Decides, Option, Result, sym, refl, ap, ◌∙◌, subst, inl, inr, le_of_suc-le-suc, not-suc-le-zero, eq-eqb}
use borrow.Author.Tests.{clash}
use Rattle.std.specs.List.{ContainsAt as Has}
use Rattle.std.proofs.ByRecursion.{has_append_right}
use Rattle.std.proofs.lemmas.Bool.{cases_eq, cond-false, cond-true, ne_eqb}
use Rattle.fault.specs.declared.Fault.{Fault}
use Rattle.fault.specs.declared.Cause.TheVariants.{WrongTag}
use Rattle.fault.specs.declared.Layer.TheVariants.{Seal}
use Rattle.fault.specs.Codes.{fault}
use Rattle.entry.specs.Bodies.{PairBody}
use Rattle.history.specs.Entries.{signer_of, tag_by}
use Rattle.history.specs.Tables.{Under, when}
use Rattle.history.proofs.Deciding.{has_head}
use Rattle.board.proofs.ShareOut.{two_tests}
use Rattle.board.specs.Shares.{Joins}

neither : {c d : Bool} {G H : Type 0} → c ≡ false → d ≡ false → Decides c G × Decides d H → G ⊎ H → ⊥
neither ec ed both (inl x) = clash (sym ec ∙ both.0.1 x)
neither ec ed both (inr x) = clash (sym ed ∙ both.1.1 x)

-- the tests in a row are the table
pub joins_under : {A : Type 0} (a b c d : Bool) (E F G H P P' : Type 0) (e f g : Fault) (Q Q' : A → Type 0) (r : Result A Fault)
    → Decides a E → Decides b F → (a ≡ false → b ≡ false → Decides c G × Decides d H) → (a ≡ false → b ≡ false → (P → P') × (P' → P))
    → (a ≡ false → b ≡ false → (G → ⊥) → (n : A) → Q n → Q' n) → Joins (two_tests a b e f) (two_tests c d g g) P Q r
    → Under (when E e ∷ when F f ∷ when (G ⊎ H) g ∷ when (P' → ⊥) (fault WrongTag Seal 4) ∷ []) Q' r
joins_under true b c d E F G H P P' e f g Q Q' r da db dcd pp qq j = ((λ _. j), λ none. absurd (none (da.0 refl)))
joins_under false true c d E F G H P P' e f g Q Q' r da db dcd pp qq j = ((λ x. absurd (clash (da.1 x))), λ _. ((λ _. j), λ none. absurd (none (db.0 refl))))
joins_under false false true d E F G H P P' e f g Q Q' r da db dcd pp qq j =
    ((λ x. absurd (clash (da.1 x))), λ _. ((λ x. absurd (clash (db.1 x))), λ _. ((λ _. j), λ none. absurd (none (inl ((dcd refl refl).0.0 refl))))))
joins_under false false false true E F G H P P' e f g Q Q' r da db dcd pp qq j =
    ((λ x. absurd (clash (da.1 x))), λ _. ((λ x. absurd (clash (db.1 x))), λ _. ((λ _. j), λ none. absurd (none (inr ((dcd refl refl).1.0 refl))))))
joins_under false false false false E F G H P P' e f g Q Q' (Ok n) da db dcd pp qq j = (
  (λ x. absurd (clash (da.1 x))),
  λ _. (
    (λ x. absurd (clash (db.1 x))),
    λ _. (
      (λ x. absurd (neither refl refl (dcd refl refl) x)),
      λ _. ((λ no'. absurd (no' ((pp refl refl).0 j.0))), λ _. qq refl refl (λ x. clash ((dcd refl refl).0.1 x)) n j.1),
    ),
  ),
)
joins_under false false false false E F G H P P' e f g Q Q' (Err x) da db dcd pp qq j = (
  (λ y. absurd (clash (da.1 y))),
  λ _. (
    (λ y. absurd (clash (db.1 y))),
    λ _. (
      (λ y. absurd (neither refl refl (dcd refl refl) y)),
      λ _. ((λ _. ap Err j.1), λ some. absurd (some (λ p. j.0 ((pp refl refl).1 p)))),
    ),
  ),
)

pub ok_err : {A : Type 0} {n : A} {e : Fault} → Ok n ≡ Err e → ⊥
ok_err {A = A} e = subst told e tt
  where
    told : Result A Fault → Type 0
    told (Ok _) = Unit {0}
    told (Err _) = ⊥

some-none : (t : List ℕ) → Some t ≡ None → ⊥
some-none t e = subst told e tt
  where
    told : Option (List ℕ) → Type 0
    told (Some _) = Unit {0}
    told None = ⊥

-- what is known where a share was taken
pub joins_ok : {A : Type 0} (a b c d : Bool) (P : Type 0) (e f g : Fault) (Q : A → Type 0) (n : A) → Joins (two_tests a b e f) (two_tests c d g g) P Q (Ok n)
    → (a ≡ false) × (b ≡ false) × (c ≡ false) × (d ≡ false) × P × Q n
joins_ok true b c d P e f g Q n j = absurd (ok_err j)
joins_ok false true c d P e f g Q n j = absurd (ok_err j)
joins_ok false false true d P e f g Q n j = absurd (ok_err j)
joins_ok false false false true P e f g Q n j = absurd (ok_err j)
joins_ok false false false false P e f g Q n j = (refl, refl, refl, refl, j.0, j.1)

-- shares by signer
pub tag-none : (ps : List PairBody) (s : ℕ) → is_some (tag_by ps s) ≡ false → tag_by ps s ≡ None
tag-none ps s e = go (tag_by ps s) e
  where
    go : (o : Option (List ℕ)) → is_some o ≡ false → o ≡ None
    go (Some t) x = absurd (clash (sym x))
    go None x = refl

pub tag_decides : (ps : List PairBody) (s : ℕ) → Decides (is_some (tag_by ps s)) (Has (map signer_of ps) s)
unfolding tag_by
tag_decides [] s = ((λ e. absurd (clash e)), λ h. absurd (none h))
  where
    none : Has [] s → ⊥
    none h = not-suc-le-zero h.1
tag_decides (p ∷ ps) s = elim (cases_eq p.signer s) [
  | inl e ↦ (let is = cond-true (eqb p.signer s) (Some p.tag) (tag_by ps s) (eq-eqb p.signer s e) in
      ((λ _. subst (λ n. Has (p.signer ∷ map signer_of ps) n) e (has_head p.signer (map signer_of ps))), λ _. ap is_some is))
  | inr ne ↦ (let is = cond-false (eqb p.signer s) (Some p.tag) (tag_by ps s) (ne_eqb p.signer s ne) in (
    (λ e. has_append_right (p.signer ∷ []) (map signer_of ps) s ((tag_decides ps s).0 (sym (ap is_some is) ∙ e))),
    λ h. ap is_some is ∙ (tag_decides ps s).1 (rest ne h),
  ))
]
  where
    rest : (p.signer ≡ s → ⊥) → Has (p.signer ∷ map signer_of ps) s → Has (map signer_of ps) s
    rest ne (zero, lt, at) = absurd (ne (at 0))
    rest ne (suc k, lt, at) = (k, le_of_suc-le-suc lt, at)

-- one share more
pub tag-new : (ps : List PairBody) (p : PairBody) → tag_by ps p.signer ≡ None → tag_by (ps ++ p ∷ []) p.signer ≡ Some p.tag
unfolding tag_by
tag-new [] p none = cond-true (eqb p.signer p.signer) (Some p.tag) None (eq-eqb p.signer p.signer refl)
tag-new (q ∷ ps) p none = elim (cases_eq q.signer p.signer) [
  | inl e ↦ absurd (some-none q.tag (sym (cond-true (eqb q.signer p.signer) (Some q.tag) (tag_by ps p.signer) (eq-eqb q.signer p.signer e)) ∙ none))
  | inr ne ↦ cond-false (eqb q.signer p.signer) (Some q.tag) (tag_by (ps ++ p ∷ []) p.signer) (ne_eqb q.signer p.signer ne)
      ∙ tag-new ps p (sym (cond-false (eqb q.signer p.signer) (Some q.tag) (tag_by ps p.signer) (ne_eqb q.signer p.signer ne)) ∙ none)
]

pub tag-other : (ps : List PairBody) (p : PairBody) (s : ℕ) → (s ≡ p.signer → ⊥) → tag_by (ps ++ p ∷ []) s ≡ tag_by ps s
unfolding tag_by
tag-other [] p s ne = cond-false (eqb p.signer s) (Some p.tag) None (ne_eqb p.signer s (λ e. ne (sym e)))
tag-other (q ∷ ps) p s ne = ap (λ o. cond (eqb q.signer s) (Some q.tag) o) (tag-other ps p s ne)
