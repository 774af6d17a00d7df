-- One turn of a loop that marks records, and its end.
use Rattle.std.proofs.Common.{◌≡◌, ℕ, suc, ◌+◌, ◌-◌, ◌<◌, ◌≤◌, min, List, [], ◌∷◌, ◌++◌, length, get_or, take, drop, Ok, Err, Result, sym, refl, ap, ◌∙◌, arith}
use Rattle.std.proofs.lemmas.List.{append_assoc, append-nil, at_drop_more, at_drop_all, take_all}
use Rattle.std.proofs.Math.Nat.{min-eq_left}
use Rattle.fault.specs.declared.Fault.{Fault}
use Rattle.record.specs.Chains.{and_then}
use Rattle.record.specs.Runs.{Run, run, planned_run, behind}

pub behind-behind : {R : Type 0} (xs ys : List R) (w : Run R) → behind xs (behind ys w) ≡ behind (xs ++ ys) w
behind-behind xs ys (Ok p) = ap (λ l. Ok (l, p.1)) (sym (append_assoc xs ys p.0))
behind-behind xs ys (Err f) = refl

module _ {R : Type 0} (stands : List ℕ → ℕ → Result R Fault) (ends : R → ℕ) (bs : List ℕ) where
  pub run_more : (n at : ℕ) (r : R) → stands bs at ≡ Ok r → run stands ends bs (suc n) at ≡ behind (r ∷ []) (run stands ends bs n (ends r))
  run_more n at r h = ap (λ s. and_then s (λ x. behind (x ∷ []) (run stands ends bs n (ends x)))) h

  pub run_err : (n at : ℕ) (f : Fault) → stands bs at ≡ Err f → run stands ends bs (suc n) at ≡ Err f
  run_err n at f h = ap (λ s. and_then s (λ x. behind (x ∷ []) (run stands ends bs n (ends x)))) h

  pub turn : (rs : List R) (i n at : ℕ) (r : R) → i < n → stands bs at ≡ Ok r → behind (rs ++ r ∷ []) (run stands ends bs (n - (i + 1)) (ends r)) ≡ behind rs (run stands ends bs (n - i) at)
  turn rs i n at r k e =
      let m : n - i ≡ suc (n - (i + 1)) = omega arith in
      sym (behind-behind rs (r ∷ []) _)
      ∙ ap (behind rs) (sym (run_more _ at r e) ∙ ap (λ j. run stands ends bs j at) (sym m))

  pub stop : (rs : List R) (i n at : ℕ) (f : Fault) → i < n → stands bs at ≡ Err f → behind rs (run stands ends bs (n - i) at) ≡ Err f
  stop rs i n at f k e =
      let m : n - i ≡ suc (n - (i + 1)) = omega arith in
      ap (behind rs) (ap (λ j. run stands ends bs j at) m ∙ run_err _ at f e)

  pub end : (rs : List R) (i n at : ℕ) → n ≤ i → behind rs (run stands ends bs (n - i) at) ≡ Ok (rs, at)
  end rs i n at h =
      let m : n - i ≡ 0 = omega arith in
      ap (λ j. behind rs (run stands ends bs j at)) m ∙ ap (λ l. Ok (l, at)) (append-nil rs)

module _ {P R : Type 0} (judged : P → ℕ → Result R Fault) (ends : R → ℕ) (ps : List P) (i at : ℕ) (p : P) (within : i < length ps) (is : p ≡ get_or ps i p) where
  plan_next : planned_run judged ends (drop i ps) at ≡ and_then (judged p at) (λ r. behind (r ∷ []) (planned_run judged ends (drop (i + 1) ps) (ends r)))
  plan_next =
      at_drop_more (λ l. planned_run judged ends l at) ps i p within
      ∙ ap (λ y. and_then (judged y at) (λ r. behind (r ∷ []) (planned_run judged ends (drop (i + 1) ps) (ends r)))) (sym is)

  pub plan_turn : (rs : List R) (r : R) → judged p at ≡ Ok r → behind (rs ++ r ∷ []) (planned_run judged ends (drop (i + 1) ps) (ends r)) ≡ behind rs (planned_run judged ends (drop i ps) at)
  plan_turn rs r e =
      sym (behind-behind rs (r ∷ []) _)
      ∙ ap (behind rs) (sym (plan_next ∙ ap (λ s. and_then s (λ x. behind (x ∷ []) (planned_run judged ends (drop (i + 1) ps) (ends x)))) e))

  pub plan_stop : (rs : List R) (f : Fault) → judged p at ≡ Err f → behind rs (planned_run judged ends (drop i ps) at) ≡ Err f
  plan_stop rs f e = ap (behind rs) (plan_next ∙ ap (λ s. and_then s (λ x. behind (x ∷ []) (planned_run judged ends (drop (i + 1) ps) (ends x)))) e)

pub plan_end : {P R : Type 0} (judged : P → ℕ → Result R Fault) (ends : R → ℕ) (ps : List P) (rs : List R) (i at : ℕ) → length ps ≤ i → behind rs (planned_run judged ends (drop i ps) at) ≡ Ok (rs, at)
plan_end judged ends ps rs i at h =
    ap (behind rs) (at_drop_all (λ l. planned_run judged ends l at) ps i h) ∙ ap (λ l. Ok (l, at)) (append-nil rs)

-- where no more are asked for than fit, all are marked
pub run_fits : {R : Type 0} (stands : List ℕ → ℕ → Result R Fault) (ends : R → ℕ) (bs : List ℕ) (n most at : ℕ) → n ≤ most → run stands ends bs (min n most) at ≡ run stands ends bs n at
run_fits stands ends bs n most at h = ap (λ k. run stands ends bs k at) (min-eq_left h)

pub plan_fits : {P R : Type 0} (judged : P → ℕ → Result R Fault) (ends : R → ℕ) (ps : List P) (most at : ℕ) → length ps ≤ most → planned_run judged ends (take most ps) at ≡ planned_run judged ends ps at
plan_fits judged ends ps most at h = ap (λ l. planned_run judged ends l at) (take_all most ps h)
