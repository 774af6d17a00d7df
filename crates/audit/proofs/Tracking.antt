-- What is kept of a board, as one more report comes in.
use Rattle.std.proofs.lemmas.Bool.{both_ways}
use Rattle.std.proofs.Common.{is_some, true, false, refl, ◌≡◌, ℕ, ◌+◌, ◌<◌, ◌≤◌, List, [], ◌∷◌, ◌++◌, length, Some, None, Option, sym, ◌∙◌, subst, inl, inr, arith}
use Rattle.std.proofs.lemmas.List.{length_push}
use Rattle.audit.specs.declared.track.Track.{Track}
use Rattle.audit.specs.Reports.{FirstWrong, LastRight, OfBoard, Report, RightMark, WrongMark}
use Rattle.audit.specs.Tracking.{Tracks}
use Rattle.audit.proofs.Numbering.{none-some, of_cases, of_last, of-old, of-within}

-- whether there is a value
pub is_there : (o : Option ℕ) → is_some o ≡ true → (n : ℕ) × (o ≡ Some n)
is_there (Some n) e = (n, refl)
is_there None e = absurd (both_ways false refl e)

pub none_there : (o : Option ℕ) → is_some o ≡ false → o ≡ None
none_there (Some n) e = absurd (both_ways true e refl)
none_there None e = refl

one : (m n : ℕ) → Some m ≡ Some n → m ≡ n
one m n e = cc

module _ (digest : List ℕ → List ℕ) (b : ℕ) where
  module _ (reports : List Report) (last : Report) where
    -- what was said of the reports before `end` stays
    last_right_kept : (end : ℕ) (n : Option ℕ) → end ≤ length reports + 1 → LastRight digest reports b end n → LastRight digest (reports ++ last ∷ []) b end n
    last_right_kept end (Some n) within (low, there, after) = (
      low,
      of-old (RightMark digest) reports b n last there,
      λ k above below at. elim (of_cases (RightMark digest) reports b k last at) [ inl old ↦ after k above below old | inr (is, _, _) ↦ omega arith ],
    )
    last_right_kept end None within none =
        λ k below at. elim (of_cases (RightMark digest) reports b k last at) [ inl old ↦ none k below old | inr (is, _, _) ↦ omega arith ]

    -- a report of another board leaves a board's last right one what it was
    last_right_other : (n : Option ℕ) → (last.board ≡ b → ⊥) → LastRight digest reports b (length reports + 1) n
        → LastRight digest (reports ++ last ∷ []) b (length (reports ++ last ∷ []) + 1) n
    last_right_other (Some n) other (low, there, after) =
        let long = length_push reports last in (
          omega (arith, low),
          of-old (RightMark digest) reports b n last there,
          λ k above below at. elim (of_cases (RightMark digest) reports b k last at) [
            | inl older ↦ after k above (omega (arith, (of-within (RightMark digest) reports b k older).1)) older
            | inr (_, whose, _) ↦ other whose
          ],
        )
    last_right_other None other none =
        λ k below at. elim (of_cases (RightMark digest) reports b k last at) [
          | inl older ↦ none k (omega (arith, (of-within (RightMark digest) reports b k older).1)) older
          | inr (_, whose, _) ↦ other whose
        ]

    -- no wrong report but the last, if that
    none-wrong : ((k : ℕ) → OfBoard (WrongMark digest) reports b k → ⊥) → (k : ℕ) → k < length reports + 1 → OfBoard (WrongMark digest) (reports ++ last ∷ []) b k → ⊥
    none-wrong none k below at = elim (of_cases (WrongMark digest) reports b k last at) [ inl old ↦ none k old | inr (is, _, _) ↦ omega arith ]

    module _ (t : Track) (tr : Tracks digest t reports b) where
      first-kept : (n : ℕ) → t.wrong ≡ Some n → FirstWrong digest (reports ++ last ∷ []) b n
      first-kept n some =
          let old = tr.first n some in
          let within = of-within (WrongMark digest) reports b n old.0 in (
            of-old (WrongMark digest) reports b n last old.0,
            λ k below at. elim (of_cases (WrongMark digest) reports b k last at) [ inl older ↦ old.1 k below older | inr (is, _, _) ↦ omega (arith, within.1) ],
          )

      before-kept : (n : ℕ) → t.wrong ≡ Some n → LastRight digest (reports ++ last ∷ []) b n t.right
      before-kept n some =
          let within = of-within (WrongMark digest) reports b n (tr.first n some).0 in
          last_right_kept n t.right (omega (arith, within.1)) (tr.before n some)

      -- a report of another board changes nothing
      pub tracks-other : (last.board ≡ b → ⊥) → Tracks digest t (reports ++ last ∷ []) b
      tracks-other other = record {
        never = λ none k at. elim (of_cases (WrongMark digest) reports b k last at) [ inl old ↦ tr.never none k old | inr (_, whose, _) ↦ other whose ];
        so_far = λ none. last_right_other t.right other (tr.so_far none);
        first = first-kept;
        before = before-kept;
      }

      -- after the first wrong report nothing changes
      pub tracks_departed : (n : ℕ) → t.wrong ≡ Some n → Tracks digest t (reports ++ last ∷ []) b
      tracks_departed n some = record {
        never = λ none. absurd (none-some n (sym none ∙ some));
        so_far = λ none. absurd (none-some n (sym none ∙ some));
        first = first-kept;
        before = before-kept;
      }

      module _ (none : t.wrong ≡ None) (number : ℕ) (is : number ≡ length reports + 1) (whose : last.board ≡ b) where
        pub tracks_right : RightMark digest last → Tracks digest (record { right = Some number; wrong = None }) (reports ++ last ∷ []) b
        tracks_right right =
            let long = length_push reports last in
            record {
              never = λ _ k at. elim (of_cases (WrongMark digest) reports b k last at) [ inl old ↦ tr.never none k old | inr (_, _, wrong) ↦ wrong right ];
              so_far = λ _. (omega arith, of_last (RightMark digest) reports b number last is whose right, λ k above below at. omega arith);
              first = λ n some. absurd (none-some n some);
              before = λ n some. absurd (none-some n some);
            }

        pub tracks-wrong : WrongMark digest last → Tracks digest (record { right = t.right; wrong = Some number }) (reports ++ last ∷ []) b
        tracks-wrong wrong = record {
          never = λ zero'. absurd (none-some number (sym zero'));
          so_far = λ zero'. absurd (none-some number (sym zero'));
          first = λ n some. subst (FirstWrong digest (reports ++ last ∷ []) b) (one number n some)
              (of_last (WrongMark digest) reports b number last is whose wrong, λ k below at. none-wrong (tr.never none) k (omega arith) at);
          before = λ n some. subst (λ (e : ℕ). LastRight digest (reports ++ last ∷ []) b e t.right) (one number n some)
              (last_right_kept number t.right (omega arith) (subst (λ (e : ℕ). LastRight digest reports b e t.right) (sym is) (tr.so_far none)));
        }
