-- Marks compared.
use Rattle.std.proofs.Common.{◌≡◌, ℕ, ◌*◌, Bool, true, List, [], ◌∷◌, length, Decides, sym, refl, ap, ◌∙◌, subst, arith}
use Rattle.digest.specs.Meaning.{written}
use Rattle.request.specs.Bodies.{WriteBody}
use Rattle.history.specs.Commits.{commits}
use Rattle.history.specs.Entries.{chain_after}
use Rattle.history.specs.Answers.{Lawful}
use Rattle.history.specs.Events.{Event, effects}
use Rattle.history.specs.Marks.{Extends, FirstPart, SameMark, Sized, frames}
use Rattle.history.proofs.Determined.{frames-first, frames-same}
use Rattle.history.proofs.Marks.{equal-commits, equal-marks}
use Rattle.promises.specs.Marks.{Compared}

written-length : (ws : List ℕ) → length (written ws) ≡ 8 * length ws
written-length [] = refl
written-length (w ∷ ws) = omega (arith, written-length ws)

-- four words are 32 bytes
pub sized : (of : List ℕ → List ℕ) → ((m : List ℕ) → length (of m) ≡ 4) → Sized (λ m. written (of m))
sized of four m = written-length (of m) ∙ ap (λ n. 8 * n) (four m)

module _ (digest : List ℕ → List ℕ) (cs ds : List (List WriteBody)) (m n : ℕ) (c d : List ℕ) where
  -- two marks, each the count and the chain of a board's commits
  pub compared : Sized digest → (r : Bool) → (m ≡ length cs) × (c ≡ chain_after digest cs) → (n ≡ length ds) × (d ≡ chain_after digest ds)
      → Decides r ((m ≡ n) × (c ≡ d)) → Compared digest r cs ds
  compared size r (p, q) (p', q') tells =
      let there : r ≡ true → SameMark digest cs ds = λ e. (sym p ∙ (tells.0 e).0 ∙ p', sym q ∙ (tells.0 e).1 ∙ q') in
      let back : SameMark digest cs ds → r ≡ true = λ same. tells.1 (p ∙ same.0 ∙ sym p', q ∙ same.1 ∙ sym q') in
      record {
        marks = (there, back);
        equal = λ e. equal-marks digest size cs ds (there e);
        same = λ e. back (equal-commits digest cs ds e);
      }

-- boards with one seal
module _ (digest : List ℕ → List ℕ) (tag seal : ℕ → List ℕ → List ℕ) (f g own other : ℕ) (h k : List Event) (one : Lawful digest tag f own [] h) (two : Lawful digest seal g other [] k)
    (same : (s : ℕ) (m : List ℕ) → tag s m ≡ seal s m) where
  two_too : Lawful digest tag g other [] k
  two_too = subst (λ (t : ℕ → List ℕ → List ℕ). Lawful digest t g other [] k) (λ i s m. sym (same s m) i) two

  -- that were delivered frames in one order
  pub ordered : FirstPart (frames h) (frames k) → Extends (effects h) (effects k)
  ordered first = frames-first digest tag f g own other h k one two_too first

  -- that were delivered the same frames
  pub alike : frames h ≡ frames k → commits (effects h) ≡ commits (effects k)
  alike e = (frames-same digest tag f g own other h k one two_too e).commits
