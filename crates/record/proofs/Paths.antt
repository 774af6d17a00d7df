-- Along a format: what is left of it behind some fields.
use Rattle.std.proofs.Common.{◌≡◌, ℕ, zero, suc, ◌≤◌, true, List, [], ◌∷◌, ◌++◌, length, replicate, sym, refl, ap, ◌∙◌, subst, arith}
use Rattle.std.proofs.lemmas.List.{append_assoc, length-replicate}
use Rattle.octets.specs.Numbers.{Bytes, limit}
use Rattle.record.specs.Formats.{Format, number, string, done, ◌>>=◌, repeat, Field, num, str, field_bytes, written, Fields}

-- behind the fields ds of a frame in range, the format g is left
abbrev pub Along : {A : Type 0} → Format A → List Field → Format A → Type 0
Along (number w ok next) [] g = number w ok next ≡ g
Along (number w ok next) (num v n ∷ ds) g = (v ≡ w) × (n ≤ limit w) × (ok n ≡ true) × Along (next n) ds g
Along (number w ok next) (str bs ∷ ds) g = ⊥
Along (string n next) [] g = string n next ≡ g
Along (string n next) (num v m ∷ ds) g = ⊥
Along (string n next) (str bs ∷ ds) g = (length bs ≡ n) × Bytes bs × Along (next bs) ds g
Along (done b) [] g = done b ≡ g
Along (done b) (f ∷ ds) g = ⊥

-- each field that comes next can be in range
abbrev pub Live : {A : Type 0} → Format A → Type 0
Live (number w ok next) = ((n : ℕ) × (n ≤ limit w) × (ok n ≡ true)) × ((n : ℕ) → n ≤ limit w → ok n ≡ true → Live (next n))
Live (string n next) = (bs : List ℕ) → length bs ≡ n → Bytes bs → Live (next bs)
Live (done a) = Unit {0}

pub written-append : (xs ys : List Field) → written (xs ++ ys) ≡ written xs ++ written ys
written-append [] ys = refl
written-append (x ∷ xs) ys = ap (λ l. field_bytes x ++ l) (written-append xs ys) ∙ sym (append_assoc (field_bytes x) (written xs) (written ys))

module _ {A : Type 0} where
  pub along-none : (f : Format A) → Along f [] f
  along-none (number w ok next) = refl
  along-none (string n next) = refl
  along-none (done a) = refl

  pub along-frame : (f g : Format A) (ds fs : List Field) (a : A) → Along f ds g → Fields g fs a → Fields f (ds ++ fs) a
  along-frame (number w ok next) g [] fs a p h = subst (λ x. Fields x fs a) (sym p) h
  along-frame (number w ok next) g (num v n ∷ ds) fs a p h = (p.0, p.1, p.2, along-frame (next n) g ds fs a p.3 h)
  along-frame (number w ok next) g (str bs ∷ ds) fs a p h = absurd p
  along-frame (string n next) g [] fs a p h = subst (λ x. Fields x fs a) (sym p) h
  along-frame (string n next) g (num v m ∷ ds) fs a p h = absurd p
  along-frame (string n next) g (str bs ∷ ds) fs a p h = (p.0, p.1, along-frame (next bs) g ds fs a p.2 h)
  along-frame (done b) g [] fs a p h = subst (λ x. Fields x fs a) (sym p) h
  along-frame (done b) g (f ∷ ds) fs a p h = absurd p

  pub frame-along : (f : Format A) (fs : List Field) (a : A) → Fields f fs a → Along f fs (done a)
  frame-along (number w ok next) [] a h = absurd h
  frame-along (number w ok next) (num v n ∷ fs) a h = (h.0, h.1, h.2, frame-along (next n) fs a h.3)
  frame-along (number w ok next) (str bs ∷ fs) a h = absurd h
  frame-along (string n next) [] a h = absurd h
  frame-along (string n next) (num v m ∷ fs) a h = absurd h
  frame-along (string n next) (str bs ∷ fs) a h = (h.0, h.1, frame-along (next bs) fs a h.2)
  frame-along (done b) [] a h = ap done h
  frame-along (done b) (f ∷ fs) a h = absurd h

  pub along_live : (f g : Format A) (ds : List Field) → Along f ds g → Live f → Live g
  along_live (number w ok next) g [] p h = subst Live p h
  along_live (number w ok next) g (num v n ∷ ds) p h = along_live (next n) g ds p.3 (h.1 n p.1 p.2)
  along_live (number w ok next) g (str bs ∷ ds) p h = absurd p
  along_live (string n next) g [] p h = subst Live p h
  along_live (string n next) g (num v m ∷ ds) p h = absurd p
  along_live (string n next) g (str bs ∷ ds) p h = along_live (next bs) g ds p.2 (h bs p.0 p.1)
  along_live (done b) g [] p h = subst Live p h
  along_live (done b) g (f ∷ ds) p h = absurd p

  -- what a frame has behind its first fields
  pub frame-behind : (f : Format A) (ds fs : List Field) (a : A) → Fields f (ds ++ fs) a → (g : Format A) × Along f ds g × Fields g fs a
  frame-behind (number w ok next) [] fs a h = (number w ok next, refl, h)
  frame-behind (number w ok next) (num v n ∷ ds) fs a h =
      let r = frame-behind (next n) ds fs a h.3 in
      (r.0, (h.0, h.1, h.2, r.1), r.2)
  frame-behind (number w ok next) (str bs ∷ ds) fs a h = absurd h
  frame-behind (string n next) [] fs a h = (string n next, refl, h)
  frame-behind (string n next) (num v m ∷ ds) fs a h = absurd h
  frame-behind (string n next) (str bs ∷ ds) fs a h =
      let r = frame-behind (next bs) ds fs a h.2 in
      (r.0, (h.0, h.1, r.1), r.2)
  frame-behind (done b) [] fs a h = (done b, refl, h)
  frame-behind (done b) (f ∷ ds) fs a h = absurd h

zeros : (n : ℕ) → Bytes (replicate n 0)
zeros zero i = omega arith
zeros (suc n) zero = omega arith
zeros (suc n) (suc i) = zeros n i

-- a live format has a frame
pub completed : {A : Type 0} (f : Format A) → Live f → (fs : List Field) × ((a : A) × Fields f fs a)
completed (number w ok next) h =
    let n = h.0.0 in
    let r = completed (next n) (h.1 n h.0.1 h.0.2) in
    (num w n ∷ r.0, (r.1.0, (refl, h.0.1, h.0.2, r.1.1)))
completed (string n next) h =
    let z = replicate n 0 in
    let r = completed (next z) (h z (length-replicate n 0) (zeros n)) in
    (str z ∷ r.0, (r.1.0, (length-replicate n 0, zeros n, r.1.1)))
completed (done a) h = ([], (a, refl))

-- one live format behind another, and many
pub live_bind : {A B : Type 0} (f : Format A) (k : A → Format B) → Live f → ((fs : List Field) (a : A) → Fields f fs a → Live (k a)) → Live (f >>= k)
live_bind (number w ok next) k h g = (h.0, λ n fits e. live_bind (next n) k (h.1 n fits e) (λ fs a fr. g (num w n ∷ fs) a (refl, fits, e, fr)))
live_bind (string n next) k h g = λ s long all. live_bind (next s) k (h s long all) (λ fs a fr. g (str s ∷ fs) a (long, all, fr))
live_bind (done a) k h g = g [] a refl

pub live_repeat : {A : Type 0} (n : ℕ) (f : Format A) → Live f → Live (repeat n f)
live_repeat zero f h = tt
live_repeat (suc n) f h =
    live_bind f (λ x. repeat n f >>= (λ xs. done (x ∷ xs))) h
    (λ fs x fr. live_bind (repeat n f) (λ xs. done (x ∷ xs)) (live_repeat n f h) (λ gs xs gr. tt))
