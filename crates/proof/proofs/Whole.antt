-- A whole proof frame from the ends of its parts.
use Rattle.std.proofs.Common.{◌≡◌, ℕ, ◌+◌, ◌-◌, ◌<◌, ◌≤◌, leb, List, length, get_or, Ok, Err, Result, sym, refl, ap, ◌∙◌, subst}
use Rattle.std.proofs.lemmas.Bool.{le-leb, lt-leb}
use Rattle.fault.specs.declared.Fault.{Fault}
use Rattle.fault.specs.declared.Layer.TheVariants.{Proof}
use Rattle.fault.specs.declared.Cause.TheVariants.{Malformed}
use Rattle.fault.specs.Codes.{fault}
use Rattle.octets.specs.Numbers.{Bytes, limit, number_at}
use Rattle.record.specs.Chains.{unless, and_then}
use Rattle.record.specs.Formats.{is, within}
use Rattle.record.proofs.Steps.{never, pass, refuse, then_ok, then_err}
use Rattle.record.proofs.Rules.{unless_then}
use Rattle.entry.specs.Bodies.{SealedBody}
use Rattle.ruled.specs.Ruled.{Ruled, end, follow, scan, ending}
use Rattle.ruled.proofs.Scans.{scan-follow, scan_then}
use Rattle.proof.specs.declared.range.Range.{Range}
use Rattle.proof.specs.declared.read.Proof.{Proof as Frame}
use Rattle.proof.specs.Bodies.{ProofBody, range}
use Rattle.proof.specs.Rules.{entries_from, proof_of}
use Rattle.proof.specs.Ends.{end_of, range_of}
use Rattle.proof.specs.Promises.{ProofAnswered}
use Rattle.proof.specs.Parts.{Seen}
use Rattle.proof.proofs.Keeping.{reads}

-- a scan that only answers where it ends, and one that goes on
module _ {A B : Type 0} (c : Ruled A) (k : A → ℕ → Result B Fault) (bs : List ℕ) (at : ℕ) where
  both : (r : Result (A × ℕ) Fault) → scan Proof c (λ a e. Ok (a, e)) bs at ≡ r → scan Proof c k bs at ≡ and_then r (λ p. k p.0 p.1)
  both r h = scan_then Proof bs (λ p. k p.0 p.1) c (λ a e. Ok (a, e)) k at (λ a e. refl) ∙ ap (λ s. and_then s (λ p. k p.0 p.1)) h

  only_end : (r : Result (A × ℕ) Fault) → scan Proof c (λ a e. Ok (a, e)) bs at ≡ r → end_of c bs at ≡ and_then r (λ p. Ok p.1)
  only_end r h = scan_then Proof bs (λ p. Ok p.1) c (λ a e. Ok (a, e)) (λ a e. Ok e) at (λ a e. refl) ∙ ap (λ s. and_then s (λ p. Ok p.1)) h

  pub ended : (e : ℕ) → end_of c bs at ≡ Ok e → (a : A) × (scan Proof c k bs at ≡ k a e)
  ended e h = go (scan Proof c (λ a j. Ok (a, j)) bs at) refl
    where
      go : (r : Result (A × ℕ) Fault) → scan Proof c (λ a j. Ok (a, j)) bs at ≡ r → (a : A) × (scan Proof c k bs at ≡ k a e)
      go (Ok p) q =
          let same : p.1 ≡ e = let z = sym (only_end (Ok p) q) ∙ h in cc in
          (p.0, both (Ok p) q ∙ ap (k p.0) same)
      go (Err d) q = never d e (sym (only_end (Err d) q) ∙ h)

  pub stopped : (d : Fault) → end_of c bs at ≡ Err d → scan Proof c k bs at ≡ Err d
  stopped d h = go (scan Proof c (λ a j. Ok (a, j)) bs at) refl
    where
      go : (r : Result (A × ℕ) Fault) → scan Proof c (λ a j. Ok (a, j)) bs at ≡ r → scan Proof c k bs at ≡ Err d
      go (Ok p) q = never d p.1 (sym h ∙ only_end (Ok p) q)
      go (Err f) q = both (Err f) q ∙ (let same : f ≡ d = let z = sym (only_end (Err f) q) ∙ h in cc in ap Err same)

-- the entries, behind the range
abbrev pub body_from : Range → List SealedBody → ProofBody
body_from g ss = record { low = g.low; high = g.high; entries = ss }

abbrev pub behind_range : ℕ → ℕ → List ℕ → Range → Result ProofBody Fault
behind_range w f bs g = scan Proof (follow (entries_from w f g.low (g.high + 1 - g.low)) (λ ss. end (body_from g ss))) (ending Proof bs) bs (0 + 1 + w + w)

pub range_split : (w f : ℕ) (bs : List ℕ) → proof_of w f bs ≡ and_then (range_of w bs) (behind_range w f bs)
range_split w f bs =
    let short = fault Malformed Proof (length bs) in
    let low = number_at bs (0 + 1) w in
    let high = number_at bs (0 + 1 + w) w in
    let a = leb (0 + 1) (length bs) in
    let b = is 4 (get_or bs 0 0) in
    let c = leb (0 + 1 + w) (length bs) in
    let d = within 1 (limit w) low in
    let e = leb (0 + 1 + w + w) (length bs) in
    let g = range low high in
    let k = fault Malformed Proof 0 in
    let p = fault Malformed Proof (0 + 1) in
    let q = fault Malformed Proof (0 + 1 + w) in
    let r : Result Range Fault = Ok (record { low = low; high = high }) in
    let h = behind_range w f bs in
    sym (unless_then a short (unless b k (unless c short (unless d p (unless e short (unless g q r))))) h
    ∙ ap (unless a short) (unless_then b k (unless c short (unless d p (unless e short (unless g q r)))) h
    ∙ ap (unless b k) (unless_then c short (unless d p (unless e short (unless g q r))) h
    ∙ ap (unless c short) (unless_then d p (unless e short (unless g q r)) h
    ∙ ap (unless d p) (unless_then e short (unless g q r) h
    ∙ ap (unless e short) (unless_then g q r h))))))

module _ (w f : ℕ) (bs : List ℕ) where
  pub bad_range : (d : Fault) → range_of w bs ≡ Err d → proof_of w f bs ≡ Err d
  bad_range d h = range_split w f bs ∙ then_err (range_of w bs) (behind_range w f bs) d h

  module _ (g : Range) (h : range_of w bs ≡ Ok g) where
    abbrev entries : Ruled (List SealedBody)
    entries = entries_from w f g.low (g.high + 1 - g.low)

    abbrev closed : List SealedBody → ℕ → Result ProofBody Fault
    closed ss e = ending Proof bs (body_from g ss) e

    behind : proof_of w f bs ≡ scan Proof entries closed bs (0 + 1 + w + w)
    behind = range_split w f bs ∙ then_ok (range_of w bs) (behind_range w f bs) g h ∙ scan-follow Proof bs entries (λ ss. end (body_from g ss)) (ending Proof bs) (0 + 1 + w + w)

    pub bad_entries : (d : Fault) → end_of entries bs (0 + 1 + w + w) ≡ Err d → proof_of w f bs ≡ Err d
    bad_entries d q = behind ∙ stopped entries closed bs (0 + 1 + w + w) d q

    pub surplus : (e : ℕ) → end_of entries bs (0 + 1 + w + w) ≡ Ok e → e < length bs → proof_of w f bs ≡ Err (fault Malformed Proof e)
    surplus e q s =
        let y = ended entries closed bs (0 + 1 + w + w) e q in
        behind ∙ y.1 ∙ refuse (leb (length bs) e) (fault Malformed Proof e) (Ok (body_from g y.0)) (lt-leb (length bs) e s)

    pub whole : (e : ℕ) → end_of entries bs (0 + 1 + w + w) ≡ Ok e → length bs ≤ e → (ss : List SealedBody) × (proof_of w f bs ≡ Ok (body_from g ss))
    whole e q s =
        let y = ended entries closed bs (0 + 1 + w + w) e q in
        (y.0, behind ∙ y.1 ∙ pass (leb (length bs) e) (fault Malformed Proof e) (Ok (body_from g y.0)) (le-leb (length bs) e s))

-- a refusal, and a proof, as they are seen
pub seen_err : (f : ℕ) (d : Fault) (s : Result ProofBody Fault) → s ≡ Err d → Seen f (Err d) s
seen_err f d s e = subst (λ x. Seen f (Err d) x) (sym e) refl

pub seen_ok : (f : ℕ) (p : Frame) (bs : List ℕ) (b : ProofBody) → Bytes bs → proof_of 2 f bs ≡ Ok b → p.frame.now ≡ bs → p.f ≡ f → f ≤ 255 → p.low ≡ b.low → p.high ≡ b.high → Seen f (Ok p) (proof_of 2 f bs)
seen_ok f p bs b all e frame same byte low high =
    let k : ProofAnswered 2 f bs (Ok b) = subst (ProofAnswered 2 f bs) e (reads 1 f bs all).answered in
    subst (λ x. Seen f (Ok p) x) (sym e) (record { among = same; byte = byte; frame = frame ∙ k.1; in_range = k.0.in_range; low = low; high = high })
