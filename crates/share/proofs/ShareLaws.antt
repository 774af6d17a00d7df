-- Shares and the fields of their frames.
use Rattle.std.proofs.Common.{◌≡◌, ℕ, suc, ◌*◌, ◌≤◌, leb, List, ◌∷◌, length, refl, ◌∙◌, subst, arith}
use Rattle.std.proofs.lemmas.Bool.{le-leb, leb-true, and_parts, and_from, eqb-true}
use Rattle.std.proofs.lemmas.Nat.{pow_pos}
use Rattle.octets.specs.Numbers.{limit}
use Rattle.octets.proofs.NumberLaws.{power_more}
use Rattle.record.specs.Formats.{Field, num, str, Fields}
use Rattle.record.proofs.Paths.{Live}
use Rattle.record.proofs.Codings.{Coding, opened}
use Rattle.record.proofs.Judging.{Exact}
use Rattle.share.specs.Shares.{ShareBody, share_format, share_fields, ShareIn}

-- 1 fits every width but 0
pub one-fits : (w : ℕ) → 1 ≤ limit (suc w)
one-fits w = omega (arith, power_more w, pow_pos (8 * w))

pub live : (w : ℕ) → Live (share_format (suc w))
live w = (
  (2, omega arith, refl),
  λ kind a b. (
    (0, omega arith, refl),
    λ signer c d. (
      (1, one-fits w, and_from (leb 1 1) (leb 1 (limit (suc w))) refl (le-leb 1 (limit (suc w)) (one-fits w))),
      λ version e g.
          λ tag long all. tt,
    ),
  ),
)

of : (w : ℕ) (fs : List Field) (b : ShareBody) → Fields (share_format w) fs b → (fs ≡ share_fields w b) × ShareIn w b
of w fs b h =
    let kind = opened (share_format w) fs b h in
    let signer = kind.3.2 in
    let version = signer.3.2 in
    let tag = version.3.2 in
    let end = tag.3.2 in
    let two = eqb-true kind.0 2 kind.2 in
    let range = and_parts (leb 1 version.0) (leb version.0 (limit w)) version.2 in
    subst (λ x. (fs ≡ share_fields w x) × ShareIn w x) end.1 (
      kind.3.1
          ∙ (λ i. num 1 (two i) ∷ signer.3.1 i)
          ∙ (λ i. num 1 2 ∷ num 1 signer.0 ∷ version.3.1 i)
          ∙ (λ i. num 1 2 ∷ num 1 signer.0 ∷ num w version.0 ∷ tag.3.1 i)
          ∙ (λ i. num 1 2 ∷ num 1 signer.0 ∷ num w version.0 ∷ str tag.0 ∷ end.0 i),
      record { signer = signer.1; low = leb-true 1 version.0 range.0; high = version.1; tag = tag.1; bytes = tag.2 },
    )

to : (w : ℕ) (b : ShareBody) → ShareIn w b → Fields (share_format w) (share_fields w b) b
to w b h = (
  refl,
  omega arith,
  refl,
  (
    refl,
    h.signer,
    refl,
    (
      refl,
      h.high,
      and_from (leb 1 b.version) (leb b.version (limit w)) (le-leb 1 b.version h.low) (le-leb b.version (limit w) h.high),
      (h.tag, h.bytes, refl),
    ),
  ),
)

pub coding : (w : ℕ) → Coding (share_format w) (share_fields w) (ShareIn w)
coding w = record { of = of w; to = to w }

pub exact : (w : ℕ) (b : ShareBody) → length b.tag ≡ 16 → Exact (share_format w) (share_fields w b) b
exact w b long = (refl, λ a c. (refl, λ d e. (refl, λ g h. (long, refl))))
