use Rattle.std.proofs.Common.{◌≡◌, ℕ, ◌+◌, ◌-◌, ◌^◌, ◌<◌, List, [], ◌++◌, length, sym, refl, ap, ◌∙◌, arith}
use Rattle.std.proofs.lemmas.List.{append-nil, nil_from_length}
use Rattle.siphash.specs.SipHash.{little}
use Rattle.siphash.proofs.Little.{pow-le}
use Rattle.siphash.proofs.joined.Goals as goal

nothing : 0 ≡ little []
unfolding little
nothing = refl

-- with nothing behind it
alone : (r n : ℕ) → ((k : ℕ) → 0 < 256 ^ k → r < 256 ^ (n + k)) → r < 256 ^ n
alone r n f = let e : n + 0 ≡ n = omega arith in rw e at (f 0 (omega arith))

pub prefixed-requires : goal.prefixed-requires
prefixed-requires c =
    record { size = omega arith; room = omega (arith, pow-le 0 (8 - length c.args.b.now) (omega arith)) }

pub prefixed-requires-2 : goal.prefixed-requires-2
prefixed-requires-2 c =
    record { size = omega arith; room = omega (arith, alone c.prefixed.result (length c.args.b.now) c.prefixed.ensures.bound, pow-le (length c.args.b.now) (8 - length c.args.a.now) (omega arith)) }

pub returns : goal.returns
returns c =
    let b : List ℕ = c.args.b.now in
    record {
      value = c.prefixed-2.ensures.value b (c.prefixed.ensures.value [] nothing ∙ ap little (append-nil b));
      bound = c.prefixed-2.ensures.bound (length b) (alone c.prefixed.result (length b) c.prefixed.ensures.bound);
    }

pub returns-then-b-eq8 : goal.returns-then-b-eq8
returns-then-b-eq8 c =
    let a : List ℕ = c.args.a.now in
    let b : List ℕ = c.args.b.now in
    let n : length a + length b ≡ 8 = omega arith in
    let z = nil_from_length a (omega arith) in
    record { value = c.word.ensures ∙ ap (λ (xs : List ℕ). little (xs ++ b)) (sym z); bound = rw n c.word.type_inv }
