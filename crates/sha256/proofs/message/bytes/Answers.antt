use Rattle.std.proofs.Common.{◌≡◌, ℕ, ◌<◌, [], get_or, ◌∙◌, arith, rules, w32}
use Rattle.std.specs.Int.{to_be_bytes}
use Rattle.sha256.specs.Padding.{big_endian}
use Rattle.sha256.proofs.Numbers.{laid}
use Rattle.sha256.proofs.message.bytes.Goals as goal

as_laid : (x : ℕ) → to_be_bytes w32 x ≡ big_endian 4 x
as_laid x = search rules

pub returns : goal.returns
returns c =
    let ws = c.args.words in
    let m = c.map.ensures.items in
    c.copy_from_slice.ensures.after ∙ c.as_flattened.ensures.value
    ∙ laid (big_endian 4) ws c.map.result (omega arith) (λ i h. (let lt : i < 8 = omega arith in (m.at i 0 [] lt).2.met ∙ as_laid (get_or ws i 0)))
