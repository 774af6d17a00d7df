use Rattle.std.proofs.Common.{◌≡◌, ℕ, Some, None, Option, Bor, get_or, sym, subst, arith}
use Rattle.std.specs.Option.{option_copied}
use Rattle.std.specs.Slice.{IsItemAt}
use Rattle.sha256.specs.Constants.{Constant, constants, primes, CubeRoot}
use Rattle.sha256.proofs.Cubes.{cube_rule}
use Rattle.sha256.proofs.constants.constant.Goals as goal

answered : (t : ℕ) (r : Option (Bor ℕ)) (s : Option ℕ) → IsItemAt constants t r → s ≡ option_copied r → Constant t s
answered t (Some x) s l e =
    let is = l.4 (omega arith) 0 in
    subst (Constant t) (sym e) (l.3.0, is, subst (λ (k : ℕ). CubeRoot (get_or primes t 0) k) (sym is) (cube_rule t l.3.0))
answered t None s l e = subst (Constant t) (sym e) l.3

pub returns : goal.returns
returns c = answered c.args.t c.get.result c.copied.result c.get.ensures.lookup c.copied.ensures
