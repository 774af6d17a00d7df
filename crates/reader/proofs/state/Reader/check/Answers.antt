use Rattle.std.proofs.Common.{ℕ, List}
use Rattle.digest.specs.Meaning.{written}
use Rattle.seal.specs.Seals.{passes}
use Rattle.reader.proofs.Accepting.{accepted_means_held, honest-proof_decides}
use Rattle.reader.proofs.state.Reader.check.Goals as goal

pub returns : goal.returns
returns g c =
    let self = c.args.self.now in
    let digest : List ℕ → List ℕ = λ m. written (g.D.Digest.of m) in
    record {
      answer = c.examine.ensures;
      held = accepted_means_held digest (passes (g.L.Seal.tag self.seal)) self.size.f c.args.reading.now c.args.proof.now c.examine.result (λ i. (c.type_inv.proof i).fits) c.examine.ensures;
      decides = honest-proof_decides digest (passes (g.L.Seal.tag self.seal)) self.size.f c.args.reading.now c.args.proof.now c.examine.result (λ i. (c.type_inv.proof i).fits) c.examine.ensures;
    }
