use Rattle.std.proofs.Common.{ℕ, List, Ok, Err, subst}
use Rattle.std.proofs.lemmas.Result.{err_from_is_err_and}
use Rattle.std.proofs.lemmas.Bool.{both_ways}
use Rattle.octets.specs.Numbers.{Bytes}
use Rattle.digest.specs.Meaning.{written}
use Rattle.proof.specs.Parts.{Seen}
use Rattle.proof.specs.Rules.{proof_of}
use Rattle.seal.specs.Seals.{passes}
use Rattle.reader.proofs.Checking.{accepted, proof-refused, ranged, reading-refused, wrong-item, wrong-range, wrong-tag}
use Rattle.reader.proofs.state.Reader.examine.Goals as goal

pub returns-in_err-read : goal.returns-in_err-read
returns-in_err-read g c =
    let self = c.args.self.now in
    let digest : List ℕ → List ℕ = λ m. written (g.D.Digest.of m) in
    let P : ℕ → List ℕ → List ℕ → Type 0 = passes (g.L.Seal.tag self.seal) in
    let f = self.size.f in
    let rs = c.args.reading.now in
    let bs = c.args.proof.now in
    let p = err_from_is_err_and c.from_residual.result c.from_residual.ensures.1 in
    rw (p.1, p.2) (reading-refused digest P f rs bs c.in_err-read.field-0.0 c.in_err-read.ensures.answer)

pub returns-in_err-proven : goal.returns-in_err-proven
returns-in_err-proven g c =
    let self = c.args.self.now in
    let digest : List ℕ → List ℕ = λ m. written (g.D.Digest.of m) in
    let P : ℕ → List ℕ → List ℕ → Type 0 = passes (g.L.Seal.tag self.seal) in
    let f = self.size.f in
    let rs = c.args.reading.now in
    let bs = c.args.proof.now in
    let why = c.in_err-proven.field-0.0 in
    let seen : Seen f (Err why) (proof_of 2 f bs) = subst (λ (n : ℕ). Seen n (Err why) (proof_of 2 n bs)) c.faults.ensures c.in_err-proven.ensures.seen in
    let p = err_from_is_err_and c.from_residual-in_err-proven.result c.from_residual-in_err-proven.ensures.1 in
    rw (p.1, p.2) (proof-refused digest P f rs bs c.in_ok-read.read c.in_ok-read.ensures.answer why seen)

pub returns-then-not-covers : goal.returns-then-not-covers
returns-then-not-covers g c =
    let self = c.args.self.now in
    let digest : List ℕ → List ℕ = λ m. written (g.D.Digest.of m) in
    let P : ℕ → List ℕ → List ℕ → Type 0 = passes (g.L.Seal.tag self.seal) in
    let f = self.size.f in
    let rs = c.args.reading.now in
    let bs = c.args.proof.now in
    let q = c.in_ok-read.read in
    let read = c.in_ok-read.ensures.answer in
    let found = c.in_ok-read.ensures.found in
    let proof = c.in_ok-proven.proven in
    let seen : Seen f (Ok proof) (proof_of 2 f bs) = subst (λ (n : ℕ). Seen n (Ok proof) (proof_of 2 n bs)) c.faults.ensures c.in_ok-proven.ensures.seen in
    let bytes : Bytes bs = λ i. (c.type_inv.proof i).fits in
    let decides = ranged digest P f rs bs q read proof bytes seen c.covers.result c.lowest.result c.highest-high.result (c.lowest.ensures rs found) (c.highest-high.ensures rs found) c.covers.ensures in
    rw c.at.ensures (wrong-range digest P f rs bs q read proof bytes seen (λ b holds right. both_ways c.covers.result c.if-not-covers.true ((decides b holds).1 right)))

pub returns-in_err-verify_proof : goal.returns-in_err-verify_proof
returns-in_err-verify_proof g c =
    let self = c.args.self.now in
    let digest : List ℕ → List ℕ = λ m. written (g.D.Digest.of m) in
    let P : ℕ → List ℕ → List ℕ → Type 0 = passes (g.L.Seal.tag self.seal) in
    let f = self.size.f in
    let rs = c.args.reading.now in
    let bs = c.args.proof.now in
    let q = c.in_ok-read.read in
    let read = c.in_ok-read.ensures.answer in
    let found = c.in_ok-read.ensures.found in
    let proof = c.in_ok-proven.proven in
    let seen : Seen f (Ok proof) (proof_of 2 f bs) = subst (λ (n : ℕ). Seen n (Ok proof) (proof_of 2 n bs)) c.faults.ensures c.in_ok-proven.ensures.seen in
    let bytes : Bytes bs = λ i. (c.type_inv.proof i).fits in
    let decides = ranged digest P f rs bs q read proof bytes seen c.covers.result c.lowest.result c.highest-high.result (c.lowest.ensures rs found) (c.highest-high.ensures rs found) c.covers.ensures in
    let p = err_from_is_err_and c.from_residual-in_err-verify_proof.result c.from_residual-in_err-verify_proof.ensures.1 in
    rw (p.1, p.2) (wrong-tag digest P f rs bs q read proof bytes seen self.size.few (λ b holds. (decides b holds).0 c.if-not-covers.false) c.in_err-verify_proof.field-0.0 c.in_err-verify_proof.ensures)

pub returns-in_err-judge : goal.returns-in_err-judge
returns-in_err-judge g c =
    let self = c.args.self.now in
    let digest : List ℕ → List ℕ = λ m. written (g.D.Digest.of m) in
    let P : ℕ → List ℕ → List ℕ → Type 0 = passes (g.L.Seal.tag self.seal) in
    let f = self.size.f in
    let rs = c.args.reading.now in
    let bs = c.args.proof.now in
    let q = c.in_ok-read.read in
    let read = c.in_ok-read.ensures.answer in
    let found = c.in_ok-read.ensures.found in
    let proof = c.in_ok-proven.proven in
    let seen : Seen f (Ok proof) (proof_of 2 f bs) = subst (λ (n : ℕ). Seen n (Ok proof) (proof_of 2 n bs)) c.faults.ensures c.in_ok-proven.ensures.seen in
    let bytes : Bytes bs = λ i. (c.type_inv.proof i).fits in
    let decides = ranged digest P f rs bs q read proof bytes seen c.covers.result c.lowest.result c.highest-high.result (c.lowest.ensures rs found) (c.highest-high.ensures rs found) c.covers.ensures in
    let p = err_from_is_err_and c.from_residual-in_err-judge.result c.from_residual-in_err-judge.ensures.1 in
    rw (p.1, p.2) (wrong-item digest P f rs bs q read proof bytes seen self.size.few (λ b holds. (decides b holds).0 c.if-not-covers.false) c.in_ok-verify_proof.field-0 c.in_ok-verify_proof.ensures found c.in_ok-read.ensures.promised c.in_err-judge.field-0.0 c.in_err-judge.ensures)

pub returns : goal.returns
returns g c =
    let self = c.args.self.now in
    let digest : List ℕ → List ℕ = λ m. written (g.D.Digest.of m) in
    let P : ℕ → List ℕ → List ℕ → Type 0 = passes (g.L.Seal.tag self.seal) in
    let f = self.size.f in
    let rs = c.args.reading.now in
    let bs = c.args.proof.now in
    let q = c.in_ok-read.read in
    let read = c.in_ok-read.ensures.answer in
    let found = c.in_ok-read.ensures.found in
    let proof = c.in_ok-proven.proven in
    let seen : Seen f (Ok proof) (proof_of 2 f bs) = subst (λ (n : ℕ). Seen n (Ok proof) (proof_of 2 n bs)) c.faults.ensures c.in_ok-proven.ensures.seen in
    let bytes : Bytes bs = λ i. (c.type_inv.proof i).fits in
    let decides = ranged digest P f rs bs q read proof bytes seen c.covers.result c.lowest.result c.highest-high.result (c.lowest.ensures rs found) (c.highest-high.ensures rs found) c.covers.ensures in
    accepted digest P f rs bs q read proof bytes seen self.size.few (λ b holds. (decides b holds).0 c.if-not-covers.false) c.in_ok-verify_proof.field-0 c.in_ok-verify_proof.ensures found c.in_ok-read.ensures.promised c.in_ok-judge.field-0 c.highest-high.result (c.highest-high.ensures rs found) c.in_ok-judge.ensures
