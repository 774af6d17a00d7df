use Rattle.std.proofs.Common.{ℕ, cond, List, [], sym, ap, ◌∙◌}
use Rattle.std.proofs.lemmas.Slice.Eq.{slice_eq-Decides}
use Rattle.std.proofs.lemmas.Bool.{eq-eqb, ne_eqb}
use Rattle.digest.specs.Meaning.{bytes_by}
use Rattle.store.specs.Slot.{slot}
use Rattle.board.specs.Delivering.{read_said}
use Rattle.board.proofs.DeliverLoops.{agrees_by}
use Rattle.board.proofs.state.deliver.agrees.Goals as goal
use Rattle.std.proofs.lemmas.Bool.Decides.{Decides-eqb}

pub returns-then-row-eq0 : goal.returns-then-row-eq0
returns-then-row-eq0 g c =
    let dig : List ℕ → List ℕ = bytes_by g.D.Digest.of in
    let row = c.look_up-row.result in
    agrees_by dig (g.S.Store.holds c.args.store.now) (read_said c.args.read) (slot row) c.in-Some.item.number c.eq.result c.as_slice.result.now
    c.in-Some.item.below c.in-Some.ensures c.look_up-row.ensures c.if-read-row.false
    (ap (λ b. cond b (dig []) row.digest) (eq-eqb row.version 0 c.if-row-eq0.true) ∙ sym c.digested-none.ensures ∙ sym c.as_slice.ensures)
    (slice_eq-Decides Decides-eqb c.args.read.digest.now c.as_slice.result.now c.eq.result c.eq.ensures)

pub returns : goal.returns
returns g c =
    let dig : List ℕ → List ℕ = bytes_by g.D.Digest.of in
    let row = c.look_up-row.result in
    agrees_by dig (g.S.Store.holds c.args.store.now) (read_said c.args.read) (slot row) c.in-Some.item.number c.eq-2.result c.as_slice-2.result.now
    c.in-Some.item.below c.in-Some.ensures c.look_up-row.ensures c.if-read-row.false
    (ap (λ b. cond b (dig []) row.digest) (ne_eqb row.version 0 c.if-row-eq0.false) ∙ sym c.as_slice-2.ensures)
    (slice_eq-Decides Decides-eqb c.args.read.digest.now c.as_slice-2.result.now c.eq-2.result c.eq-2.ensures)
