use Rattle.std.proofs.Common.{ℕ, ◌<◌, ◌≤◌, List, [], ◌∷◌, ◌++◌, map, length, sym, ap, ◌∙◌, subst, arith}
use Rattle.digest.specs.Meaning.{bytes_by}
use Rattle.request.specs.Bodies.{WriteBody, WriteIn}
use Rattle.request.specs.Requests.{held}
use Rattle.history.specs.Commits.{kept}
use Rattle.history.proofs.ReadLaws.{kept-write}
use Rattle.history.proofs.Writes.{install_more, install_none}
use Rattle.board.specs.Delivering.{Installed, row_of}
use Rattle.board.proofs.DeliverLoops.{all_writes, next_holds, taken_all, taken_more, writes_to_come}
use Rattle.board.proofs.state.deliver.install_all.Goals as goal

pub loop-write-init : goal.loop-write-init
loop-write-init g c = (
  [],
  (
    (sym (all_writes c.args.request c.into_iter-write-iterator.result c.writes-write-items.result c.requires.0.each_write c.into_iter-write-iterator.ensures.into_iter_gives c.writes-write-items.ensures.all)),
    λ x l e. e ∙ install_none (kept (bytes_by g.D.Digest.of)) c.args.version x l,
  ),
)

pub digested-made-requires : goal.digested-made-requires
digested-made-requires g c =
    let r = c.in-Some.write in
    let w : WriteBody = record { item = r.item; value = r.value.now } in
    let v = c.loop-write.invariant in
    let next = ap (map (λ (v : WriteBody × ℕ). v.0)) c.in-Some.ensures.steps in
    let fits : length w.value ≤ 32 = (next_holds WriteIn (held c.args.request).writes v.0 (writes_to_come c.loop-write.write-iterator) (writes_to_come c.next.new.self) w c.requires.0.writes v.1.0 next).value in
    omega arith

pub loop-write-preserved : goal.loop-write-preserved
loop-write-preserved g c =
    let dig : List ℕ → List ℕ = bytes_by g.D.Digest.of in
    let k = c.args.version in
    let r = c.in-Some.write in
    let w : WriteBody = record { item = r.item; value = r.value.now } in
    let v = c.loop-write.invariant in
    let left = writes_to_come c.loop-write.write-iterator in
    let rest = writes_to_come c.next.new.self in
    let all = (held c.args.request).writes in
    let next = ap (map (λ (v : WriteBody × ℕ). v.0)) c.in-Some.ensures.steps in
    let fits = next_holds WriteIn all v.0 left rest w c.requires.0.writes v.1.0 next in
    let item : w.item ≤ 63 = fits.item in
    let below : w.item < 64 = omega arith in (
      v.0 ++ w ∷ [],
      (
        taken_more all v.0 left rest w v.1.0 next,
        λ x l e.
            install_more (kept dig) k x l v.0 w (g.S.Store.holds c.loop-write.store x) (g.S.Store.holds c.install_one.new.store x) (v.1.1 x l e)
            (λ same. ap (g.S.Store.holds c.install_one.new.store) same ∙ c.install_one.ensures.sets below fits.value ∙ ap (row_of k w.value) c.digested-made.ensures ∙ sym (kept-write dig k w.value c.requires.1))
            (λ ne. c.install_one.ensures.others x ne),
      ),
    )

pub returns : goal.returns
returns g c =
    let v = c.loop-write.invariant in
    subst (λ ws. Installed (bytes_by g.D.Digest.of) c.args.version ws (g.S.Store.holds c.args.store.now) (g.S.Store.holds c.loop-write.store))
    (taken_all (held c.args.request).writes v.0 (writes_to_come c.loop-write.write-iterator) v.1.0 (ap (map (λ (v : WriteBody × ℕ). v.0)) c.in-None.ensures.steps.0)) v.1.1
