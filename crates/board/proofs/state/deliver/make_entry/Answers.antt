use Rattle.std.proofs.Common.{◌≡◌, ℕ, ◌≤◌, List, [], ◌∷◌, ◌++◌, map, length, rules, sym, ap, ◌∙◌, arith}
use Rattle.digest.specs.Meaning.{bytes_by}
use Rattle.entry.specs.Bodies.{item_body}
use Rattle.request.specs.Bodies.{WriteBody, WriteIn}
use Rattle.request.specs.Requests.{held}
use Rattle.history.specs.Entries.{entry_of, recorded}
use Rattle.board.proofs.DeliverLoops.{all_writes, entry_more, next_holds, taken_all, taken_more, writes_to_come}
use Rattle.board.proofs.state.deliver.make_entry.Goals as goal

pub loop-write-init : goal.loop-write-init
loop-write-init g c = ([], ((sym (all_writes c.args.request c.into_iter-write-iterator.result c.writes-write-items.result c.requires.0.each_write c.into_iter-write-iterator.ensures.into_iter_gives c.writes-write-items.ensures.all)), search rules))

pub digested-made-requires : goal.digested-made-requires
digested-made-requires g c =
    let r = c.in-Some.write in
    let w : WriteBody = record { item = r.item; value = r.value.now } in
    let v = c.loop-write.invariant in
    let next = ap (map (λ (v : WriteBody × ℕ). v.0)) c.in-Some.ensures.steps in
    let fits : length w.value ≤ 32 = (next_holds WriteIn (held c.args.request).writes v.0 (writes_to_come c.loop-write.write-iterator) (writes_to_come c.next.new.self) w c.requires.0.writes v.1.0 next).value in
    omega arith

pub loop-write-preserved : goal.loop-write-preserved
loop-write-preserved g c =
    let dig : List ℕ → List ℕ = bytes_by g.D.Digest.of in
    let r = c.in-Some.write in
    let w : WriteBody = record { item = r.item; value = r.value.now } in
    let v = c.loop-write.invariant in
    let left = writes_to_come c.loop-write.write-iterator in
    let rest = writes_to_come c.next.new.self in
    let all = (held c.args.request).writes in
    let next = ap (map (λ (v : WriteBody × ℕ). v.0)) c.in-Some.ensures.steps in
    let x = c.new-in-loop-write.result in
    let item : x.item ≡ w.item = c.new-in-loop-write.ensures.0 in
    let sum : x.digest ≡ dig w.value = c.new-in-loop-write.ensures.1 ∙ c.digested-made.ensures in
    let same : item_body x ≡ recorded dig w = λ t. record { item = item t; digest = sum t } in (
      v.0 ++ w ∷ [],
      (
        taken_more all v.0 left rest w v.1.0 next,
        entry_more dig c.args.version all v.0 left rest w v.1.0 next c.requires.0.few c.loop-write.built c.push.new.self x c.push.result v.1.1 c.push.ensures.0 c.push.ensures.1 same,
      ),
    )

pub returns : goal.returns
returns g c =
    let v = c.loop-write.invariant in
    v.1.1 ∙ ap (entry_of (bytes_by g.D.Digest.of) c.args.version)
    (taken_all (held c.args.request).writes v.0 (writes_to_come c.loop-write.write-iterator) v.1.0 (ap (map (λ (v : WriteBody × ℕ). v.0)) c.in-None.ensures.steps.0))
