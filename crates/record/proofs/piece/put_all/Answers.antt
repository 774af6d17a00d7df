use Rattle.std.proofs.Common.{length, take, sym, ap, ◌∙◌, arith, length-drop}
use Rattle.std.specs.List.{flat_map}
use Rattle.std.proofs.lemmas.List.{take_rest, take_all, length-append}
use Rattle.octets.specs.Parts.{over}
use Rattle.record.proofs.Puts.{put_behind, front_more, rest-length, every_more}
use Rattle.record.proofs.piece.put_all.Goals as goal

pub slice_bounds-put-count : goal.slice_bounds-put-count
slice_bounds-put-count g c = omega arith

pub put-requires : goal.put-requires
put-requires g c =
    let t = g.P.Piece in
    let xs = c.args.pieces.now in
    let r = rest-length t.bytes xs _ _ c.loop-p-test.true c.p-item.is in (
      (every_more t.bytes xs _ _ c.loop-p-test.true c.p-item.is t.ready c.loop-p.invariant.3).0,
      rw (take_rest, length-drop) (omega (arith, r)),
    )

pub size-at-requires : goal.size-at-requires
size-at-requires g c = (every_more g.P.Piece.bytes c.args.pieces.now _ _ c.loop-p-test.true c.p-item.is g.P.Piece.ready c.loop-p.invariant.3).0

pub overflow_add-at : goal.overflow_add-at
overflow_add-at g c =
    let r = rest-length g.P.Piece.bytes c.args.pieces.now _ _ c.loop-p-test.true c.p-item.is in
    omega (arith, r, c.size-at.ensures)

pub loop-p-preserved : goal.loop-p-preserved
loop-p-preserved g c =
    let t = g.P.Piece in
    let xs = c.args.pieces.now in
    let i = c.loop-p.p-index in
    let x = c.p-item.result in
    let in-it = c.loop-p-test.true in
    let is = c.p-item.is in
    let done = flat_map t.bytes (take i xs) in
    let f = front_more t.bytes xs i x in-it is in
    let r = rest-length t.bytes xs i x in-it is in (
      omega (arith, ap length f, length-append done (t.bytes x), c.size-at.ensures),
      put_behind done (t.bytes x) c.args.out.now c.loop-p.out c.put.new.out c.loop-p.at c.loop-p.invariant.0 c.loop-p.invariant.1 c.put.ensures ∙ ap (λ l. over l c.args.out.now) (sym f),
      omega (arith, r, c.size-at.ensures),
      (every_more t.bytes xs i x in-it is t.ready c.loop-p.invariant.3).1,
    )

pub returns : goal.returns
returns g c =
    let t = g.P.Piece in
    let a = ap (flat_map t.bytes) (take_all _ c.args.pieces.now c.loop-p-test.false) in
    record { count = c.loop-p.invariant.0 ∙ ap length a; bytes = c.loop-p.invariant.1 ∙ ap (λ l. over l c.args.out.now) a }
