use Rattle.std.proofs.Common.{◌-◌, ◌++◌, map, length, take, drop, ap, ◌∙◌, arith, length-drop}
use Rattle.std.specs.List.{flat_map}
use Rattle.std.proofs.lemmas.List.{take_rest}
use Rattle.octets.specs.Parts.{over}
use Rattle.record.proofs.Puts.{put_behind, every_unit}
use Rattle.inline_vec.specs.Lists.{items}
use Rattle.entry.specs.Bodies.{item_body, item_bytes, head_bytes}
use Rattle.entry.proofs.Sizes.{joined-map}
use Rattle.entry.proofs.parts.Entry.write_body.Goals as goal

pub put_all-requires : goal.put_all-requires
put_all-requires c =
    let is = c.items.result.now in
    let same = joined-map item_body item_bytes is ∙ ap (flat_map item_bytes) c.items.ensures.0 in
    (rw (take_rest, length-drop) (omega (arith, c.body_length-n.ensures.0, c.if-out-n.false, ap length same)), every_unit is)

pub returns : goal.returns
returns c =
    let e = c.args.self.now in
    let old = c.args.out.now in
    let top = c.put_head.new.out in
    let rest = take (length top - 3) (drop 3 top) in
    let its = flat_map item_bytes (map item_body (items e.items)) in
    let same = joined-map item_body item_bytes c.items.result.now ∙ ap (flat_map item_bytes) c.items.ensures.0 in
    let last = c.put_all.ensures.bytes ∙ ap (λ l. over l rest) same in
    let put = put_behind (head_bytes 2 e.version c.len.result) its old top c.put_all.new.out 3 (omega arith) c.put_head.ensures last in (
      c.body_length-n.ensures.0,
      c.body_length-n.ensures.1,
      c.if-out-n.false,
      put ∙ ap (λ n. over (head_bytes 2 e.version n ++ its) old) c.len.ensures.0,
    )
