use Rattle.std.proofs.Common.{◌-◌, ◌∷◌, ◌++◌, map, length, take, drop, refl, ap, ◌∙◌, arith, length-drop}
use Rattle.std.specs.List.{flat_map}
use Rattle.std.proofs.lemmas.List.{take_rest}
use Rattle.octets.specs.Numbers.{be}
use Rattle.octets.specs.Parts.{over}
use Rattle.record.proofs.Puts.{put_behind, every_unit}
use Rattle.entry.specs.Bodies.{sealed_body, sealed_bytes}
use Rattle.entry.proofs.Sizes.{joined-map}
use Rattle.proof.proofs.draft.Draft.put.Goals as goal

pub put_all-requires : goal.put_all-requires
put_all-requires c =
    let es = c.args.self.entries.now in
    let same = joined-map sealed_body (sealed_bytes 2) es in
    (rw (take_rest, length-drop) (omega (arith, ap length same, c.requires.room, c.put_head.auto.out)), every_unit es)

pub returns : goal.returns
returns c =
    let es = c.args.self.entries.now in
    let top = c.put_head.new.out in
    let rest = take (length top - 5) (drop 5 top) in
    let last = c.put_all.ensures.bytes ∙ ap (λ l. over l rest) (joined-map sealed_body (sealed_bytes 2) es) in
    put_behind (4 ∷ (be 2 c.args.self.low ++ be 2 c.args.self.high)) (flat_map (sealed_bytes 2) (map sealed_body es)) c.args.out.now top c.put_all.new.out 5 refl c.put_head.ensures last
