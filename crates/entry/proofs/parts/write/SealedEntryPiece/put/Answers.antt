use Rattle.std.proofs.Common.{◌-◌, length, take, drop, ap, ◌∙◌, arith, length-drop}
use Rattle.std.specs.List.{flat_map}
use Rattle.std.proofs.lemmas.List.{take_rest, length-append}
use Rattle.octets.specs.Parts.{over}
use Rattle.record.proofs.Puts.{put_behind, every_unit}
use Rattle.entry.specs.Bodies.{entry_bytes, sealed_body, pair_body, pair_bytes}
use Rattle.entry.proofs.Sizes.{joined-map}
use Rattle.entry.proofs.parts.write.SealedEntryPiece.put.Goals as goal

pub put_all-requires : goal.put_all-requires
put_all-requires c =
    let ps = c.pairs.result.now in
    let got = c.in-Some.ensures in
    let same = joined-map pair_body pair_bytes ps ∙ ap (flat_map pair_bytes) c.pairs.ensures.0 in
    let b = sealed_body c.args.self in
    let both = length-append (entry_bytes 2 b.entry) (flat_map pair_bytes b.pairs) in
    (rw (take_rest, length-drop) (omega (arith, got.0, c.requires.1, ap length same, both, c.write_body.auto.out)), every_unit ps)

pub returns-in-Some : goal.returns-in-Some
returns-in-Some c =
    let b = sealed_body c.args.self in
    let got = c.in-Some.ensures in
    let top = c.write_body.new.out in
    let n = c.in-Some.n in
    let rest = take (length top - n) (drop n top) in
    let same = joined-map pair_body pair_bytes c.pairs.result.now ∙ ap (flat_map pair_bytes) c.pairs.ensures.0 in
    let last = c.put_all.ensures.bytes ∙ ap (λ l. over l rest) same in
    put_behind (entry_bytes 2 b.entry) (flat_map pair_bytes b.pairs) c.args.out.now top c.put_all.new.out n got.0 got.3 last

pub returns-in_default : goal.returns-in_default
returns-in_default c =
    let b = sealed_body c.args.self in
    let got = c.in_default.ensures in
    let both = length-append (entry_bytes 2 b.entry) (flat_map pair_bytes b.pairs) in
    absurd (omega (arith, c.requires.1, got.0, both))
