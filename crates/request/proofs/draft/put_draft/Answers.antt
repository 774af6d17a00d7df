use Rattle.std.proofs.Common.{◌≡◌, ◌+◌, ◌++◌, length, refl, arith}
use Rattle.std.specs.List.{flat_map}
use Rattle.std.proofs.lemmas.List.{length-append}
use Rattle.record.proofs.Puts.{put_behind}
use Rattle.request.specs.Drafts.{head_bytes, read_bytes, write_bytes}
use Rattle.request.proofs.draft.put_draft.Goals as goal

pub returns : goal.returns
returns c =
    let d = c.args.draft in
    let old = c.args.out.now in
    let top = head_bytes d.client d.sequence (length d.reads.now) (length d.writes.now) in
    let rb = flat_map read_bytes d.reads.now in
    let wb = flat_map write_bytes d.writes.now in
    let two = put_behind top rb old c.put_head.new.out c.put_all-a.new.out 6 refl c.put_head.ensures c.put_all-a.ensures.bytes in
    let at2 : 6 + c.put_all-a.result ≡ length (top ++ rb) = omega (arith, c.put_all-a.ensures.count) in
    let three = put_behind (top ++ rb) wb old _ c.put_all.new.out (6 + c.put_all-a.result) at2 two c.put_all.ensures.bytes in
    let at3 : 6 + c.put_all-a.result + c.put_all.result ≡ length ((top ++ rb) ++ wb) = omega (arith, c.put_all-a.ensures.count, c.put_all.ensures.count, length-append rb wb) in
    put_behind ((top ++ rb) ++ wb) d.tag old _ c.put_bytes.new.out (6 + c.put_all-a.result + c.put_all.result) at3 three c.put_bytes.ensures
