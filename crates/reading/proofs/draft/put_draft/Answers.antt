use Rattle.std.proofs.Common.{length, refl}
use Rattle.std.specs.List.{flat_map}
use Rattle.record.proofs.Puts.{put_behind}
use Rattle.reading.specs.Drafts.{count_bytes, read_item_bytes}
use Rattle.reading.proofs.draft.put_draft.Goals as goal

pub returns : goal.returns
returns c =
    let ds = c.args.items.now in
    put_behind (count_bytes (length ds)) (flat_map read_item_bytes ds) c.args.out.now c.put_head.new.out c.put_all.new.out 2 refl c.put_head.ensures c.put_all.ensures.bytes
