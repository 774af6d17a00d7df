use Rattle.fault.specs.declared.Layer.TheVariants.{Frame}
use Rattle.record.proofs.Keeping.{writing}
use Rattle.share.specs.Shares.{share_format, share_fields, share_rules, ShareIn, drafted}
use Rattle.share.proofs.ShareLaws.{coding, exact}
use Rattle.share.proofs.write_share.Goals as goal

pub returns : goal.returns
returns c =
    let b = drafted c.args.draft in
    record {
      answer = c.put.ensures.answer;
      promised = writing Frame (share_format 2) (share_rules c.args.f) (share_fields 2) (ShareIn 2) (coding 2) b (exact 2 b c.put.ensures.tag) c.args.out.now c.put.new.out c.put.result c.put.ensures.answer c.put.ensures.bytes (λ i. (c.type_inv.out i).fits);
    }
