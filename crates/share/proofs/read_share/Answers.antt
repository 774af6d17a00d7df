use Rattle.std.proofs.Common.{sym, subst}
use Rattle.fault.specs.declared.Layer.TheVariants.{Frame}
use Rattle.record.proofs.Keeping.{reading}
use Rattle.share.specs.Shares.{share_format, share_fields, share_rules, ShareIn, ShareReads}
use Rattle.share.proofs.ShareLaws.{coding, live}
use Rattle.share.proofs.read_share.Goals as goal

pub returns : goal.returns
returns c =
    let bs = c.args.bytes.now in
    let f = c.args.f in
    let all = reading Frame (share_format 2) (share_rules f) (share_fields 2) (ShareIn 2) (coding 2) bs (live 1) (λ i. (c.type_inv.bytes i).fits) in
    record { answer = c.scan.ensures.answer; promised = subst (ShareReads 2 f bs) (sym c.scan.ensures.answer) all; tag = c.scan.ensures.tag }
