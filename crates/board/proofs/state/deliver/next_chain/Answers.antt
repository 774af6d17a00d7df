use Rattle.std.proofs.Common.{◌≡◌, ◌-◌, drop, take, ap, ◌∙◌, arith}
use Rattle.digest.specs.Meaning.{bytes_by}
use Rattle.entry.specs.Bodies.{entry_body, entry_bytes}
use Rattle.label.specs.declared.Label.TheVariants.{Chain}
use Rattle.label.specs.Labels.{label_bytes}
use Rattle.board.proofs.DeliverLoops.{chain_head, glue}
use Rattle.board.proofs.state.deliver.next_chain.Goals as goal

pub returns : goal.returns
returns g c =
    let n = c.put_body-n.result in
    let whole : n - 0 ≡ n = omega arith in
    c.digested.ensures
    ∙ ap (bytes_by g.D.Digest.of)
    (glue _ _ (label_bytes Chain) c.args.chain.now (entry_bytes 2 (entry_body c.args.entry.now))
    (chain_head c.copy_from_slice.new.self c.copy_from_slice-2.new.self c.args.chain.now (c.copy_from_slice.ensures.after ∙ c.bytes-label.ensures.bytes) c.copy_from_slice-2.ensures.after)
    (ap (λ m. take m (drop 0 c.put_body-n.new.out)) whole ∙ c.put_body-n.ensures.body))
