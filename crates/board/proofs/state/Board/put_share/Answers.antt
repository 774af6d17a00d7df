use Rattle.std.proofs.Common.{◌≡◌, ◌+◌, ◌<◌, ◌≤◌, length, Ok, sym, ap, ◌∙◌, arith}
use Rattle.record.specs.Formats.{written}
use Rattle.record.specs.Writing.{filled}
use Rattle.share.specs.Shares.{share_fields}
use Rattle.entry.specs.Bodies.{entry_bytes}
use Rattle.label.specs.declared.Label.TheVariants.{Entry}
use Rattle.label.specs.Labels.{labelled}
use Rattle.window.specs.Windows.{entry_in}
use Rattle.board.proofs.ShareOut.{kept-range, out_now, share-written}
use Rattle.board.proofs.state.Board.put_share.Goals as goal

pub returns : goal.returns
returns g c =
    let b = c.args.self.now in
    let v = c.args.version in
    let tag = c.in_ok-tag.tag in
    let range : (v ≤ b.count) × (b.count < v + 32) = kept-range b.count v c.in_ok-check_kept.field-0 c.in_ok-check_kept.ensures in
    let signed : tag ≡ g.L.Seal.tag b.seal b.place.number (labelled Entry (entry_bytes 2 (entry_in b.window v))) = c.in_ok-tag.ensures in
    let size : length tag ≡ 16 = ap length signed ∙ g.met.L.Seal.sixteen b.seal b.place.number (labelled Entry (entry_bytes 2 (entry_in b.window v))) in
    let same : c.number-signer.result ≡ b.place.number = c.number-signer.ensures.0 in
    let one : 1 ≤ v = omega (arith, c.if-version-eq0.false) in
    let room : 20 ≤ length c.args.out.now = omega (arith, c.if-out-lt20.false) in
    let done : c.write_share.result ≡ Ok 20 = c.write_share.ensures.answer
    ∙ share-written c.faults.result c.number-signer.result v (length c.args.out.now) tag one (omega (arith, range.0, b.few))
    (omega (arith, c.number-signer.ensures.1.0, c.faults.ensures)) (omega (arith, c.number-signer.ensures.1.1)) room size in
    record {
      answer = done ∙ sym (out_now b.count v (length c.args.out.now) one range.0 range.1 room);
      bytes = c.write_share.ensures.promised.buffer
          ∙ ap (λ s. filled c.write_share.result (written (share_fields 2 (record { signer = s; version = v; tag = tag }))) c.args.out.now) same
          ∙ ap (λ t. filled c.write_share.result (written (share_fields 2 (record { signer = b.place.number; version = v; tag = t }))) c.args.out.now) signed;
    }
