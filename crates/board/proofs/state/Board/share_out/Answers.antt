use Rattle.std.proofs.Common.{◌≡◌, ℕ, List, length, sym, refl, ap, ◌∙◌}
use Rattle.digest.specs.Meaning.{bytes_by}
use Rattle.window.specs.Windows.{entry_in}
use Rattle.history.specs.Answers.{own_share, share_bytes}
use Rattle.history.specs.Commits.{commits}
use Rattle.history.specs.Entries.{entry_at, sealed_string}
use Rattle.history.specs.Events.{effects, shared_out}
use Rattle.board.specs.Shares.{share_now, share_out_now}
use Rattle.board.proofs.ShareOut.{filled-same, out_range, share-long, share_out_answered, share-same}
use Rattle.board.proofs.Standing.{stands_quiet}
use Rattle.board.proofs.state.Board.share_out.Goals as goal

pub returns : goal.returns
returns g c = record {
  answer = c.put_share.ensures.answer;
  bytes = c.put_share.ensures.bytes;
  history = λ tag f own h st.
      (let b = c.args.self.now in
      let v = c.args.version in
      let old = c.args.out.now in
      let r = c.put_share.result in
      let cs = commits (effects h) in
      let digest : List ℕ → List ℕ = bytes_by g.D.Digest.of in
      let kept : r ≡ share_out_now (length cs) v (length old) = c.put_share.ensures.answer ∙ ap (λ k. share_out_now k v (length old)) st.count in (
        (
          share_out_answered (length cs) v (length old) (length (share_bytes digest tag f own (effects h) v)) r
              (share-long (own_share digest tag f own (effects h) v)
              (ap length (sym (st.seal own (sealed_string digest cs v))) ∙ g.met.L.Seal.sixteen b.seal own (sealed_string digest cs v))) kept,
          c.put_share.ensures.bytes ∙ filled-same r (share_now (g.L.Seal.tag b.seal) b.place.number (entry_in b.window v) v) (share_bytes digest tag f own (effects h) v) old
              (λ n done. (let range = out_range (length cs) v (length old) n (sym kept ∙ done) in
              share-same (g.L.Seal.tag b.seal) tag b.place.number own (entry_in b.window v) (entry_at digest cs v) v st.seal st.number (st.window v range.0 range.1 range.2).entry)),
        ),
        stands_quiet g.S.Store.holds digest g.L.Seal.tag tag f own b h (shared_out v old c.put_share.new.out r) refl st,
      ));
}
