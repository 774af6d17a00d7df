use Rattle.std.proofs.Common.{ℕ, List, refl, ap, ◌∙◌}
use Rattle.digest.specs.Meaning.{bytes_by}
use Rattle.history.specs.Entries.{chain_string}
use Rattle.board.proofs.state.Board.commit.Goals as goal

pub returns : goal.returns
returns g c =
    let dig : List ℕ → List ℕ = bytes_by g.D.Digest.of in
    record {
      version = refl;
      commits = record {
        place = refl;
        seal = refl;
        clients = refl;
        count = refl;
        chain = c.next_chain-chain.ensures ∙ ap (λ e. dig (chain_string dig c.args.self.now.chain e)) c.make_entry-entry.ensures;
        items = c.install_all.ensures;
        entry = c.make_entry-entry.result;
        window = c.keep.ensures;
        body = c.make_entry-entry.ensures;
      };
    }
