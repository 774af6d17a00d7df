use Rattle.std.proofs.Common.{ℕ, ◌<◌, ◌≤◌, List, arith}
use Rattle.digest.specs.Meaning.{bytes_by}
use Rattle.promises.proofs.Comparing.{sized}
use Rattle.audit.specs.Reports.{WrongMark}
use Rattle.audit.proofs.Judging.{parts}
use Rattle.audit.proofs.Reporting.{no_stranger}
use Rattle.audit.proofs.state.Audit.departure.Goals as goal

pub returns-then-at-ge-BOARDS : goal.returns-then-at-ge-BOARDS
returns-then-at-ge-BOARDS g c =
    let dig : List ℕ → List ℕ = bytes_by g.D.Digest.of in
    let high : 16 ≤ c.args.board = omega arith in
    record {
      reports = λ tag f own h reports st k at. no_stranger (WrongMark dig) reports c.args.board k st.members high at;
      commits = λ tag f own h reports st. tt;
    }

pub returns : goal.returns
returns g c =
    let dig : List ℕ → List ℕ = bytes_by g.D.Digest.of in
    let b = c.args.board in
    let below : b < 16 = omega arith in
    record {
      reports = λ tag f own h reports st. c.departure.ensures dig b reports (st.tracks b below);
      commits = λ tag f own h reports st. parts dig (sized _ g.met.D.Digest.four) reports b c.departure.result (c.departure.ensures dig b reports (st.tracks b below));
    }
