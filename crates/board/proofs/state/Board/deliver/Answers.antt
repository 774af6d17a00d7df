use Rattle.std.proofs.Common.{ℕ, ◌+◌, ◌<◌, ◌≤◌, List, Err, sym, refl, ap, ◌∙◌, arith}
use Rattle.std.proofs.lemmas.Result.{err_from_is_err_and}
use Rattle.std.proofs.lemmas.Bool.{both_ways}
use Rattle.decision.specs.declared.Decision.TheVariants.{Abort, Commit}
use Rattle.digest.specs.Meaning.{bytes_by}
use Rattle.request.specs.Requests.{held}
use Rattle.history.specs.Clients.{used}
use Rattle.history.specs.Events.{effects}
use Rattle.board.proofs.DeliverAnswers.{aborts, all_agree, all_pass, checked_open, commit-made, delivers, left_alone, refusal, refuses, unread}
use Rattle.board.proofs.DeliverShapes.{items-read, shaped, write-set}
use Rattle.board.proofs.Sets.{sets_refused, sets_verdict}
use Rattle.board.proofs.state.Board.deliver.Goals as goal

pub check-requires : goal.check-requires
check-requires g c = shaped c.args.frame.now c.in_ok-request.request c.in_ok-request.ensures.promised c.in_ok-request.ensures.found

pub judge-pass-requires : goal.judge-pass-requires
judge-pass-requires g c = shaped c.args.frame.now c.in_ok-request.request c.in_ok-request.ensures.promised c.in_ok-request.ensures.found

pub commit-version-requires : goal.commit-version-requires
commit-version-requires g c =
    (shaped c.args.frame.now c.in_ok-request.request c.in_ok-request.ensures.promised c.in_ok-request.ensures.found, c.in_ok-check.ensures.room)

pub returns-in_err-request : goal.returns-in_err-request
returns-in_err-request g c =
    let dig : List ℕ → List ℕ = bytes_by g.D.Digest.of in
    let p = err_from_is_err_and c.from_residual.result c.from_residual.ensures.1 in
    let is = p.1 ∙ ap Err p.2 in
    record {
      history = λ tag f own h st.
          refusal g.S.Store.holds dig g.L.Seal.tag tag f own c.args.self.now h st c.args.frame.now c.from_residual.result _ is
          (unread g.S.Store.holds dig g.L.Seal.tag tag f own c.args.self.now h st c.args.frame.now _ c.in_err-request.ensures.answer);
      sets = λ h sets. sets_refused h c.args.frame.now c.from_residual.result _ is sets;
      refused = left_alone c.args.self.now c.from_residual.result _ is;
    }

pub returns-in_err-check : goal.returns-in_err-check
returns-in_err-check g c =
    let dig : List ℕ → List ℕ = bytes_by g.D.Digest.of in
    let p = err_from_is_err_and c.from_residual-in_err-check.result c.from_residual-in_err-check.ensures.1 in
    let is = p.1 ∙ ap Err p.2 in
    let r = c.in_ok-request.request in
    let a = c.in_ok-request.ensures in
    record {
      history = λ tag f own h st.
          refusal g.S.Store.holds dig g.L.Seal.tag tag f own c.args.self.now h st c.args.frame.now c.from_residual-in_err-check.result _ is
          (refuses g.S.Store.holds dig g.L.Seal.tag tag f own c.args.self.now h st c.args.frame.now (held r) (sym a.answer) (Unit {0}) _ r.frame.now a.found.frame
          (c.in_err-check.ensures.refuses (λ k. used k (effects h)) st.clients));
      sets = λ h sets. sets_refused h c.args.frame.now c.from_residual-in_err-check.result _ is sets;
      refused = left_alone c.args.self.now c.from_residual-in_err-check.result _ is;
    }

pub returns-in_default : goal.returns-in_default
returns-in_default g c =
    let r = c.in_ok-request.request in
    let a = c.in_ok-request.ensures in
    let shape = shaped c.args.frame.now r a.promised a.found in
    let client : r.plan.top.client ≤ 15 = shape.client in
    let member : r.plan.top.client < 16 = omega arith in
    record {
      history = λ tag f own h st.
          absurd (checked_open (g.L.Seal.tag c.args.self.now.seal) (used r.plan.top.client (effects h)) c.args.self.now.count r.frame.now (held r) c.in_ok-check.field-0
          (c.in_ok-check.ensures.refuses (λ k. used k (effects h)) st.clients)
          (λ open'. (c.in_default.ensures.used (λ k. used k (effects h)) st.clients).0 member open'));
      sets = λ h sets. sets_refused h c.args.frame.now _ _ refl sets;
      refused = refl;
    }

pub returns-then-not-pass : goal.returns-then-not-pass
returns-then-not-pass g c =
    let dig : List ℕ → List ℕ = bytes_by g.D.Digest.of in
    let r = c.in_ok-request.request in
    let a = c.in_ok-request.ensures in
    record {
      history = λ tag f own h st.
          let up = c.in-Ok.ensures.used (λ k. used k (effects h)) st.clients in (
            delivers g.S.Store.holds dig g.L.Seal.tag tag f own c.args.self.now h st c.args.frame.now (held r) (sym a.answer) (Unit {0})
                (record { decision = Abort; opened = c.in-Ok.opened }) c.in_ok-check.field-0 r.frame.now a.found.frame
                (c.in_ok-check.ensures.refuses (λ k. used k (effects h)) st.clients)
                (λ all. both_ways c.judge-pass.result c.if-not-pass.true (c.judge-pass.ensures.1 (all_agree g.S.Store.holds dig g.L.Seal.tag tag f own c.args.self.now h st c.args.frame.now (held r) (sym a.answer) (items-read c.args.frame.now r a.promised) all)), up.2),
            aborts g.S.Store.holds dig g.L.Seal.tag tag f own c.args.self.now h st c.args.frame.now (held r) (sym a.answer) _ c.in-Ok.opened refl refl refl refl refl refl up.3,
          );
      sets = λ h sets. sets_verdict h c.args.frame.now (held r) Abort c.in-Ok.opened (sym a.answer) (write-set c.args.frame.now r a.promised) sets;
      refused = tt;
    }

pub returns : goal.returns
returns g c =
    let dig : List ℕ → List ℕ = bytes_by g.D.Digest.of in
    let r = c.in_ok-request.request in
    let a = c.in_ok-request.ensures in
    record {
      history = λ tag f own h st.
          let up = c.in-Ok.ensures.used (λ k. used k (effects h)) st.clients in (
            delivers g.S.Store.holds dig g.L.Seal.tag tag f own c.args.self.now h st c.args.frame.now (held r) (sym a.answer) (Unit {0})
                (record { decision = Commit c.commit-version.result; opened = c.in-Ok.opened }) c.in_ok-check.field-0 r.frame.now a.found.frame
                (c.in_ok-check.ensures.refuses (λ k. used k (effects h)) st.clients)
                ((all_pass g.S.Store.holds dig g.L.Seal.tag tag f own c.args.self.now h st c.args.frame.now (held r) (sym a.answer) (c.judge-pass.ensures.0 c.if-not-pass.false), c.commit-version.ensures.version ∙ ap (λ n. n + 1) st.count), up.2),
            commit-made g.S.Store.holds dig g.L.Seal.tag tag f own c.args.self.now h st c.args.frame.now (held r) (sym a.answer) _ _ c.commit-version.result c.in-Ok.opened c.commit-version.ensures.commits refl refl refl refl refl refl up.3,
          );
      sets = λ h sets. sets_verdict h c.args.frame.now (held r) (Commit c.commit-version.result) c.in-Ok.opened (sym a.answer) (write-set c.args.frame.now r a.promised) sets;
      refused = tt;
    }
