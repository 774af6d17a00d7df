use Rattle.std.proofs.Common.{◌≡◌, ℕ, ◌+◌, ◌<◌, List, length, sym, refl, ap, subst, arith, rules}
use Rattle.digest.specs.Meaning.{bytes_by}
use Rattle.promises.proofs.Comparing.{sized}
use Rattle.audit.specs.declared.answers.Judgement.{Judgement}
use Rattle.audit.specs.Auditing.{report_of}
use Rattle.audit.specs.Reports.{Judges}
use Rattle.audit.proofs.Judging.{judges, tells_all}
use Rattle.audit.proofs.Reporting.{represents-more, rightly}
use Rattle.audit.proofs.state.Audit.report.Goals as goal

pub returns : goal.returns
returns g c =
    let dig : List ℕ → List ℕ = bytes_by g.D.Digest.of in
    let a = c.args.self.now in
    let b = c.args.board in
    let count = c.args.mark.count in
    let chain = c.args.mark.chain in
    let below : b < 16 = omega arith in
    let there : b < length a.tracks = search rules in
    record {
      history = λ tag f own h reports st.
          let last = report_of h b count chain in
          let tells = rightly g.S.Store.holds dig g.L.Seal.tag tag f own a h reports st b count chain c.agrees-right.result c.agrees-right.ensures in
          let P : Judgement → Type 0 = λ j. Judges dig j last in
          let judged = subst P (sym c.from.ensures) (judges dig c.agrees-right.result last tells) in
          let numbered : a.reports + 1 ≡ length reports + 1 = ap (λ n. n + 1) st.count in (
            below,
            omega (arith, st.count),
            judged,
            tells_all dig (sized _ g.met.D.Digest.four) c.from.result last judged,
            represents-more g.S.Store.holds dig g.L.Seal.tag tag f own a h reports st b count chain (a.reports + 1) c.noted.result refl below there
                (c.noted.ensures dig b reports last (st.tracks b below) numbered refl tells),
          );
      refused = tt;
    }
