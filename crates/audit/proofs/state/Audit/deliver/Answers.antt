use Rattle.audit.proofs.Reporting.{kept-inside}
use Rattle.audit.proofs.state.Audit.deliver.Goals as goal

pub returns : goal.returns
returns g c =
    let a = c.args.self.now in
    record {
      history = λ tag f own h reports st.
          let answer = c.deliver.ensures.history tag f own h st.replay in
          (answer.0, record { replay = answer.1; count = st.count; members = st.members; tracks = st.tracks });
      refused = kept-inside (λ b. record { board = b; reports = a.reports; tracks = a.tracks }) a.board c.deliver.new.self c.deliver.result c.deliver.ensures.refused;
    }
