use Rattle.std.proofs.Common.{subst}
use Rattle.decision.specs.Decisions.{verdict_of}
use Rattle.session.specs.Replies.{stated}
use Rattle.session.specs.Standing.{Stands}
use Rattle.session.proofs.Agreeing.{agree_from, agree_not, honest}
use Rattle.session.proofs.state.Session.outcome.Goals as goal

pub returns-in-Waiting : goal.returns-in-Waiting
returns-in-Waiting c f rs st =
    let stands = subst (Stands f rs) c.in-Waiting.is st.stands in
    (λ v k. agree_not f rs v k st.formed (stands.0 v k), tt)

pub returns-in-Decided : goal.returns-in-Decided
returns-in-Decided c f rs st =
    let d = c.in-Decided.decision in
    let agree = subst (Stands f rs) c.in-Decided.is st.stands in
    (agree_from f rs (verdict_of d) (stated d) agree, honest f rs d agree)
