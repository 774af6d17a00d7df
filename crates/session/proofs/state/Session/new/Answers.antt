use Rattle.std.proofs.Common.{◌+◌, [], refl, arith}
use Rattle.std.proofs.lemmas.Bool.{lt-leb}
use Rattle.session.specs.Replies.{agreeing}
use Rattle.cluster_size.specs.Sizes.{members}
use Rattle.session.proofs.Counting.{count-never}
use Rattle.session.proofs.Deciding.{hears_none}
use Rattle.session.proofs.state.Session.new.Goals as goal

pub returns : goal.returns
returns c =
    let f = c.args.size.f in
    record {
      faults = refl;
      formed = tt;
      stands = (λ v k. lt-leb (f + 1) (agreeing f [] v k) (omega (arith, count-never (members f))), hears_none c.new.result c.new.ensures);
    }
