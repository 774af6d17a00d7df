use Rattle.std.proofs.Common.{◌<◌, length, rules}
use Rattle.numbers.proofs.Apart.{all_untouched, all_uses, others-kept}
use Rattle.numbers.proofs.clients.Clients.use_up.Goals as goal

pub returns : goal.returns
returns c =
    let below = c.if-client-ge-CLIENTS.false in
    let there : c.args.client < length c.args.self.now.numbers = search rules in
    record {
      used = λ used tr. all_uses c.args.self.now c.args.client c.use_up.new.self 2 c.args.s below there used tr c.use_up.result
          (c.use_up.ensures.used (used c.args.client) (tr c.args.client below));
      kept = all_untouched c.args.self.now c.args.client c.use_up.new.self c.use_up.result c.use_up.ensures.kept;
      others = others-kept c.args.self.now c.args.client c.use_up.new.self;
    }
