use Rattle.std.proofs.Common.{arith}
use Rattle.entry.specs.Bodies.{entry_body, entry_bytes}
use Rattle.board.proofs.Bodies.{body_front}
use Rattle.board.proofs.state.shares.put_body.Goals as goal

pub returns : goal.returns
returns c = record {
  bound = c.body_length-n.ensures.1;
  body = body_front (entry_bytes 2 (entry_body c.args.entry)) c.args.out.now c.write_body-written.new.out c.write_body-written.result
      c.body_length-n.result c.body_length-n.ensures.0 (omega (arith, c.body_length-n.ensures.1, c.requires)) c.write_body-written.ensures;
}
