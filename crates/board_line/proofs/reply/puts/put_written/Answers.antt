use Rattle.std.proofs.Common.{ℕ, ◌≤◌, take, drop, Result, sym, ap, ◌∙◌, subst, arith}
use Rattle.fault.specs.declared.Fault.{Fault}
use Rattle.lines.specs.Replies.{reply}
use Rattle.board_line.proofs.Written.{Few, behind}
use Rattle.board_line.proofs.reply.puts.put_written.Goals as goal

pub returns-in-Ok : goal.returns-in-Ok
returns-in-Ok c =
    let P : Result ℕ Fault → Type 0 = Few 11813 in
    let within : c.in-Ok.n ≤ 11813 = subst P c.in-Ok.is c.requires in
    record {
      bound = omega arith;
      front = behind c.args.out.now c.in-Ok.n (omega arith) ∙ ap (reply (λ n. take n (drop 1 c.args.out.now))) (sym c.in-Ok.is);
    }
