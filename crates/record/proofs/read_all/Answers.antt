use Rattle.std.proofs.Common.{◌≡◌, ◌<◌, length, ◌++◌, ◌∷◌, [], sym, ◌∙◌, arith, rules, ap, ◌+◌}
use Rattle.std.proofs.lemmas.List.{length-append}
use Rattle.std.proofs.lemmas.Result.{err_from_is_err_and}
use Rattle.record.specs.Runs.{run}
use Rattle.record.proofs.Runs.{turn, stop, end, run_fits}
use Rattle.inline_vec.specs.Lists.{items}
use Rattle.record.proofs.read_all.Goals as goal

pub returns-in_err-mark-clause-all : goal.returns-in_err-mark-clause-all
returns-in_err-mark-clause-all g c =
    let t = g.R.Record in
    let p = err_from_is_err_and c.from_residual.result c.from_residual.ensures.1 in
    rw (p.1, p.2) (sym (stop t.stands t.ends c.args.frame.now _ _ _ _ _ c.loop-test.true (sym c.in_err-mark.ensures)) ∙ c.loop.invariant.3 ∙ ap (λ n. run t.stands t.ends c.args.frame.now n c.args.start) c.min-most.ensures)

pub returns-in_err-mark-clause-whole : goal.returns-in_err-mark-clause-whole
returns-in_err-mark-clause-whole g c = λ few. returns-in_err-mark-clause-all g c ∙ run_fits g.R.Record.stands g.R.Record.ends c.args.frame.now c.args.count g.row.N c.args.start few

pub loop-preserved : goal.loop-preserved
loop-preserved g c =
    let t = g.R.Record in
    let got = sym c.in_ok-mark.ensures in
    let wide = g.met.R.Record.narrow _ _ _ got in
    let so = c.loop.invariant.2 in
    let room : length (items c.loop.marks) < g.row.N = omega arith in
    let pushed : items c.push.new.self ≡ items c.loop.marks ++ c.in_ok-mark.mark ∷ [] = search (rules, c.push.ensures.ok, c.push.ensures.variant, room) in (
      omega (arith, wide, c.end-at.ensures),
      omega (arith, wide, c.end-at.ensures),
      ap length pushed ∙ length-append (items c.loop.marks) (c.in_ok-mark.mark ∷ []) ∙ ap (λ n. n + 1) so,
      rw (pushed, c.end-at.ensures) (turn t.stands t.ends c.args.frame.now _ _ _ _ _ c.loop-test.true got ∙ c.loop.invariant.3),
    )

pub returns-clause-all : goal.returns-clause-all
returns-clause-all g c =
    let t = g.R.Record in
    sym (end t.stands t.ends c.args.frame.now _ _ _ _ c.loop-test.false) ∙ c.loop.invariant.3 ∙ ap (λ n. run t.stands t.ends c.args.frame.now n c.args.start) c.min-most.ensures
