use Rattle.std.proofs.Common.{ℕ, map, ap}
use Rattle.std.proofs.lemmas.Bool.{both_ways}
use Rattle.digest.specs.Meaning.{bytes_by}
use Rattle.request.specs.Bodies.{ReadBody}
use Rattle.request.specs.Requests.{held}
use Rattle.board.specs.Delivering.{Agrees, read_said}
use Rattle.board.proofs.DeliverLoops.{all_reads, reads_to_come, scan_ends, scan_fails, scan-more, scan_starts}
use Rattle.board.proofs.state.Board.judge.Goals as goal

pub loop-read-init : goal.loop-read-init
loop-read-init g c =
    let P : ReadBody → Type 0 = Agrees (bytes_by g.D.Digest.of) (g.S.Store.holds c.args.self.now.store) in
    scan_starts P (held c.args.request).reads (reads_to_come c.into_iter-read-iterator.result)
    (all_reads c.args.request c.into_iter-read-iterator.result c.reads-read-items.result c.requires.each_read c.into_iter-read-iterator.ensures.into_iter_gives c.reads-read-items.ensures.all)

pub returns-then-not-agrees : goal.returns-then-not-agrees
returns-then-not-agrees g c =
    let P : ReadBody → Type 0 = Agrees (bytes_by g.D.Digest.of) (g.S.Store.holds c.args.self.now.store) in
    scan_fails P (held c.args.request).reads (reads_to_come c.loop-read.read-iterator) (reads_to_come c.next.new.self) (read_said c.in-Some.read)
    (ap (map (λ (v : ReadBody × ℕ). v.0)) c.in-Some.ensures.steps) c.loop-read.invariant
    (λ ok. both_ways c.agrees.result c.if-not-agrees.true (c.agrees.ensures.1 ok))

pub loop-read-preserved : goal.loop-read-preserved
loop-read-preserved g c =
    let P : ReadBody → Type 0 = Agrees (bytes_by g.D.Digest.of) (g.S.Store.holds c.args.self.now.store) in
    scan-more P (held c.args.request).reads (reads_to_come c.loop-read.read-iterator) (reads_to_come c.next.new.self) (read_said c.in-Some.read)
    (ap (map (λ (v : ReadBody × ℕ). v.0)) c.in-Some.ensures.steps) c.loop-read.invariant (c.agrees.ensures.0 c.if-not-agrees.false)

pub returns : goal.returns
returns g c =
    let P : ReadBody → Type 0 = Agrees (bytes_by g.D.Digest.of) (g.S.Store.holds c.args.self.now.store) in
    scan_ends P (held c.args.request).reads (reads_to_come c.loop-read.read-iterator) (ap (map (λ (v : ReadBody × ℕ). v.0)) c.in-None.ensures.steps.0) c.loop-read.invariant
