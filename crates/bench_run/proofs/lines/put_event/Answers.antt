-- `bench_run::lines::put_event` meets its contract: its pieces are poured one behind the other.
use Rattle.text.proofs.PourLaws.{both, then, finish}
use Rattle.bench_run.proofs.PieceLaws.{event-pieces, event-le}
use Rattle.bench_run.proofs.lines.put_event.Goals as goal

pub returns : goal.returns
returns c =
    let a = c.put_number-a.ensures in
    let b = c.put_number-b.ensures in
    let d = c.put_letter-c.ensures in
    let e = c.put_number.ensures in
    let all = then (both a.0 a.1) (then (both b.0 b.1) (then (both d.0 d.1) (both e.0 e.1))) in
    finish all (event-pieces c.args.k c.args.code c.args.letter c.args.sent) 35
    (event-le c.args.k c.args.code c.args.letter c.args.sent)
