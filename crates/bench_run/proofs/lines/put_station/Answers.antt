-- `bench_run::lines::put_station` meets its contract: its pieces are poured one behind the other.
use Rattle.text.proofs.PourLaws.{both, then, finish}
use Rattle.bench_run.proofs.PieceLaws.{station-pieces, station-le}
use Rattle.bench_run.proofs.lines.put_station.Goals as goal

pub returns : goal.returns
returns c =
    let a = c.put_number-a.ensures in
    let b = c.put_number-b.ensures in
    let d = c.put_number.ensures in
    let all = then (both a.0 a.1) (then (both b.0 b.1) (both d.0 d.1)) in
    finish all (station-pieces c.args.u c.args.leader c.args.clock) 33 (station-le c.args.u c.args.leader c.args.clock)
