-- `bench_run::stations::station` meets its contract: the own height's leader and the clock of its row.
use Rattle.text.proofs.PourLaws.{both, finish}
use Rattle.bench_run.proofs.StationLaws.{station-line, line-le}
use Rattle.bench_run.proofs.stations.station.Goals as goal

pub returns : goal.returns
returns c =
    let e = c.put_station.ensures in
    let line = station-line c.args.n c.args.u c.args.nodes.now c.node-row.ensures.0
    c.height_in-own.ensures.0 c.clock.ensures in
    finish (both e.0 e.1) line 33 (line-le c.args.n c.args.nodes.now c.args.u)
