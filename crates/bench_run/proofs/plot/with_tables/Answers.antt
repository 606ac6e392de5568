-- `bench_run::plot::with_tables` meets its contract: fresh tables, then the four parts of the listing.
use native.Mathlib.Omega.{arith}
use mathlib.Core.Path.{◌∙◌}
use Rattle.lent.proofs.FilledLaws.{made-fresh}
use Rattle.bench_run.proofs.PlotLaws.{plot-done}
use Rattle.text.proofs.PourLaws.{both}
use Rattle.bench_run.proofs.plot.with_tables.Goals as goal

pub stations-requires : goal.stations-requires
stations-requires c =
    let wide = c.lines-b.auto.nodes ∙ (c.fresh.auto.nodes ∙ c.requires.0.nodes) in
    (c.requires.0.few, wide, omega (arith, c.put_station_head-c.ensures.1, c.lines-b.ensures.2))

pub returns : goal.returns
returns c =
    let start = made-fresh _ _ c.requires.0 c.fresh.ensures in
    let a = c.put_event_head-a.ensures in
    let e = c.lines-b.ensures in
    let h = c.put_station_head-c.ensures in
    let t = c.stations.ensures in
    plot-done _ c.requires.0.low c.requires.0.few _ start (both a.0 a.1) (both e.0 e.1) (both h.0 h.1) _ _ e.3 (both t.0 t.1)
