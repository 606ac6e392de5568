use native.Mathlib.Omega.{arith}
use mathlib.Core.Path.{ap, ◌∙◌}
use lib.ListN.{length}
use Rattle.protocol.specs.Network.{Node}
use Rattle.text.proofs.TextLaws.{length-poured}
use Rattle.bench_run.specs.inner.OnTables.{station_lines_on}
use Rattle.text.proofs.PourLaws.{both, printed-none, printed-next, printed-near, printed-all}
use Rattle.bench_run.proofs.StationLaws.{line-le}
use Rattle.bench_run.proofs.stations.stations.Goals as goal

pub loop-u-init : goal.loop-u-init
loop-u-init c = printed-none _ _ _ _

pub station-offset-requires : goal.station-offset-requires
station-offset-requires c =
    let l = c.loop-u in
    let node : Node c.args.n l.u = record { low = l.invariant.low; high = omega (arith, c.loop-u-test.true) } in
    (c.requires.0, node, c.requires.1, omega (arith, printed-near l.invariant 33 (line-le c.args.n c.args.nodes.now), c.loop-u-test.true, c.requires.0, c.requires.2))

pub loop-u-preserved : goal.loop-u-preserved
loop-u-preserved c =
    let l = c.loop-u in
    let e = c.station-offset.ensures in
    printed-next _ _ _ _ _ _ _ _ l.u l.invariant (omega (arith, c.loop-u-test.true)) (both e.0 e.1)

pub shape_of-out : goal.shape_of-out
shape_of-out c = ap length c.loop-u.invariant.so_far.bytes ∙ length-poured _ _ _

pub returns : goal.returns
unfolding station_lines_on
returns c = printed-all _ _ _ _ _ _ c.loop-u.u c.loop-u.invariant (omega arith)
