-- `bench_run::plot::plot` meets its contract: room for sixteen nodes is room for n.
use native.Mathlib.Omega.{arith}
use mathlib.Core.Path.{refl, sym}
use lib.Seq.{length-take-le}
use Rattle.tables.proofs.Sizes.{rows-small, cells-small}
use Rattle.bench_run.proofs.PlotLaws.{part-sized}
use Rattle.bench_run.proofs.plot.plot.Goals as goal

pub overflow_mul-a-2 : goal.overflow_mul-a-2
overflow_mul-a-2 c = omega (arith, rows-small c.args.n c.requires.1)

pub overflow_mul-b : goal.overflow_mul-b
overflow_mul-b c = omega (arith, cells-small c.args.n c.requires.1)

pub overflow_mul-b-2 : goal.overflow_mul-b-2
overflow_mul-b-2 c = omega (arith, cells-small c.args.n c.requires.1)

pub slice_bounds-nodes-end : goal.slice_bounds-nodes-end
slice_bounds-nodes-end c =
    omega (arith, rows-small c.args.n c.requires.1)

pub slice_bounds-with_tables-end : goal.slice_bounds-with_tables-end
slice_bounds-with_tables-end c =
    sym (length-take-le _ _ (omega (arith, rows-small c.args.n c.requires.1)))

pub slice_bounds-channels-end : goal.slice_bounds-channels-end
slice_bounds-channels-end c =
    omega (arith, cells-small c.args.n c.requires.1)

pub slice_bounds-with_tables-end-2 : goal.slice_bounds-with_tables-end-2
slice_bounds-with_tables-end-2 c =
    sym (length-take-le _ _ (omega (arith, cells-small c.args.n c.requires.1)))

pub with_tables-requires : goal.with_tables-requires
with_tables-requires c =
    let size = part-sized c.args.n _ _ c.requires.0 c.requires.1 refl refl in
    (size, c.requires.2)
