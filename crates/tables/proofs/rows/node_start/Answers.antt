-- `tables::rows::node_start` meets its contract: rows are as wide as `row_width` says.
use Prim.Native.Nat.{◌-◌}
use Rattle.tables.proofs.RowsLaws.{start-of-width}
use Rattle.tables.proofs.rows.node_start.Goals as goal

pub returns : goal.returns
returns c = start-of-width (c.args.u - 1) c.args.n c.row_width.ensures.0 c.start.ensures
