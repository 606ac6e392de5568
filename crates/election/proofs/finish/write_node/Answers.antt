-- `election::finish::write_node` meets its contract: the part that is lent is u's row.
use Prim.Native.Nat.{ℕ, ◌+◌}
use mathlib.Core.Path.{ap}
use Rattle.tables.proofs.RowsLaws.{changed_row}
use Rattle.election.specs.inner.Deciding.{row_after}
use Rattle.election.proofs.finish.write_node.Goals as goal

pub returns : goal.returns
returns c =
    let a = c.node_start-a in
    let ends = ap (λ (k : ℕ). a.result + k) c.row_width.ensures.0 in
    changed_row _ _ c.args.nodes.now a.ensures.0 ends
    (λ row. row_after row c.args.u c.args.v c.args.d c.args.own) c.write_row.ensures
