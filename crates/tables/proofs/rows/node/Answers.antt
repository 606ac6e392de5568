-- `tables::rows::node` meets its contract: the part that is lent is row u - 1.
use Prim.Native.Nat.{ℕ, ◌+◌}
use mathlib.Core.Path.{ap, ◌∙◌}
use lib.ListN.{length}
use Rattle.tables.proofs.RowsLaws.{part-row, node-length}
use Rattle.tables.proofs.rows.node.Goals as goal

pub returns : goal.returns
returns c = let a = c.node_start-a in
    let same = part-row _ _ _ a.ensures.0 (ap (λ (k : ℕ). a.result + k) c.row_width.ensures.0) in
    (same, ap length same ∙ node-length _ _ c.requires.1 _ c.requires.2)
