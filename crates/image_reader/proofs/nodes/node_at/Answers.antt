-- `image_reader::nodes::node_at` meets its contract: 1, or on.
use Rattle.image_reader.proofs.RecordLaws.{node-sizes, node-sized}
use Rattle.image_reader.proofs.nodes.node_at.Goals as goal

pub returns-then-n-row : goal.returns-then-n-row
returns-then-n-row c = node-sizes _ _ _ _ c.if-n-row.true

pub returns : goal.returns
returns c = node-sized _ _ _ _ c.if-n-row.false c.inside_at.ensures
