-- `dot::sketch::edge_at` meets its contract: the two numbers where they stand in an edge line.
use Rattle.dot.proofs.Reading.{edge-is}
use Rattle.dot.proofs.sketch.edge_at.Goals as goal

pub returns : goal.returns
returns c =
    let number_at = c.number_at-first in
    edge-is c.args.text.now c.args.at _ _ _ number_at.ensures c.digits_at-k.ensures.0 c.number_at-second.ensures
