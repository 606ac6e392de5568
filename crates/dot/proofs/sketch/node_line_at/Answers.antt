-- `dot::sketch::node_line_at` meets its contract: the line is written to the front of 32 bytes and compared.
use native.Mathlib.Omega.{arith}
use mathlib.Core.Path.{refl}
use Rattle.dot.specs.Graph.{node_line}
use Rattle.dot.proofs.Pieces.{node-le}
use Rattle.dot.proofs.Walking.{line-fits, front-size, line-there, line-not-there}
use Rattle.dot.proofs.sketch.node_line_at.Goals as goal

pub slice_bounds-line-end : goal.slice_bounds-line-end
slice_bounds-line-end c =
    line-fits _ (node_line c.args.k) _ _ refl c.put_node-size.ensures.0 c.put_node-size.ensures.1
    (omega (arith, node-le c.args.k))

pub slice_bounds-starts_with-end : goal.slice_bounds-starts_with-end
slice_bounds-starts_with-end c =
    let put-node = c.put_node-size in
    front-size _ (node_line c.args.k) _ _ refl put-node.ensures.0 put-node.ensures.1 (omega (arith, node-le c.args.k))

pub returns-then-starts_with : goal.returns-then-starts_with
returns-then-starts_with c =
    let put-node = c.put_node-size in
    line-there _ (node_line c.args.k) _ _ refl put-node.ensures.0 put-node.ensures.1 (omega (arith, node-le c.args.k)) _ _
    c.starts_with.ensures c.if-starts_with.true

pub returns : goal.returns
returns c =
    let put-node = c.put_node-size in
    line-not-there _ (node_line c.args.k) _ _ refl put-node.ensures.0 put-node.ensures.1 (omega (arith, node-le c.args.k)) _ _
    c.starts_with.ensures c.if-starts_with.false
