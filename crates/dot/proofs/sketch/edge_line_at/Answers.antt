-- `dot::sketch::edge_line_at` meets its contract: the numbers first, then the line is written and compared.
use native.Mathlib.Omega.{arith}
use mathlib.Core.Path.{refl}
use borrow.Author.Rules.{rules}
use Rattle.dot.specs.Graph.{dash, edge_line}
use Rattle.dot.proofs.Pieces.{edge-le}
use Rattle.dot.proofs.Walking.{line-fits, front-size, line-there, line-not-there, edge-unfit, edge-fit}
use Rattle.dot.proofs.sketch.edge_line_at.Goals as goal

pub returns-then-not-e : goal.returns-then-not-e
returns-then-not-e c = edge-unfit _ _ c.edge_at-e.ensures (search rules)

pub slice_bounds-line-end : goal.slice_bounds-line-end
slice_bounds-line-end c =
    let edge_at = c.edge_at-e in
    line-fits _ (edge_line dash edge_at.result) _ _ refl c.put_edge-size.ensures.0 c.put_edge-size.ensures.1
    (omega (arith, edge-le dash edge_at.result))

pub slice_bounds-starts_with-end : goal.slice_bounds-starts_with-end
slice_bounds-starts_with-end c =
    let put-edge = c.put_edge-size in
    let edge_at = c.edge_at-e in
    front-size _ (edge_line dash edge_at.result) _ _ refl put-edge.ensures.0 put-edge.ensures.1
    (omega (arith, edge-le dash edge_at.result))

pub returns-then-starts_with : goal.returns-then-starts_with
returns-then-starts_with c =
    let put-edge = c.put_edge-size in
    let edge_at = c.edge_at-e in
    edge-fit _ _ edge_at.ensures (search rules) _
    (line-there _ (edge_line dash edge_at.result) _ _ refl put-edge.ensures.0 put-edge.ensures.1
    (omega (arith, edge-le dash edge_at.result)) _ _ c.starts_with.ensures c.if-starts_with.true)

pub returns : goal.returns
returns c =
    let put-edge = c.put_edge-size in
    let edge_at = c.edge_at-e in
    edge-fit _ _ edge_at.ensures (search rules) _
    (line-not-there _ (edge_line dash edge_at.result) _ _ refl put-edge.ensures.0 put-edge.ensures.1
    (omega (arith, edge-le dash edge_at.result)) _ _ c.starts_with.ensures c.if-starts_with.false)
