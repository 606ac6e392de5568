use native.Mathlib.Omega.{arith}
use Rattle.dot.proofs.Walking.{nodes-start, nodes-full, nodes-ended, node-inside, nodes-next}
use Rattle.dot.proofs.sketch.nodes_from.Goals as goal

pub loop-k-init : goal.loop-k-init
loop-k-init c = nodes-start _ _ c.requires

pub node_line_at-size-requires : goal.node_line_at-size-requires
node_line_at-size-requires c = c.loop-k.invariant.inside

pub overflow_sub-result : goal.overflow_sub-result
overflow_sub-result c = c.loop-k.invariant.low

pub returns-then-size-eq0 : goal.returns-then-size-eq0
returns-then-size-eq0 c =
    let loop-test = c.loop-k-test in
    let loop = c.loop-k in
    nodes-ended _ _ _ _ loop.invariant (omega (arith, loop-test.true)) _ c.node_line_at-size.ensures c.if-size-eq0.true

pub overflow_add-end : goal.overflow_add-end
overflow_add-end c =
    let loop-test = c.loop-k-test in
    let loop = c.loop-k in
    omega (arith, node-inside _ _ _ _ loop.invariant (omega (arith, loop-test.true)) _ c.node_line_at-size.ensures)

pub loop-k-preserved : goal.loop-k-preserved
loop-k-preserved c =
    let loop-test = c.loop-k-test in
    let loop = c.loop-k in
    nodes-next _ _ _ _ loop.invariant (omega (arith, loop-test.true)) _ c.node_line_at-size.ensures c.if-size-eq0.false

pub returns : goal.returns
returns c = nodes-full _ _ _ _ c.loop-k.invariant (omega (arith, c.loop-k-test.false))
