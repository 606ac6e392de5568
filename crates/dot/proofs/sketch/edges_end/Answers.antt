use native.Mathlib.Omega.{arith}
use Rattle.dot.proofs.Walking.{edges-start, edges-over, edges-ended, edge-inside, edges-next}
use Rattle.dot.proofs.sketch.edges_end.Goals as goal

pub loop-end-init : goal.loop-end-init
loop-end-init c = edges-start _ _ c.requires

pub edge_line_at-size-requires : goal.edge_line_at-size-requires
edge_line_at-size-requires c = c.loop-end.invariant.inside

pub returns-then-size-eq0 : goal.returns-then-size-eq0
returns-then-size-eq0 c = edges-ended _ _ _ c.loop-end.invariant _ c.edge_line_at-size.ensures c.if-size-eq0.true

pub overflow_add-end : goal.overflow_add-end
overflow_add-end c = omega (arith, edge-inside _ _ _ c.loop-end.invariant _ c.edge_line_at-size.ensures)

pub loop-end-smaller : goal.loop-end-smaller
loop-end-smaller c = omega (arith, c.if-size-eq0.false, c.loop-end-test.true)

pub loop-end-preserved : goal.loop-end-preserved
loop-end-preserved c = edges-next _ _ _ c.loop-end.invariant _ c.edge_line_at-size.ensures c.if-size-eq0.false

pub returns : goal.returns
returns c = edges-over _ _ _ c.loop-end.invariant c.loop-end-test.false
