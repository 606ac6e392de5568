use native.Mathlib.Omega.{arith}
use Rattle.drawing.proofs.Walks.{link_start, line-inside, link-done, link-next, kept-nodes, kept-channels}
use Rattle.drawing.proofs.linking.link_all.Goals as goal

pub loop-at-init : goal.loop-at-init
loop-at-init c =
    link_start _ _ _ _ c.requires.2 c.requires.3

pub overflow_sub-text : goal.overflow_sub-text
overflow_sub-text c = c.loop-at.invariant.ahead.inside

pub edge_at-e-requires : goal.edge_at-e-requires
edge_at-e-requires c = c.loop-at.invariant.ahead.inside

pub overflow_add-at : goal.overflow_add-at
overflow_add-at c =
    let edge_at = c.edge_at-e in
    let loop-test = c.loop-at-test in
    let loop = c.loop-at in
    omega (arith, (line-inside _ _ _ loop.invariant.ahead loop-test.true _ edge_at.ensures _ c.edge_size-at.ensures).0)

pub loop-at-smaller : goal.loop-at-smaller
loop-at-smaller c =
    let edge_at = c.edge_at-e in
    let loop-test = c.loop-at-test in
    let loop = c.loop-at in
    omega (arith, line-inside _ _ _ loop.invariant.ahead loop-test.true _ edge_at.ensures _ c.edge_size-at.ensures, loop-test.true)

pub loop-at-preserved : goal.loop-at-preserved
loop-at-preserved c =
    let link = c.link in
    let edge_at = c.edge_at-e in
    let loop-test = c.loop-at-test in
    let loop = c.loop-at in
    link-next _ c.requires.0 c.requires.1 _ _ _ loop.invariant loop-test.true _ edge_at.ensures _ link.ensures _ c.edge_size-at.ensures

pub shape_of-nodes : goal.shape_of-nodes
shape_of-nodes c =
    kept-nodes _ c.requires.0 c.requires.1 _ _ _ c.loop-at.invariant _ c.requires.3

pub shape_of-channels : goal.shape_of-channels
shape_of-channels c =
    kept-channels _ c.requires.0 c.requires.1 _ _ _ c.loop-at.invariant _ c.requires.3

pub returns : goal.returns
returns c =
    link-done _ c.requires.0 c.requires.1 _ _ _ c.loop-at.invariant c.loop-at-test.false
