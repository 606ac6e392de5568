use native.Mathlib.Omega.{arith}
use mathlib.Core.Path.{ap, ◌∙◌}
use lib.ListN.{length}
use Rattle.dot.proofs.Pieces.{node-le}
use Rattle.text.proofs.PourLaws.{both, printed-none, printed-next, printed-near, printed-all}
use Rattle.text.proofs.TextLaws.{length-poured}
use Rattle.drawing.proofs.writing.put_nodes.Goals as goal

pub loop-k-init : goal.loop-k-init
loop-k-init c = printed-none _ _ _ _

pub put_node-offset-requires : goal.put_node-offset-requires
put_node-offset-requires c =
    omega (arith, printed-near c.loop-k.invariant 14 node-le, c.loop-k-test.true, c.requires.0, c.requires.1)

pub loop-k-preserved : goal.loop-k-preserved
loop-k-preserved c =
    let put-node = c.put_node-offset in
    let loop-test = c.loop-k-test in
    let l = c.loop-k in
    printed-next _ _ _ _ _ _ _ _ l.k l.invariant (omega (arith, loop-test.true)) (both put-node.ensures.0 put-node.ensures.1)

pub shape_of-out : goal.shape_of-out
shape_of-out c = ap length c.loop-k.invariant.so_far.bytes ∙ length-poured _ _ _

pub returns : goal.returns
returns c = printed-all _ _ _ _ _ _ c.loop-k.k c.loop-k.invariant (omega (arith, c.loop-k-test.false))
