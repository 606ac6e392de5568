-- `drawing::writing::write` meets its contract: head, nodes, arrows and foot are poured one behind the other.
use native.Mathlib.Nat.{zero-add}
use native.Mathlib.Omega.{arith}
use mathlib.Core.Path.{◌∙◌}
use Rattle.lent.proofs.CheckLaws.{sound-sized}
use Rattle.tables.specs.Load.{load}
use Rattle.tables.specs.Tables.{tables}
use Rattle.text.proofs.PourLaws.{both, then, named-so}
use Rattle.drawing.proofs.Pours.{nodes-le, arrows-le, drawing-parts}
use Rattle.drawing.proofs.writing.write.Goals as goal

pub put_nodes-b-requires : goal.put_nodes-b-requires
put_nodes-b-requires c =
    let put-digraph-head = c.put_digraph_head-a in
    let few = (sound-sized _ _ c.args.plot.passed).few in
    (omega (arith, few), omega (arith, put-digraph-head.ensures.1))

pub put_arrows-c-requires : goal.put_arrows-c-requires
put_arrows-c-requires c =
    let put-nodes = c.put_nodes-b in
    let put-digraph-head = c.put_digraph_head-a in
    let few = (sound-sized _ _ c.args.plot.passed).few in omega (arith, put-digraph-head.ensures.1, put-nodes.ensures.1, nodes-le c.args.plot.n few)

pub put_foot-requires : goal.put_foot-requires
put_foot-requires c =
    let put-arrows = c.put_arrows-c in
    let put-nodes = c.put_nodes-b in
    let put-digraph-head = c.put_digraph_head-a in
    let few = (sound-sized _ _ c.args.plot.passed).few in
    let short = arrows-le c.args.plot.n (load c.args.plot.n (tables c.args.plot.nodes.now c.args.plot.channels.now)) few in
    omega (arith, put-digraph-head.ensures.1, put-nodes.ensures.1, put-arrows.ensures.1, nodes-le c.args.plot.n few, short)

pub returns : goal.returns
returns c =
    let put-foot = c.put_foot in
    let put-arrows = c.put_arrows-c in
    let put-nodes = c.put_nodes-b in
    let put-digraph-head = c.put_digraph_head-a in
    let a = put-digraph-head.ensures in
    let b = put-nodes.ensures in
    let d = put-arrows.ensures in
    let e = put-foot.ensures in
    let all = named-so (then (both a.0 a.1) (then (both b.0 b.1) (then (both d.0 d.1) (both e.0 e.1)))) (drawing-parts _ _) in
    (all.0, all.1 ∙ zero-add _)
