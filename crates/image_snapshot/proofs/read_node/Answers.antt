-- `image_snapshot::read_node` meets its contract: 10 or 11 by the header, or the node behind it.
use mathlib.Core.Path.{◌∙◌}
use Rattle.image_snapshot.proofs.LookLaws.{node-refused, node-headed}
use Rattle.image_snapshot.proofs.RestoreLaws.{refused, good-fields}
use Rattle.image_snapshot.proofs.read_node.Goals as goal

pub returns-in_default : goal.returns-in_default
returns-in_default c = node-refused _ _ _ _ c.decode-header.ensures (refused c.in_default.is) c.turned_away.ensures

pub headed-requires : goal.headed-requires
headed-requires c =
    let g = good-fields _ (rw c.in-Ok.is at c.decode-header.ensures) in
    (g.length-is, g.low, g.few)

pub returns : goal.returns
returns c = c.headed.ensures ∙ node-headed _ _ _ _ (rw c.in-Ok.is at c.decode-header.ensures)
