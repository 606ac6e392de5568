-- `image_snapshot::restore` meets its contract: 10 or 11 by the header, or the restore of an image of its n nodes.
use mathlib.Core.Path.{◌∙◌}
use Rattle.image_snapshot.proofs.RestoreLaws.{refused, headed-refused, headed-good, good-fields}
use Rattle.image_snapshot.proofs.restore.Goals as goal

pub returns-in_default : goal.returns-in_default
returns-in_default c = headed-refused _ _ c.decode-header.ensures (refused c.in_default.is) c.turned_away.ensures

pub headed-requires : goal.headed-requires
headed-requires c =
    let g = good-fields _ (rw c.in-Ok.is at c.decode-header.ensures) in
    (g.low, g.few)

pub returns : goal.returns
returns c = c.headed.ensures ∙ headed-good _ _ (rw c.in-Ok.is at c.decode-header.ensures)
