-- `drawing::writing::is_arrow` meets its contract: both looks, and the comparison of own heights.
use Rattle.drawing.proofs.Pours.{points-is}
use Rattle.drawing.proofs.writing.is_arrow.Goals as goal

pub returns : goal.returns
returns c =
    let is-up2 = c.is_up-2 in
    let is_up = c.is_up in
    points-is _ _ _ is_up.ensures is-up2.ensures c.own-low.ensures c.own-high.ensures c.height_before.ensures
