-- `image_snapshot::looking::headed` meets its contract: 1 for the row, 2 or 12 by the checks, or the node at its place.
use mathlib.Core.Path.{◌∙◌}
use Rattle.std.proofs.lemmas.Result.{err_from_is_err_and}
use Rattle.image_snapshot.proofs.LookLaws.{node-sizes, node-faulty, node-sound}
use Rattle.image_snapshot.proofs.RestoreLaws.{sound-walks}
use Rattle.image_snapshot.proofs.looking.headed.Goals as goal

pub returns-then-row-fields : goal.returns-then-row-fields
returns-then-row-fields c = node-sizes _ _ _ _ _ _ c.if-row-fields.true

pub returns-in_err-examine : goal.returns-in_err-examine
returns-in_err-examine c =
    let p = err_from_is_err_and c.from_residual.result c.from_residual.ensures.1 in
    rw (p.1, p.2) (node-faulty _ _ _ _ _ _ c.if-row-fields.false _ c.in_err-examine.ensures)

pub placed-requires : goal.placed-requires
placed-requires c = (c.requires.0, c.requires.2, c.if-row-fields.false, sound-walks _ _ c.requires.2 c.in_ok-examine.ensures)

pub returns : goal.returns
returns c = c.placed.ensures ∙ node-sound _ _ _ _ _ _ c.if-row-fields.false c.in_ok-examine.ensures
