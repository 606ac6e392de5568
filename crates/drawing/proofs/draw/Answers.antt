-- `drawing::draw` meets its contract: refused with 1, 2 or 18 by the check, or the drawing of checked tables.
use Rattle.std.proofs.Common.{◌∙◌}
use Rattle.std.proofs.lemmas.Result.{err_from_is_err_and}
use Rattle.lent.proofs.PutLaws.{put-sound, put-turned-away}
use Rattle.drawing.specs.Draw.{draw_on}
use Rattle.drawing.proofs.draw.Goals as goal

pub returns-in_err-check : goal.returns-in_err-check
unfolding draw_on
returns-in_err-check c =
    let p = err_from_is_err_and c.from_residual.result c.from_residual.ensures.1 in
    rw (p.1, p.2) (put-turned-away _ _ c.check.ensures _ _ c.in_err-check.was)

pub returns : goal.returns
unfolding draw_on
returns c = c.checked.ensures ∙ put-sound _ _ c.check.ensures _ _ c.in_ok-check.was
