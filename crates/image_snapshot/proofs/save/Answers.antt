-- `image_snapshot::save` meets its contract: refused with 1, 2 or 18 by the check, or the save of checked tables.
use mathlib.Core.Path.{refl, ◌∙◌}
use Rattle.std.proofs.lemmas.Result.{err_from_is_err_and}
use Rattle.image_snapshot.specs.Save.{save_on}
use Rattle.lent.proofs.PutLaws.{passes, put-sound, put-turned-away}
use Rattle.image_snapshot.proofs.save.Goals as goal

pub returns-in_err-check : goal.returns-in_err-check
unfolding save_on
returns-in_err-check c =
    let p = err_from_is_err_and c.from_residual.result c.from_residual.ensures.1 in
    rw (p.1, p.2) (put-turned-away _ _ c.in_err-check.ensures _ _ refl)

pub checked-requires : goal.checked-requires
checked-requires c = passes _ _ c.in_ok-check.ensures refl

pub returns : goal.returns
unfolding save_on
returns c = c.checked.ensures ∙ put-sound _ _ c.in_ok-check.ensures _ _ refl
