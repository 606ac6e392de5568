-- `groups::group_of` meets its contract: refused with 1, 2 or 18 by the check, or by the node's number.
use mathlib.Core.Path.{◌∙◌}
use Rattle.groups.specs.Group.{group_on}
use Rattle.std.proofs.lemmas.Result.{err_from_is_err_and}
use Rattle.groups.proofs.AnswerLaws.{checked_refused, checked-sound}
use Rattle.groups.proofs.group_of.Goals as goal

pub returns : goal.returns
unfolding group_on
returns c = c.named.ensures ∙ checked-sound _ _ c.check.ensures _ _ c.in_ok-check.was

pub returns-in_err-check : goal.returns-in_err-check
unfolding group_on
returns-in_err-check c =
    let p = err_from_is_err_and c.from_residual.result c.from_residual.ensures.1 in
    rw (p.1, p.2) (checked_refused _ _ c.check.ensures _ _ c.in_err-check.was)
