-- `groups::is_quiet` meets its contract: refused with 1, 2 or 18 by the check, or answered on tables that pass.
use mathlib.Core.Path.{ap, ◌∙◌}
use mathlib.Core.Bool.{Bool}
use Rattle.nodeset.specs.NodeSet.{digit}
use Rattle.refusal.specs.Outcome.{accepted}
use Rattle.groups.specs.Quiet.{quiet_on}
use Rattle.std.proofs.lemmas.Result.{err_from_is_err_and}
use Rattle.groups.proofs.AnswerLaws.{checked_refused, checked-sound}
use Rattle.groups.proofs.is_quiet.Goals as goal

pub returns : goal.returns
unfolding quiet_on
returns c = ap (λ (b : Bool). accepted (digit b)) c.is_quiet.ensures ∙ checked-sound _ _ c.check.ensures _ _ c.in_ok-check.was

pub returns-in_err-check : goal.returns-in_err-check
unfolding quiet_on
returns-in_err-check c =
    let p = err_from_is_err_and c.from_residual.result c.from_residual.ensures.1 in
    rw (p.1, p.2) (checked_refused _ _ c.check.ensures _ _ c.in_err-check.was)
