-- `answers::sent` meets its contract: what the answer says, by SaidFields.antt.
use mathlib.Core.Path.{sym, ap, ◌∙◌}
use lib.Count.{ones}
use Rattle.answers.proofs.SaidFields.{done-set, refused-set}
use Rattle.answers.proofs.sent.Goals as goal

pub returns-in-Ok : goal.returns-in-Ok
returns-in-Ok c = c.count.ensures ∙ ap ones (sym (done-set _ _ c.in-Ok.is))

pub returns-in-Err : goal.returns-in-Err
unfolding ones
returns-in-Err c = ap ones (sym (refused-set _ _ c.in-Err.is))
