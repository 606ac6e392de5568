-- `answers::number` meets its contract: what the answer says, by SaidFields.antt.
use mathlib.Core.Path.{sym, ◌∙◌}
use Rattle.answers.proofs.SaidFields.{done-number, refused-number}
use Rattle.answers.proofs.number.Goals as goal

pub returns-in-Ok : goal.returns-in-Ok
returns-in-Ok c = sym (done-number _ _ c.in-Ok.is)

pub returns-in-Err : goal.returns-in-Err
returns-in-Err c = c.number.ensures ∙ sym (refused-number _ _ c.in-Err.is)
