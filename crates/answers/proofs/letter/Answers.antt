-- `answers::letter` meets its contract: what the answer says, by SaidFields.antt.
use mathlib.Core.Path.{sym, ◌∙◌}
use Rattle.answers.proofs.SaidFields.{done-letter, refused-letter}
use Rattle.answers.proofs.letter.Goals as goal

pub returns-in-Ok : goal.returns-in-Ok
returns-in-Ok c = c.rule_letter.ensures ∙ sym (done-letter _ _ c.in-Ok.is)

pub returns-in-Err : goal.returns-in-Err
returns-in-Err c = sym (refused-letter _ _ c.in-Err.is)
