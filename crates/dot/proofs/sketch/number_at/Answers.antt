-- `dot::sketch::number_at` meets its contract: no number where there are no bytes, else the one of these digits.
use mathlib.Core.Path.{refl, ◌∙◌}
use Rattle.dot.proofs.Reading.{no_number, number_is}
use Rattle.dot.proofs.sketch.number_at.Goals as goal

pub returns-then-text-end : goal.returns-then-text-end
returns-then-text-end c =
    no_number c.args.text.now c.args.at _ c.digits_at.ensures.0 c.if-text-end.true

pub returns : goal.returns
returns c =
    c.unwrap_or.ensures ∙ c.number.ensures.says ∙ number_is c.args.text.now c.args.at _ c.digits_at.ensures.0 _ refl
