-- `lent::check` meets its contract, by whether the sizes are right.
use mathlib.Core.Path.{sym, ◌∙◌}
use Rattle.lent.proofs.CheckLaws.{sized-is, check-sizes, check-pairs}
use Rattle.lent.proofs.check.Goals as goal

pub contents-requires : goal.contents-requires
contents-requires c = sized-is _ _ (sym c.is_sized.ensures ∙ c.if-is_sized.true)

pub returns-then-is_sized : goal.returns-then-is_sized
returns-then-is_sized c = c.contents.ensures ∙ check-pairs _ _ (sym c.is_sized.ensures ∙ c.if-is_sized.true)

pub returns : goal.returns
returns c = check-sizes _ _ (sym c.is_sized.ensures ∙ c.if-is_sized.false)
