-- `lent::fresh` meets its contract, by whether the sizes are right.
use mathlib.Core.Path.{sym, ◌∙◌}
use Rattle.lent.proofs.CheckLaws.{sized-is}
use Rattle.lent.proofs.FilledLaws.{fresh-sized, fresh-sizes}
use Rattle.lent.proofs.fresh.Goals as goal

pub fill-requires : goal.fill-requires
fill-requires c = sized-is _ _ (sym c.is_sized.ensures ∙ c.if-is_sized.true)

pub returns-then-is_sized : goal.returns-then-is_sized
returns-then-is_sized c =
    let right = sym c.is_sized.ensures
    ∙ c.if-is_sized.true in
    fresh-sized _ _ right c.fill.ensures

pub returns : goal.returns
returns c = fresh-sizes _ _ (sym c.is_sized.ensures ∙ c.if-is_sized.false)
