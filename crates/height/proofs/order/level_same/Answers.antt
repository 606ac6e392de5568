-- `height::order::level_same` meets its contract: what the answer of `of_levels` says.
use Rattle.height.proofs.Compare.{is-equal}
use Rattle.height.proofs.order.level_same.Goals as goal

pub returns : goal.returns
returns c = rw (c.is_equal.ensures, c.of_levels.ensures) (is-equal 1 _ _)
