-- `height::order::level_before` meets its contract: what the answer of `of_levels` says.
use Rattle.height.proofs.Compare.{is-less}
use Rattle.height.proofs.order.level_before.Goals as goal

pub returns : goal.returns
returns c = rw (c.is_less.ensures, c.of_levels.ensures) (is-less 1 _ _)
