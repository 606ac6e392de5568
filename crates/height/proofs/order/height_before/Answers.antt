-- `height::order::height_before` meets its contract: what the answer of `of_heights` says.
use Rattle.height.proofs.Compare.{said-less}
use Rattle.height.proofs.order.height_before.Goals as goal

pub returns : goal.returns
returns c = rw c.is_less.ensures (said-less _ _ c.of_heights.result c.of_heights.ensures)
