-- `height::order::pair_before` meets its contract: what the answer of `of_pairs` says.
use Rattle.height.proofs.Compare.{is-less}
use Rattle.height.proofs.order.pair_before.Goals as goal

pub returns : goal.returns
returns c = rw (c.is_less.ensures, c.of_pairs.ensures) (is-less 5 _ _)
