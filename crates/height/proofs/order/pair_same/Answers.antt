-- `height::order::pair_same` meets its contract: what the answer of `of_pairs` says.
use Rattle.height.proofs.Compare.{is-equal}
use Rattle.height.proofs.order.pair_same.Goals as goal

pub returns : goal.returns
returns c = rw (c.is_equal.ensures, c.of_pairs.ensures) (is-equal 5 _ _)
