-- `height::order::of_levels` meets its contract: the three parts of the levels, one after the other.
use mathlib.Core.Path.{sym}
use Rattle.height.proofs.Compare.{order-levels}
use Rattle.height.proofs.order.of_levels.Goals as goal

pub returns : goal.returns
returns c =
    rw (
      c.and_then-2.ensures,
      c.and_then.ensures,
      c.of_words-r.ensures,
      c.of_words-oid.ensures,
      c.of_words-tau.ensures,
    )
    (sym (order-levels _ _))
