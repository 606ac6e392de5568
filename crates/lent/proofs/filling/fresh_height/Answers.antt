-- `lent::filling::fresh_height` meets its contract: node k elects itself at the clock 0.
use native.Mathlib.Omega.{arith}
use Rattle.height.specs.inner.Stored.{Negated}
use Rattle.lent.proofs.filling.fresh_height.Goals as goal

pub returns : goal.returns
unfolding Negated
returns c = (c.self_elected.ensures, rw c.self_elected.ensures (omega arith))
