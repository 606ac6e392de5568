-- `nodeset::first` meets its contract: the lowest node stands at the bit above the trailing zeros.
use native.Mathlib.Omega.{arith}
use lib.Count.{trailing_le}
use Rattle.nodeset.proofs.Walk.{trailing-lowest}
use Rattle.nodeset.proofs.first.Goals as goal

pub overflow_add-result : goal.overflow_add-result
overflow_add-result c = omega (arith, trailing_le 16 c.args.s)

pub returns : goal.returns
returns c = trailing-lowest c.args.s
