-- `tables::rows::put_head` meets its contract: the stores are those of `with_head`, in its order.
use native.Mathlib.Omega.{arith}
use mathlib.Core.Path.{refl}
use lib.ListN.{length-set}
use Rattle.tables.specs.inner.Written.{with_head}
use Rattle.tables.proofs.rows.put_head.Goals as goal

pub bounds-row-1 : goal.bounds-row-1
bounds-row-1 c = simp length-set (omega arith)

pub bounds-row-2 : goal.bounds-row-2
bounds-row-2 c = simp length-set (omega arith)

pub shape_of-row : goal.shape_of-row
shape_of-row c = simp length-set

pub returns : goal.returns
unfolding with_head
returns c = refl
