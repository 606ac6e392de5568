-- `tables::cells::append` meets its contract: the stores are those of `appended`, in its order.
use native.Mathlib.Omega.{arith}
use lib.ListN.{length-set}
use Rattle.tables.specs.inner.Written.{appended}
use Rattle.tables.proofs.cells.append.Goals as goal

pub bounds-cell-0-2 : goal.bounds-cell-0-2
bounds-cell-0-2 c = simp length-set (omega arith)

pub returns : goal.returns
unfolding appended
returns c = rw (c.store_height.ensures, c.slot_start-slot.ensures)
