-- `tables::cells::is_unused_after` meets its contract. The invariant: the whole answer is that of the four results and of the words from i on.
-- The measure is what is left of the cell.
use Prim.Native.Nat.{◌+◌, ◌-◌, ◌*◌}
use Rattle.tables.proofs.Zeros.{SlotsFrom}
use Rattle.tables.proofs.cells.is_unused_after.Given as goal

abbrev pub invariant-loop-i : goal.invariant-loop-i
invariant-loop-i l = SlotsFrom l.cell (1 + l.count * 8) l.p l.q l.r l.s l.i

abbrev pub decreases-loop-i : goal.decreases-loop-i
decreases-loop-i l = 65 - l.i
