-- `tables::cells::take_first` meets its contract. The loop's invariant: words 1 to i - 1 are those eight words on, the others as they were.
use Prim.Native.Nat.{ℕ, ◌-◌}
use mathlib.Core.Path.{◌≡◌}
use mathlib.Core.List.{List}
use lib.ListN.{drop}
use lib.Seq.{paste}
use Rattle.tables.proofs.cells.take_first.Given as goal

-- the first k of the words that move have moved up one slot
abbrev pub moved : List ℕ → ℕ → List ℕ
moved cell k = paste cell 1 (drop 9 cell) k

abbrev pub invariant-loop-i : goal.invariant-loop-i
invariant-loop-i l = l.cell ≡ moved l.initial.cell (l.i - 1)
