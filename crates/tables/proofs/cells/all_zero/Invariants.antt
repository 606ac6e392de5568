-- `tables::cells::all_zero` meets its contract. The loop's invariant: the whole answer is that the words joined so far are zero and that
-- the rest is all zero.
use mathlib.Core.Path.{◌≡◌}
use mathlib.Core.Bool.{◌&&◌}
use lib.Dec.{eqb}
use lib.ListN.{drop}
use Rattle.tables.specs.Cell.{all_zero}
use Rattle.tables.proofs.cells.all_zero.Given as goal

abbrev pub invariant-loop-word : goal.invariant-loop-word
invariant-loop-word l = all_zero l.words ≡ (eqb l.seen 0 && all_zero (drop l.word-index l.words))
