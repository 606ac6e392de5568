-- `drawing::linking::mark` meets its contract: each end enters the other's set.
use native.Mathlib.Omega.{arith}
use lib.ListN.{length-set}
use Rattle.drawing.proofs.Marks.{marked-as}
use Rattle.drawing.proofs.linking.mark.Goals as goal

pub bounds-seen-j : goal.bounds-seen-j
bounds-seen-j c =
    simp length-set (omega (arith, c.requires.1.other.low, c.requires.1.other.high, c.requires.0, c.requires.2))

pub bounds-seen-j-2 : goal.bounds-seen-j-2
bounds-seen-j-2 c =
    simp length-set (omega (arith, c.requires.1.other.low, c.requires.1.other.high, c.requires.0, c.requires.2))

pub returns : goal.returns
returns c =
    marked-as _ c.requires.0 _ c.requires.1 _ c.insert.ensures c.insert-2.ensures
