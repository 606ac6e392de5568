-- `drawing::linking::link_all` meets its contract: what is left to link is the rest of the plot.
use Prim.Native.Nat.{◌-◌}
use lib.ListN.{length}
use Rattle.tables.specs.Tables.{tables}
use Rattle.drawing.proofs.Walks.{Linking}
use Rattle.drawing.proofs.linking.link_all.Given as goal

abbrev pub invariant-loop-at : goal.invariant-loop-at
invariant-loop-at l = Linking l.n l.text (tables l.nodes l.channels) l.at

abbrev pub decreases-loop-at : goal.decreases-loop-at
decreases-loop-at l = length l.text - l.at
