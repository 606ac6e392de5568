-- `dot::sketch::edges_end` meets its contract: the lines from `end` on are the rest of those from `at` on.
use Prim.Native.Nat.{◌-◌}
use lib.ListN.{length}
use Rattle.dot.proofs.Walking.{EdgesTo}
use Rattle.dot.proofs.sketch.edges_end.Given as goal

abbrev pub invariant-loop-end : goal.invariant-loop-end
invariant-loop-end l = EdgesTo l.text l.at l.end

abbrev pub decreases-loop-end : goal.decreases-loop-end
decreases-loop-end l = length l.text - l.end
