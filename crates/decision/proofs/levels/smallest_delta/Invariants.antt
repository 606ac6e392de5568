-- `decision::levels::smallest_delta` meets its contract. The loop's invariant: the depths of the nodes below w, beside the least so far where one
-- was found, have the smallest depth of all.
use Prim.Native.Nat.{◌-◌}
use Rattle.nodeset.specs.NodeSet.{member}
use Rattle.decision.specs.inner.After.{seen}
use Rattle.decision.proofs.SmallestDelta.{Least}
use Rattle.decision.proofs.levels.smallest_delta.Given as goal

abbrev pub invariant-loop-w : goal.invariant-loop-w
invariant-loop-w l = Least (member l.set) (seen l.views.row.now l.views.v l.views.view) l.level l.views.n l.least (l.w - 1)
