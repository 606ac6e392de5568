-- `drawing::linking::all_new` meets its contract: what is left to check is the rest of the answer.
use Prim.Native.Nat.{◌-◌}
use lib.ListN.{length}
use Rattle.drawing.proofs.Walks.{Checking}
use Rattle.drawing.proofs.linking.all_new.Given as goal

abbrev pub invariant-loop-at : goal.invariant-loop-at
invariant-loop-at l = Checking l.n l.text l.seen l.at

abbrev pub decreases-loop-at : goal.decreases-loop-at
decreases-loop-at l = length l.text - l.at
