-- `dot::sketch::nodes_from` meets its contract: what is counted from the next line on is the rest of the answer.
use Rattle.dot.proofs.Walking.{NodesTo}
use Rattle.dot.proofs.sketch.nodes_from.Given as goal

abbrev pub invariant-loop-k : goal.invariant-loop-k
invariant-loop-k l = NodesTo l.text l.at l.end l.k
