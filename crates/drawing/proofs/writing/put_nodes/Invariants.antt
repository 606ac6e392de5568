-- `drawing::writing::put_nodes` meets its contract: the lines of the nodes before k have been poured.
use Rattle.dot.specs.Graph.{node_line}
use Rattle.text.proofs.PourLaws.{Printed}
use Rattle.drawing.proofs.writing.put_nodes.Given as goal

abbrev pub invariant-loop-k : goal.invariant-loop-k
invariant-loop-k l = Printed l.n node_line l.initial.out l.at l.out l.offset l.k
