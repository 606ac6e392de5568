-- `drawing::writing::put_arrows_from` meets its contract: the lines of the nodes before b have been poured.
use Rattle.dot.specs.Graph.{arrow, edge_lines}
use Rattle.tables.specs.Load.{load}
use Rattle.tables.specs.Tables.{tables}
use Rattle.text.proofs.PourLaws.{Printed}
use Rattle.drawing.specs.Drawing.{arrow_to}
use Rattle.drawing.proofs.writing.put_arrows_from.Given as goal

abbrev pub invariant-loop-b : goal.invariant-loop-b
invariant-loop-b l = Printed l.plot.n (λ b. edge_lines arrow (arrow_to (load l.plot.n (tables l.plot.nodes.now l.plot.channels.now)) l.a b)) l.initial.out l.at l.out
    l.offset l.b
