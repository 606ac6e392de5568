-- `drawing::writing::put_arrows` meets its contract: the lines of the arrows from the nodes before a have been poured.
use Rattle.dot.specs.Graph.{arrow, edge_lines}
use Rattle.tables.specs.Load.{load}
use Rattle.tables.specs.Tables.{tables}
use Rattle.text.specs.Text.{in_turn}
use Rattle.text.proofs.PourLaws.{Printed}
use Rattle.drawing.specs.Drawing.{arrow_to}
use Rattle.drawing.proofs.writing.put_arrows.Given as goal

abbrev pub invariant-loop-a : goal.invariant-loop-a
invariant-loop-a l = Printed l.plot.n (λ a. in_turn l.plot.n (λ b. edge_lines arrow (arrow_to (load l.plot.n (tables l.plot.nodes.now l.plot.channels.now)) a b)))
    l.initial.out l.at l.out l.offset l.a
