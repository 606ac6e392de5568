-- `drawing::nodes_of` meets its contract: the nodes of the form, or none.
use mathlib.Core.Path.{sym}
use Rattle.drawing.specs.Read.{nodes_of}
use Rattle.drawing.proofs.nodes_of.Goals as goal

pub returns-in-Some : goal.returns-in-Some
unfolding nodes_of
returns-in-Some c = c.in-Some.ensures.some.0

pub returns-in-None : goal.returns-in-None
unfolding nodes_of
returns-in-None c = sym c.in-None.ensures.none
