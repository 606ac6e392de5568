-- `drawing::writing::put_arrow` meets its contract: the line of an arrow, or nothing.
use Rattle.text.proofs.PourLaws.{both, named-so}
use Rattle.drawing.proofs.Pours.{arrow-there, arrow-missing, nothing-poured}
use Rattle.drawing.proofs.writing.put_arrow.Goals as goal

pub returns-then-is_arrow : goal.returns-then-is_arrow
returns-then-is_arrow c =
    let put-edge = c.put_edge in
    let if1 = c.if-is_arrow in
    let is-arrow = c.is_arrow in
    named-so (both put-edge.ensures.0 put-edge.ensures.1) (arrow-there _ _ _ _ is-arrow.ensures if1.true)

pub returns : goal.returns
returns c = named-so (nothing-poured _ _) (arrow-missing _ _ _ _ c.is_arrow.ensures c.if-is_arrow.false)
