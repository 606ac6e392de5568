-- Reading a sketch into lent tables, whatever they held before: what it answers and what they are afterwards.
-- 16 by the whole text; 1 by the text's own number of nodes; 17 by its links; else the plot grown from fresh by the ups that it names.
use Rattle.std.specs.Prelude.{ℕ, cond, List, [], eqb}
use Rattle.calls.specs.History.{grown}
use Rattle.dot.specs.Sketch.{Sketch, sketch_of}
use Rattle.dot.specs.declared.Edge.{Edge}
use Rattle.refusal.specs.Outcome.{Answered, Outcome, outcome}
use Rattle.refusal.specs.Refusal.{why}
use Rattle.refusal.specs.declared.Why.{Why}
use Rattle.tables.specs.Load.{tables_of}
use Rattle.tables.specs.Tables.{Tables, sized}
use Rattle.drawing.specs.Links.{links_hold, ups_of}

-- 17, or the plot
unfoldable pub read_links : ℕ → List Edge → Tables → Outcome Why Tables
read_links n es t =
    cond (links_hold n [] es) (outcome (why 0 0 0) (tables_of n (grown n (ups_of es)).network)) (outcome (why 17 0 0) t)

-- 1, or on
unfoldable pub read_sized : ℕ → List Edge → Tables → Outcome Why Tables
read_sized n es t = cond (sized n t) (read_links n es t) (outcome (why 1 0 0) t)

-- by what the text says: 16, or on
unfoldable pub read_sketch : Answered Sketch → Tables → Outcome Why Tables
read_sketch s t = cond (eqb s.why.number 0) (read_sized s.value.nodes s.value.edges t) (outcome s.why t)

unfoldable pub read_on : List ℕ → Tables → Outcome Why Tables
read_on xs t = read_sketch (sketch_of xs) t

-- how many nodes a text has; 0 where it is not of the form
unfoldable pub nodes_of : List ℕ → ℕ
nodes_of xs = (sketch_of xs).value.nodes
