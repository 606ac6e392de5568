-- `lent::filling::fill` meets its contract. The invariant: the rows below u are written, the others are zero.
use Rattle.lent.proofs.FilledLaws.{FilledTo}
use Rattle.lent.proofs.filling.fill.Given as goal

abbrev pub invariant-loop-u : goal.invariant-loop-u
invariant-loop-u l = FilledTo l.n l.u l.nodes
