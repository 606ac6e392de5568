-- `bits::pack` meets its contract. The invariant (`Packing`): the fields so far are the full numbers and the bits held.
use Rattle.bits.proofs.Packing.{Packing}
use Rattle.bits.proofs.pack.Given as goal

abbrev pub invariant-loop-k : goal.invariant-loop-k
invariant-loop-k l = Packing l.widths l.values l.full l.held l.count l.j l.k
