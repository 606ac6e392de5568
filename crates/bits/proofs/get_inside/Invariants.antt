-- `bits::get_inside` meets its contract. The invariant (`Seen`): the first values are got, and the 64 bits looked at hold the next field or are used up.
use Rattle.bits.proofs.Seeing.{Seen}
use Rattle.bits.proofs.get_inside.Given as goal

abbrev pub invariant-loop-k : goal.invariant-loop-k
invariant-loop-k l = Seen l.widths l.initial.values l.bytes l.at l.values l.start l.seen l.used l.k
