-- `image::records::get_records` meets its contract. The invariant: the first k are got.
use Rattle.bits.specs.Bits.{unpacked}
use Rattle.image.proofs.PartTurns.{Getting}
use Rattle.image.proofs.records.get_records.Given as goal

abbrev pub invariant-loop-k : goal.invariant-loop-k
invariant-loop-k l = Getting l.depth l.size l.width l.count (unpacked l.bytes) l.initial.words l.at l.place l.k l.words
