-- `image::records::put_records` meets its contract. The invariant: the first k are put.
use Rattle.image.proofs.PartTurns.{Putting}
use Rattle.image.proofs.records.put_records.Given as goal

abbrev pub invariant-loop-k : goal.invariant-loop-k
invariant-loop-k l = Putting l.depth l.size l.width l.count l.words l.initial.buf l.at l.place l.k l.buf
